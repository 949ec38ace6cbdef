-- `sheet_rules::decide::decide_edition` meets its contract. Assumes nothing.
use mathlib.Core.Path.{◌≡◌, refl, sym}
use mathlib.Core.Bool.{true}
use Rattle.sheet_rules.proofs.Laws.{gave-refusal}
use mir.Syntax.{w64}
use mir.Val.{to_z, of_z}
use borrow.Author.Rules.{rules}
use Rattle.sheet_rules.proofs.decide.decide_edition.Goals as goal

pub returns-in-Err : goal.returns-in-Err
returns-in-Err c =
    λ s l h.
    rw (sym c.in-Err.ensures) (gave-refusal h true _ _ _ refl h.closed _ _ _ (rw c.blocked.ensures at c.refuse.ensures))

pub returns-in-Ok : goal.returns-in-Ok
returns-in-Ok c =
    λ s l h.
    let e : to_z w64 (of_z w64 c.in-Ok.year) ≡ c.in-Ok.year = search rules in
    rw (sym c.in-Ok.ensures) (rw e at c.take_edition.ensures s l h)
