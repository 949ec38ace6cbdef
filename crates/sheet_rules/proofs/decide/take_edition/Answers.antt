-- `sheet_rules::decide::take_edition` meets its contract. Assumes nothing.
use mathlib.Core.Path.{◌≡◌, refl, sym, ◌∙◌}
use native.Mathlib.Omega.{arith}
use mir.Syntax.{w64}
use mir.Val.{to_z, of_z}
use Rattle.sheet_rules.proofs.Laws.{gave-late-edition, gave-no-edition, gave-edition}
use borrow.Author.Rules.{rules}
use Rattle.sheet_rules.proofs.decide.take_edition.Goals as goal

pub returns-then-state-ne1 : goal.returns-then-state-ne1
returns-then-state-ne1 c =
    λ s l h.
    gave-late-edition h c.args.year (λ e. omega (arith, e)) _ (rw c.blocked-refused.ensures at c.refuse.ensures)

pub returns-then-not-is_profile : goal.returns-then-not-is_profile
returns-then-not-is_profile c =
    λ s l h.
    let y = c.args.year in
    let e : to_z w64 (of_z w64 y) ≡ y = search rules in
    gave-no-edition h y (omega arith) (sym (rw e at c.is_profile.ensures) ∙ c.if-not-is_profile.true) _ (rw c.blocked-refused.ensures at c.refuse-then-not-is_profile.ensures)

pub returns : goal.returns
returns c =
    λ s l h.
    let y = c.args.year in
    let e : to_z w64 (of_z w64 y) ≡ y = search rules in
    gave-edition h y (omega arith) (sym (rw e at c.is_profile.ensures) ∙ c.if-not-is_profile.false) _ refl (rw e)
