-- `sheet_rules::decide::lent::print_moved` meets its contract. Assumes nothing.
use mathlib.Core.Path.{◌≡◌, refl, sym, subst}
use mathlib.Core.Bool.{Bool, true, false}
use mathlib.Core.List.{List}
use Prim.Native.Nat.{ℕ}
use lib.IntN.{ℤ}
use mir.Syntax.{w64}
use mir.Val.{to_z, of_z}
use borrow.Author.Rules.{rules}
use Rattle.std.specs.Prelude.{Option}
use Rattle.refusal.specs.Refusals.{number}
use Rattle.chain.specs.Numbers.{chain_from}
use Rattle.chain.proofs.Accepted.{arrival-refused, forward-arrived}
use Rattle.sheet_rules.specs.declared.LentPoint.{LentPoint}
use Rattle.sheet_rules.specs.declared.Reply.{Reply}
use Rattle.sheet_rules.specs.declared.Reply.TheVariants as reply
use Rattle.sheet_rules.specs.OneLine.{where_good, PointPrinted}
use Rattle.sheet_rules.proofs.Points.{unconverted-answered, printed-so, moved-printed}
use Rattle.sheet_rules.proofs.decide.lent.print_moved.Goals as goal

-- the profile is read as it was handed over
tested : (y : ℤ) (steps : List ℤ) (r : Reply) (b : Bool) {z : ℤ} {out new : List ℕ} {at : ℕ} {p : Option LentPoint}
    → z ≡ y → PointPrinted (where_good (chain_from z steps) r b) out at new p → PointPrinted (where_good (chain_from y steps) r b) out at new p
tested y steps r b {out = out} {new = new} {at = at} {p = p} e h = subst (λ (z : ℤ). PointPrinted (where_good (chain_from z steps) r b) out at new p) e h

pub returns-in-Err : goal.returns-in-Err
returns-in-Err c =
    let a = c.args in
    let y : to_z w64 (of_z w64 a.profile) ≡ a.profile = search rules in
    let f = sym (arrival-refused _ (rw y at c.in-Err.ensures)) in
    printed-so (unconverted-answered (chain_from a.profile a.steps.now) a.line false a.text.now a.point c.requires.0 refl (number c.in-Err.refusal) f refl)
    (tested a.profile a.steps.now (reply.Refused a.line (number c.in-Err.refusal) 0) true y c.print_tested.ensures)

pub returns-in-Ok : goal.returns-in-Ok
returns-in-Ok c =
    let a = c.args in
    let y : to_z w64 (of_z w64 a.profile) ≡ a.profile = search rules in
    let k = chain_from a.profile a.steps.now in
    let f = sym (forward-arrived k a.point (rw y at c.in-Ok.ensures)) in
    moved-printed k a.text.now a.point c.requires.0 _ f a.line (rw c.requires.1 at c.write_moved.ensures)
