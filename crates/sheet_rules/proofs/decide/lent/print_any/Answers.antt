-- `sheet_rules::decide::lent::print_any` meets its contract. Assumes nothing.
use mathlib.Core.Path.{◌≡◌, refl, sym, ◌∙◌, ap, subst}
use mathlib.Core.Bool.{Bool, true, false}
use mathlib.Core.List.{List}
use Prim.Native.Nat.{ℕ}
use lib.IntN.{ℤ}
use mir.Syntax.{w64}
use mir.Val.{to_z, of_z}
use borrow.Author.Rules.{rules}
use Rattle.std.specs.Prelude.{Option}
use Rattle.refusal.specs.Numbers.{earlier}
use Rattle.refusal.specs.Refusals.{number}
use Rattle.chain.specs.Numbers.{chain_from}
use Rattle.line.specs.declared.PlacedLine as placed
use Rattle.line.specs.Answers.{fault_told, line_told, placed_told}
use Rattle.line.specs.Readers.{read_point, one_point}
use Rattle.line.proofs.AsWritten.{one-read}
use Rattle.sheet_rules.specs.declared.LentPoint.{LentPoint}
use Rattle.sheet_rules.specs.declared.Reply.{Reply}
use Rattle.sheet_rules.specs.declared.Reply.TheVariants as reply
use Rattle.sheet_rules.specs.OneLine.{where_good, PointPrinted}
use Rattle.sheet_rules.proofs.Answers.{as-malformed, as-refused}
use Rattle.sheet_rules.proofs.Points.{malformed-answered, refused-answered, earlier-answered, printed-so}
use Rattle.sheet_rules.proofs.decide.lent.print_any.Goals as goal

-- the profile is read as it was handed over
tested : (y : ℤ) (steps : List ℤ) (r : Reply) (b : Bool) {z : ℤ} {out new : List ℕ} {at : ℕ} {p : Option LentPoint}
    → z ≡ y → PointPrinted (where_good (chain_from z steps) r b) out at new p → PointPrinted (where_good (chain_from y steps) r b) out at new p
tested y steps r b {out = out} {new = new} {at = at} {p = p} e h = subst (λ (z : ℤ). PointPrinted (where_good (chain_from z steps) r b) out at new p) e h

-- what the line reads as
line_read : (y : ℤ) (text : List ℕ) (r : placed.PlacedLine) {z : ℤ} → z ≡ y → placed_told r ≡ one_point z text → read_point y text ≡ line_told r.line
line_read y text r e h = sym (one-read y text {r = placed_told r} (rw e at h)).0

pub returns-then-refused : goal.returns-then-refused
returns-then-refused c =
    let a = c.args in
    let y : to_z w64 (of_z w64 a.profile) ≡ a.profile = search rules in
    printed-so (earlier-answered (chain_from a.profile a.steps.now) a.line a.refused a.text.now _
    (line_read a.profile a.text.now _ y c.read_one-read.ensures ∙ ap line_told c.in-Ok.is) c.if-refused.true refl)
    (tested a.profile a.steps.now (reply.Refused a.line earlier 0) true y c.print_tested-then-refused.ensures)

pub print_moved-requires : goal.print_moved-requires
print_moved-requires c =
    let o = one-read _ _ {r = placed_told c.read_one-read.result} c.read_one-read.ensures in
    (sym o.0 ∙ ap line_told c.in-Ok.is, o.1)

pub returns-in-Err-Malformed : goal.returns-in-Err-Malformed
returns-in-Err-Malformed c =
    let a = c.args in
    let m = c.in-Err-Malformed in
    let y : to_z w64 (of_z w64 a.profile) ≡ a.profile = search rules in
    let r = line_read a.profile a.text.now _ y c.read_one-read.ensures ∙ as-malformed _ _ _ m.is (rw m.is at m.field-0-is) in
    printed-so (malformed-answered (chain_from a.profile a.steps.now) a.line a.refused a.text.now (fault_told m.fault) r refl)
    (tested a.profile a.steps.now (reply.Refused a.line (number m.fault.refusal) m.fault.place) false y c.print_tested.ensures)

pub returns-in-Err-Refused : goal.returns-in-Err-Refused
returns-in-Err-Refused c =
    let a = c.args in
    let m = c.in-Err-Refused in
    let y : to_z w64 (of_z w64 a.profile) ≡ a.profile = search rules in
    let r = line_read a.profile a.text.now _ y c.read_one-read.ensures ∙ as-refused _ _ _ m.is (rw m.is at m.field-0-is) in
    printed-so (refused-answered (chain_from a.profile a.steps.now) a.line a.refused a.text.now (number m.refusal) r refl)
    (tested a.profile a.steps.now (reply.Refused a.line (number m.refusal) 0) true y c.print_tested-in-Err-Refused.ensures)
