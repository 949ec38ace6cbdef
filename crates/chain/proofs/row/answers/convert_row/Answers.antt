-- `chain::row::answers::convert_row` meets its contract: the laws of a row, of the answers by their refusals' numbers. Assumes nothing.
use mathlib.Core.Path.{◌≡◌, sym, ◌∙◌, ap, ap₂}
use mathlib.Core.List.{List, map}
use Prim.Native.Nat.{ℕ, ◌+◌, ◌<◌, ◌≤◌}
use native.Mathlib.Omega.{arith}
use borrow.Author.Rules.{rules}
use lib.IntN.{ℤ}
use mir.Syntax.{w64}
use mir.Val.{to_z, of_z}
use lib.ListN.{length, get_or, set, length-map}
use Rattle.std.specs.Prelude.{Result, Err}
use Rattle.std.proofs.lemmas.List.{map-set}
use Rattle.refusal.specs.Order.{unless}
use Rattle.refusal.specs.Refusals.{number, told, fault_number}
use Rattle.refusal.specs.declared.Refusal.{Refusal}
use Rattle.refusal.proofs.Orders.{unless-none}
use Rattle.chain.specs.declared.Point.{Point}
use Rattle.chain.specs.Faults.{point_fault}
use Rattle.chain.specs.PointRow.{no_numbers, convert_of, convert_prepared}
use Rattle.chain.proofs.Readying.{prepared, prepared-converts}
use Rattle.chain.proofs.RowLaws.{row-too_few, row-of_bad, row-on, row-all}
use Rattle.chain.proofs.row.answers.convert_row.Goals as goal

-- as many answers by their numbers
as_many : (l : List (Result Point Refusal)) → length (map told l) ≡ length l
as_many l = length-map l (told {T = Point})

pub returns-then-answers-points : goal.returns-then-answers-points
returns-then-answers-points c =
    let s = c.args in
    let n = as_many s.answers.now in
    row-too_few s.chain s.direction s.points.now (map told s.answers.now) (omega (arith, n, c.if-answers-points.true))

pub returns-in_err-prepare : goal.returns-in_err-prepare
returns-in_err-prepare c =
    let s = c.args in
    let e = c.in_err-prepare.field-0.0 in
    let n = as_many s.answers.now in
    let r = row-of_bad s.chain s.direction s.points.now (map told s.answers.now) (omega (arith, n, c.if-answers-points.false)) e c.in_err-prepare.ensures.0 in
    let told : fault_number c.from_residual.result ≡ number e = search rules in
    (told ∙ r.0, r.1)

pub loop-i-preserved : goal.loop-i-preserved
loop-i-preserved c =
    let s = c.args in
    let k = c.loop-i in
    let n = as_many s.answers.now in
    let p = get_or s.points.now k.i _ in
    let good = sym c.in_ok-prepare.ensures.0 in
    let l = c.in_ok-prepare.ensures.1 ∙ unless-none _ (λ (n : ℕ). no_numbers) _ good in
    let y : to_z w64 (of_z w64 s.chain.profile) ≡ s.chain.profile = search rules in
    let by = ap₂ (λ (y : ℤ) (l : List ℤ). unless (point_fault y p) Err (convert_prepared s.direction l p)) y l in
    let r = c.convert_by.ensures ∙ by ∙ prepared-converts s.chain good s.direction p in
    let room : length s.points.now ≤ length (map told s.answers.now) = omega (arith, n, c.if-answers-points.false) in
    map-set told k.answers _ c.convert_by.result
    ∙ row-on s.chain s.direction s.points.now (map told s.answers.now) room k.i (map told k.answers) _ (told c.convert_by.result) k.invariant r
    c.loop-i-test.true (omega arith)

pub returns : goal.returns
returns c =
    let s = c.args in
    let k = c.loop-i in
    let n = as_many s.answers.now in
    let good = sym c.in_ok-prepare.ensures.0 in
    let done : k.i ≡ length s.points.now = omega (arith, k.auto.i-end, c.loop-i-test.false) in
    let room : length s.points.now ≤ length (map told s.answers.now) = omega (arith, n, c.if-answers-points.false) in
    row-all s.chain s.direction s.points.now (map told s.answers.now) room k.i (map told k.answers) k.invariant done good
