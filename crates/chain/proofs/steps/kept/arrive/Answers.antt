-- `chain::steps::kept::arrive` meets its contract: the tests before, then the rows. Assumes nothing.
use Rattle.std.proofs.Common.{◌≡◌, ℕ, ◌≤◌, ℤ, pos, nat_abs, to_z, of_z, w64, get_or, sym, ◌∙◌, ap, arith}
use mathlib.Core.Path.{ap₂}
use Rattle.std.proofs.lemmas.Result.{err_from_is_err_and}
use Rattle.refusal.specs.Order.{first}
use Rattle.refusal.specs.Refusals.{number}
use Rattle.refusal.proofs.Refusals.{not-none}
use Rattle.rounding.proofs.Machine.{told}
use Rattle.ranges.proofs.Ranges.{natural}
use Rattle.chain.specs.declared.Realization.{Realization}
use Rattle.chain.specs.Ways.{by_way, in_order}
use Rattle.chain.specs.Convert.{arrival_of}
use Rattle.chain.specs.Prepared.{length_in, rows_of, prepared_tests, carried, reached_with}
use Rattle.chain.proofs.Answering.{ends-are}
use Rattle.chain.proofs.KeptTurns.{wanted_in, prepared-passed, prepared-refuses, prepared-goes}
use Rattle.chain.proofs.steps.kept.arrive.Goals as goal

pub returns-in_err-prepared_fault : goal.returns-in_err-prepared_fault
returns-in_err-prepared_fault c =
    let x = c.args in
    let l = x.numbers.now in
    let p = err_from_is_err_and c.from_residual.result c.from_residual.ensures.1 in
    let length : to_z w64 (of_z w64 (get_or l 0 (pos 0))) ≡ length_in l = told c.n-1.given in
    let own = ends-are x.direction _ _ _ _ _ c.either.ensures c.start_in-start.ensures c.end_in-end.ensures in
    rw (p.1, p.2) (ap arrival_of (
    prepared-refuses x.direction l x.point (number c.in_err-prepared_fault.field-0.0)
    (c.in_err-prepared_fault.ensures ∙ ap₂ (λ (n : ℤ) (r : Realization). first (prepared_tests n r x.point)) length own)
    (not-none _)))

pub carry-requires : goal.carry-requires
carry-requires c =
    let x = c.args in
    let l = x.numbers.now in
    let length : to_z w64 (of_z w64 (get_or l 0 (pos 0))) ≡ length_in l = told c.n-1.given in
    let own = ends-are x.direction _ _ _ _ _ c.either.ensures c.start_in-start.ensures c.end_in-end.ensures in
    let passed = sym (c.in_ok-prepared_fault.ensures ∙ ap₂ (λ (n : ℤ) (r : Realization). first (prepared_tests n r x.point)) length own) in
    let good = prepared-passed (length_in l) (wanted_in x.direction l x.point) x.point passed in
    let n = natural 0 (length_in l) 8 good.0 in
    let small : nat_abs (length_in l) ≤ 8 = rw n.is n.high in
    let counted : c.count.result ≡ nat_abs (length_in l) = c.count.ensures ∙ ap nat_abs length in
    (omega arith, good.1)

pub returns : goal.returns
returns c =
    let x = c.args in
    let l = x.numbers.now in
    let length : to_z w64 (of_z w64 (get_or l 0 (pos 0))) ≡ length_in l = told c.n-1.given in
    let own = ends-are x.direction _ _ _ _ _ c.either.ensures c.start_in-start.ensures c.end_in-end.ensures in
    let other = ends-are x.direction _ _ _ _ _ c.either-2.ensures c.end_in-end.ensures c.start_in-start.ensures in
    let passed = sym (c.in_ok-prepared_fault.ensures ∙ ap₂ (λ (n : ℤ) (r : Realization). first (prepared_tests n r x.point)) length own) in
    c.carry.ensures
    ∙ ap arrival_of (
    ap₂ (λ (r : Realization) (k : ℕ). carried (by_way x.direction) x.point r (in_order x.direction (rows_of l 1 k)) x.point.position)
    (c.reached_with-reached.ensures ∙ ap₂ (λ (k : ℤ) (r : Realization). reached_with k x.point.realization r) length other)
    (c.count.ensures ∙ ap nat_abs length)
    ∙ prepared-goes x.direction l x.point passed)
