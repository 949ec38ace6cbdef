-- `chain::steps::kept::extend` meets its contract. Assumes nothing.
use Rattle.std.proofs.Common.{◌≡◌, refl, ℕ, ◌+◌, ◌*◌, ◌≤◌, ℤ, pos, nat_abs, ◌+ℤ◌, to_z, of_z, w64, List, get_or, true, sym, ◌∙◌, ap, arith}
use mathlib.Core.Path.{ap₂}
use lib.Seq.{sets}
use mir.Val.{SFits}
use Rattle.std.proofs.lemmas.Result.{err_from_is_err_and}
use Rattle.refusal.specs.Order.{first}
use Rattle.refusal.proofs.Refusals.{not-none}
use Rattle.rounding.proofs.Machine.{told, rd, fits, rd+, fit+}
use Rattle.ranges.proofs.Ranges.{natural, natural-holds}
use Rattle.ranges.specs.Ranges.{within}
use Rattle.chain.specs.declared.Realization.{Realization}
use Rattle.chain.specs.declared.Step.{Step}
use Rattle.chain.specs.declared.steps.Ready.{Ready}
use Rattle.chain.specs.Prepared.{length_in, end_in, numbers_of, extend_tests, extend_fault, start_with, first_row}
use Rattle.chain.proofs.Sizes.{step_ok}
use Rattle.chain.proofs.Keeping.{extend-passed, extended-is, refused-is}
use Rattle.chain.proofs.steps.kept.extend.Goals as goal

-- what the chain so far says of the step, by its numbers as the machine reads them
module _ (y : ℤ) (l : List ℤ) (s : Step) (y' n : ℤ) (end : Realization) (as_y : y' ≡ y) (as_n : n ≡ length_in l) (as_end : end ≡ end_in l) where
  fault : (k : ℕ) → k ≡ first (extend_tests y' n end s) → k ≡ extend_fault y l s
  unfolding extend_fault
  fault k e = e ∙ ap₂ (λ (m : ℤ) (r : Realization). first (extend_tests y' m r s)) as_n as_end ∙ ap (λ (z : ℤ). first (extend_tests z (length_in l) (end_in l) s)) as_y

-- where it is not refused there is room
module _ (y : ℤ) (l : List ℤ) (s : Step) (passed : extend_fault y l s ≡ 0) where
  known : within (pos 0) (length_in l) (pos 8) ≡ true
  known = let few = natural 0 (length_in l) 7 (extend-passed y l s passed).1 in let h = few.high in rw few.is (natural-holds 0 few.n 8 few.low (omega arith))

  small : nat_abs (length_in l) ≤ 7
  small = let few = natural 0 (length_in l) 7 (extend-passed y l s passed).1 in let h = few.high in rw few.is h

  more : SFits w64 (length_in l +ℤ pos 1)
  more = let few = natural 0 (length_in l) 7 (extend-passed y l s passed).1 in let h = few.high in rw few.is (fits 8 (omega arith) (omega arith))

one : pos 1 ≡ pos 1
one = refl

pub returns-in_err-extend_fault : goal.returns-in_err-extend_fault
returns-in_err-extend_fault c =
    let x = c.args in
    let p = err_from_is_err_and c.from_residual.result c.from_residual.ensures.1 in
    let length : to_z w64 (of_z w64 (get_or x.numbers.now 0 (pos 0))) ≡ length_in x.numbers.now = told c.n-1.given in
    let f = fault x.profile x.numbers.now x.step _ _ _ (rd c.ranges.profile) length c.end_in.ensures _ c.in_err-extend_fault.ensures in
    (rw (p.1, p.2) f, sym (refused-is x.profile x.numbers.now x.step (λ e. not-none _ (f ∙ e))))

pub prepare-requires : goal.prepare-requires
prepare-requires c =
    let x = c.args in
    let length : to_z w64 (of_z w64 (get_or x.numbers.now 0 (pos 0))) ≡ length_in x.numbers.now = told c.n-1.given in
    let f = sym (fault x.profile x.numbers.now x.step _ _ _ (rd c.ranges.profile) length c.end_in.ensures _ c.in_ok-extend_fault.ensures) in
    step_ok x.profile x.step (extend-passed x.profile x.numbers.now x.step f).0

pub count-requires : goal.count-requires
count-requires c =
    let x = c.args in
    let length : to_z w64 (of_z w64 (get_or x.numbers.now 0 (pos 0))) ≡ length_in x.numbers.now = told c.n-1.given in
    let f = sym (fault x.profile x.numbers.now x.step _ _ _ (rd c.ranges.profile) length c.end_in.ensures _ c.in_ok-extend_fault.ensures) in
    rw length (known x.profile x.numbers.now x.step f)

pub put_ready-requires : goal.put_ready-requires
put_ready-requires c =
    let x = c.args in
    let length : to_z w64 (of_z w64 (get_or x.numbers.now 0 (pos 0))) ≡ length_in x.numbers.now = told c.n-1.given in
    let f = sym (fault x.profile x.numbers.now x.step _ _ _ (rd c.ranges.profile) length c.end_in.ensures _ c.in_ok-extend_fault.ensures) in
    let counted : c.count.result ≡ nat_abs (length_in x.numbers.now) = c.count.ensures ∙ ap nat_abs length in
    omega (arith, small x.profile x.numbers.now x.step f)

pub overflow_add-n : goal.overflow_add-n
overflow_add-n c =
    let x = c.args in
    let length : to_z w64 (of_z w64 (get_or x.numbers.now 0 (pos 0))) ≡ length_in x.numbers.now = told c.n-1.given in
    let f = sym (fault x.profile x.numbers.now x.step _ _ _ (rd c.ranges.profile) length c.end_in.ensures _ c.in_ok-extend_fault.ensures) in
    fit+ length one (more x.profile x.numbers.now x.step f)

pub returns : goal.returns
returns c =
    let x = c.args in
    let l = x.numbers.now in
    let length : to_z w64 (of_z w64 (get_or l 0 (pos 0))) ≡ length_in l = told c.n-1.given in
    let f = sym (fault x.profile l x.step _ _ _ (rd c.ranges.profile) length c.end_in.ensures _ c.in_ok-extend_fault.ensures) in (
      sym f,
      c.put_first.ensures
          ∙ ap₂ (λ (m row : List ℤ). sets m 0 row)
          (c.put_ready.ensures ∙ ap₂ (λ (k : ℕ) (r : Ready). sets l (8 * (k + 1)) (numbers_of r)) (c.count.ensures ∙ ap nat_abs length) c.prepare.ensures)
          (ap₂ (λ (m : ℤ) (r : Realization). first_row m r x.step.after) (rd+ length one (more x.profile l x.step f)) (c.start_with-start.ensures ∙ ap₂ (λ (m : ℤ) (r : Realization). start_with m r x.step) length c.start_in.ensures))
          ∙ sym (extended-is x.profile l x.step f),
    )
