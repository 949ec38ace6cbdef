-- `rounding::quotient::Halves::round_floor` meets its contract: which of t and t + 1 it is goes by r against d − r, and at a half by the rule. Assumes nothing.
use native.Mathlib.Omega.{arith}
use mathlib.Core.Path.{◌≡◌, refl, sym, ◌∙◌, ap}
use mathlib.Core.Bool.{Bool}
use mir.Syntax.{w64}
use mir.Val.{SFits, to_z, of_z}
use lib.IntN.{pos, ◌+ℤ◌, ◌-ℤ◌}
use lib.Signed.{lt_z}
use Rattle.refusal.specs.Order.{pick}
use Rattle.rounding.specs.Quotient.{rule, mixed}
use Rattle.rounding.proofs.Zn.{v, k, unle, unlt, unabs, abs, ◌⊕◌, ◌⊖◌}
use Rattle.rounding.proofs.Machine.{fits, fits-top, rd, rd+, rd-, test, lt-true, lt-false}
use Rattle.rounding.proofs.Floors.{over-half, under-half, at-half}
use Rattle.rounding.proofs.quotient.Halves.round_floor.Goals.{Start, After-go_up}
use Rattle.rounding.proofs.quotient.Halves.round_floor.Goals as goal

-- the two results fit, and what the machine reads of t, r and d − r
module _ (s : Start) where
  left : SFits w64 (s.args.d -ℤ s.args.r)
  left =
      let a = unle s.requires.from (k 0) (v s.args.r) in
      let b = unlt s.requires.below (v s.args.r) (v s.args.d) in
      fits 9223372036854775807 (abs (v s.args.d ⊖ v s.args.r) (omega (arith, fits-top s.ranges.d)) (omega arith)) (omega arith)

  more : SFits w64 (s.args.t +ℤ pos 1)
  more =
      let e = unabs 9000000000000000000 s.requires.small (v s.args.t) in
      fits 9000000000000000001 (abs (v s.args.t ⊕ k 1) (omega arith) (omega arith)) (omega arith)

  rest : to_z w64 (of_z w64 (to_z w64 (of_z w64 s.args.d) -ℤ to_z w64 (of_z w64 s.args.r))) ≡ s.args.d -ℤ s.args.r
  rest = rd- (rd s.ranges.d) (rd s.ranges.r) left

  up : to_z w64 (of_z w64 (to_z w64 (of_z w64 s.args.t) +ℤ pos 1)) ≡ s.args.t +ℤ pos 1
  up = rd+ (rd s.ranges.t) refl more

pub returns-then-r-rest : goal.returns-then-r-rest
returns-then-r-rest c =
    let s = c.before in
    up s ∙ sym (over-half (rule s.args.self) s.args.t s.args.r s.args.d s.requires.from s.requires.below (lt-true _ _ (test lt_z c.if-r-rest.true (rest s) (rd s.ranges.r))))

pub returns-then-r-rest-2 : goal.returns-then-r-rest-2
returns-then-r-rest-2 c =
    let s = c.before.before in
    rd s.ranges.t ∙ sym (under-half (rule s.args.self) s.args.t s.args.r s.args.d s.requires.from s.requires.below (lt-true _ _ (test lt_z c.if-r-rest-2.true (rd s.ranges.r) (rest s))))

-- neither over nor under a half
halved : (c : After-go_up) → pick c.go_up.result (c.args.t +ℤ pos 1) c.args.t ≡ mixed (rule c.args.self) c.args.t c.args.r c.args.d
halved c =
    let s = c.before.before.before in
    ap (λ (b : Bool). pick b (s.args.t +ℤ pos 1) s.args.t) (c.go_up.ensures ∙ ap (rule s.args.self) (rd s.ranges.t))
    ∙ sym (at-half (rule s.args.self) s.args.t s.args.r s.args.d s.requires.from s.requires.below
    (lt-false _ _ (test lt_z c.if-r-rest.false (rest s) (rd s.ranges.r))) (lt-false _ _ (test lt_z c.if-r-rest-2.false (rd s.ranges.r) (rest s))))

pub returns-then-go_up : goal.returns-then-go_up
returns-then-go_up c =
    let s = c.before.before.before.before in
    up s ∙ sym (ap (λ (b : Bool). pick b (s.args.t +ℤ pos 1) s.args.t) c.if-go_up.true) ∙ halved c.before

pub returns : goal.returns
returns c =
    let s = c.before.before.before.before in
    rd s.ranges.t ∙ sym (ap (λ (b : Bool). pick b (s.args.t +ℤ pos 1) s.args.t) c.if-go_up.false) ∙ halved c.before
