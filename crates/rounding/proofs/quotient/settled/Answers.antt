-- `rounding::quotient::settled` meets its contract. Assumes nothing.
use mathlib.Core.Path.{◌≡◌, refl, sym, ◌∙◌, ap}
use mathlib.Core.Bool.{true}
use lib.IntN.{pos}
use Rattle.rounding.specs.Nearest.{to_even}
use Rattle.rounding.proofs.Machine.{rd, rd-, fit-}
use Rattle.rounding.proofs.Lifted.{odd-fits}
use Rattle.rounding.proofs.quotient.settled.Goals.{Then-go_up}
use Rattle.rounding.proofs.quotient.settled.Goals as goal

one : pos 1 ≡ pos 1
one = refl

odd : (c : Then-go_up) → to_even c.args.t ≡ true
odd c = ap to_even (sym (rd c.ranges.t)) ∙ sym c.go_up.ensures ∙ c.if-go_up.true

pub overflow_sub-result : goal.overflow_sub-result
overflow_sub-result c = fit- (rd c.ranges.t) one (odd-fits c.args.t c.ranges.t (odd c))

pub returns-then-go_up : goal.returns-then-go_up
returns-then-go_up c = rd- (rd c.ranges.t) one (odd-fits c.args.t c.ranges.t (odd c)) ∙ rw (c.if-half.true, odd c)
