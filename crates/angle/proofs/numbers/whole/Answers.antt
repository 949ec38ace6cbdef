-- `angle::numbers::whole` meets its contract: 2^52 and the number is an f64's pattern, and 2^52 taken off it leaves the number. Assumes nothing.
use mathlib.Core.Path.{◌≡◌, sym, ◌∙◌, ap}
use native.Mathlib.Omega.{arith}
use lib.IntN.{ℤ, pos}
use lib.Ieee.{binary64, of_int}
use mir.Syntax.{w64}
use mir.Val.{to_z, of_z}
use Rattle.rounding.proofs.Machine.{rd}
use Rattle.ranges.proofs.Ranges.{Natural, natural}
use Rattle.angle.proofs.Digits52.{no_nan, taken-off}
use Rattle.angle.proofs.numbers.whole.Lts as lts
use Rattle.angle.proofs.numbers.whole.Reads as reads
use Rattle.angle.proofs.numbers.whole.Goals as goal

abbrev TheStart : Type 0
TheStart = lts.Start reads.Pre reads.Post

module _ (c : TheStart) where
  number : Natural 0 c.args.n 4503599627370495
  number = natural 0 c.args.n 4503599627370495 c.requires

  -- the machine reads the number back from its bits
  is : to_z w64 (of_z w64 c.args.n) ≡ pos number.n
  is = rd c.ranges.n ∙ number.is

pub overflow_cast-result : goal.overflow_cast-result
overflow_cast-result c = let h = (number c).high in rw (is c) (tt, record { fits = omega arith })

pub overflow_add-result : goal.overflow_add-result
overflow_add-result c = let h = (number c).high in rw (is c) (record { fits = omega arith })

pub float_from_bits-result : goal.float_from_bits-result
float_from_bits-result c = rw (is c) (no_nan (number c).n (number c).high)

pub returns : goal.returns
returns c = rw (is c) (taken-off (number c).n (number c).high ∙ ap (λ (z : ℤ). of_int binary64 z) (sym (number c).is))
