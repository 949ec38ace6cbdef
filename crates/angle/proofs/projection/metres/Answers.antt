-- `angle::projection::metres` meets its contract: the literal is the f64 of 1000, which antt computes. Assumes nothing.
use mathlib.Core.Path.{ap}
use lib.Dec.{lit≤}
use lib.IntN.{ℤ}
use lib.Ieee.{of_bits, round}
use mir.Syntax.{w64}
use mir.ValLaws.{to_z-of_z}
use Rattle.elementary.specs.Floats.{◌⊘◌, #, whole}
use Rattle.angle.specs.Units.{metres}
use Rattle.angle.proofs.Tests.{read_back}
use Rattle.angle.proofs.Wholes.{upto, in-float}
use Rattle.angle.proofs.projection.metres.Goals as goal

pub int_to_float-result : goal.int_to_float-result
int_to_float-result c =
    let a = c in
    read_back a.args.n a.ranges.n (in-float 2000000000 a.args.n tt (upto 2000000000 1999999999 a.args.n 2000000000 (lit≤ tt) (lit≤ tt) a.requires))

pub returns : goal.returns
unfolding metres round of_bits
returns c = ap (λ (z : ℤ). whole z ⊘ # 1000) (to_z-of_z w64 c.args.n c.ranges.n)
