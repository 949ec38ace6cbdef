-- `rounding::quotient::Halves::round_quotient` meets its contract. Assumes nothing.
use mathlib.Core.Path.{refl, ◌∙◌}
use lib.Signed.{lt_z}
use Rattle.rounding.specs.Quotient.{rule}
use Rattle.rounding.proofs.Machine.{rd, test}
use Rattle.rounding.proofs.Floors.{over-one}
use Rattle.rounding.proofs.quotient.Halves.round_quotient.Goals as goal

pub returns-then-d-lt2 : goal.returns-then-d-lt2
returns-then-d-lt2 c =
    let d = rd c.ranges.d in
    rd c.ranges.n ∙ over-one (rule c.args.self) c.args.n c.args.d (test lt_z c.if-d-lt1.false d refl) (test lt_z c.if-d-lt2.true d refl)
