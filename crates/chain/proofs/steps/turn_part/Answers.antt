-- `chain::steps::turn_part` meets its contract. Assumes nothing.
use mathlib.Core.Path.{◌∙◌, ap₂}
use lib.IntN.{ℤ, pos, ◌+ℤ◌, ◌*ℤ◌}
use Rattle.rounding.proofs.Machine.{rd, of₃}
use Rattle.rounding.specs.Nearest.{to_even}
use Rattle.rounding.specs.Quotient.{mixed}
use Rattle.chain.specs.Parts.{step_round, linear, part}
use Rattle.chain.proofs.steps.turn_part.Goals as goal

pub over11-requires : goal.over11-requires
over11-requires c = (rw (rd c.ranges.k) c.requires.start, rw (rd (record { sfits = c.linear.type_inv })) c.linear.ensures.1)

pub returns : goal.returns
unfolding step_round part linear
returns c =
    let s = c in
    let p = s.args.p in
    rd (record { sfits = c.over11.type_inv }) ∙ c.over11.ensures
    ∙ ap₂ (λ (k n : ℤ). mixed to_even k n (pos 100000000000)) (rd s.ranges.k)
    (rd (record { sfits = c.linear.type_inv }) ∙ c.linear.ensures.0 ∙ of₃ (λ (a b c : ℤ). a *ℤ p.x +ℤ b *ℤ p.y +ℤ c *ℤ p.z) (rd s.ranges.a) (rd s.ranges.b) (rd s.ranges.c))
