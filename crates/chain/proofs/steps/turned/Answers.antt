-- `chain::steps::turned` meets its contract. Assumes nothing.
use mathlib.Core.Path.{◌≡◌, ◌∙◌, ap, ap₂}
use Prim.Native.Nat.{◌≤◌}
use native.Mathlib.Omega.{arith}
use lib.IntN.{ℤ, nat_abs}
use mir.Syntax.{w64}
use mir.Val.{to_z, of_z}
use Rattle.rounding.proofs.Machine.{rd, to₁, to₂}
use Rattle.chain.specs.Parts.{by_convention, rotation11, scaled_rotation}
use Rattle.chain.proofs.Sizes.{convention-size, rotation11-size}
use Rattle.chain.proofs.steps.turned.Tie as tie
use Rattle.chain.proofs.steps.turned.Lts as lts
use Rattle.chain.proofs.steps.turned.Reads as reads
use Rattle.chain.proofs.steps.turned.Goals as goal

abbrev TheAfterByConvention : Type 0
TheAfterByConvention = lts.After-by_convention tie.the-claims reads.Pre reads.Post

abbrev TheAfterRotation11 : Type 0
TheAfterRotation11 = lts.After-rotation11 tie.the-claims reads.Pre reads.Post

pub by_convention-requires : goal.by_convention-requires
by_convention-requires c = to₁ (λ (r : ℤ). nat_abs r ≤ 1000000) (rd c.ranges.r) c.requires.0

-- the rotation as convention P has it, as it was read
sign : (c : TheAfterByConvention) → to_z w64 (of_z w64 c.by_convention.result) ≡ by_convention c.args.convention c.args.r
sign c = rd (record { sfits = c.by_convention.type_inv }) ∙ c.by_convention.ensures ∙ ap (by_convention c.args.convention) (rd c.ranges.r)

pub rotation11-requires : goal.rotation11-requires
rotation11-requires c = to₁ (λ (r : ℤ). nat_abs r ≤ 1000000) (sign c) (omega (arith, convention-size c.args.convention c.args.r, c.requires.0))

-- the rotation in 10^-11 radian, as it was read
made : (c : TheAfterRotation11) → to_z w64 (of_z w64 c.rotation11.result) ≡ rotation11 (by_convention c.args.convention c.args.r)
made c = rd (record { sfits = c.rotation11.type_inv }) ∙ c.rotation11.ensures ∙ ap rotation11 (sign c.before)

pub scaled_rotation-requires : goal.scaled_rotation-requires
scaled_rotation-requires c =
    let s = c.before.before in
    let by = s.args.convention in
    to₂ (λ (r s : ℤ). (nat_abs r ≤ 4848137) × (nat_abs s ≤ 2000000)) (made c) (rd s.ranges.s)
    (rotation11-size (by_convention by s.args.r) (omega (arith, convention-size by s.args.r, s.requires.0)), s.requires.1)

pub returns : goal.returns
returns c = rd (record { sfits = c.scaled_rotation.type_inv }) ∙ c.scaled_rotation.ensures ∙ ap₂ scaled_rotation (made c.before) (rd c.ranges.s)
