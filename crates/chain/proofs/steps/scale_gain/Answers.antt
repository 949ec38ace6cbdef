-- `chain::steps::scale_gain` meets its contract. Assumes nothing.
use mathlib.Core.Path.{◌≡◌, ◌∙◌}
use Prim.Native.Nat.{◌≤◌}
use native.Mathlib.Omega.{arith}
use lib.IntN.{ℤ, nat_abs, ◌+ℤ◌, ◌*ℤ◌}
use mir.Syntax.{w64}
use mir.Val.{to_z, of_z}
use Rattle.rounding.proofs.Zn.{k}
use Rattle.rounding.proofs.Machine.{rd, fits, to₃, of₃}
use Rattle.chain.specs.Parts.{step_round}
use Rattle.chain.specs.Axes.{Axis, on_x, on_y, on_z, coordinate}
use Rattle.chain.specs.Ready.{position}
use Rattle.chain.proofs.Prepared.{slope-gain}
use Rattle.chain.proofs.steps.scale_gain.Tie as tie
use Rattle.chain.proofs.steps.scale_gain.Lts as lts
use Rattle.chain.proofs.steps.scale_gain.Reads as reads
use Rattle.chain.proofs.steps.scale_gain.Goals as goal

abbrev TheStart : Type 0
TheStart = lts.Start tie.the-claims reads.Pre reads.Post

-- what one axis asks and gives, as the machine reads its numbers
module _ (s : TheStart) where
  slope : to_z w64 (of_z w64 s.args.t.slope) ≡ s.args.t.slope
  slope = rd (fits 1202000 s.requires.0.slope (omega arith))

  at : (i : Axis) → to_z w64 (of_z w64 (coordinate i s.args.p)) ≡ coordinate i s.args.p
  at i = rd (fits 650000000000 (s.requires.1.on i) (omega arith))

start : (k : ℤ) → nat_abs k ≤ 1971000000000000000 → to_z w64 (of_z w64 k) ≡ k
start k h = rd (fits 1971000000000000000 h (omega arith))

asked : ℤ → ℤ → ℤ → Type 0
asked k a z = (nat_abs k ≤ 1971000000000000000) × (nat_abs a ≤ 1202000) × (nat_abs z ≤ 650000000000)

given : ℤ → ℤ → ℤ → ℤ
given k a z = step_round (k +ℤ a *ℤ z) 100000000000000

pub scale_part-x-requires : goal.scale_part-x-requires
unfolding asked
scale_part-x-requires c = let s = c.before.before.before.before in to₃ asked (start s.args.t.kx s.requires.0.kx) (slope s) (at s on_x) (s.requires.0.kx, s.requires.0.slope, s.requires.1.on on_x)

pub scale_part-y-requires : goal.scale_part-y-requires
unfolding asked
scale_part-y-requires c =
    let s = c.before.before.before.before.before.before.before.before in
    to₃ asked (start s.args.t.ky s.requires.0.ky) (slope s) (at s on_y) (s.requires.0.ky, s.requires.0.slope, s.requires.1.on on_y)

pub scale_part-z-requires : goal.scale_part-z-requires
unfolding asked
scale_part-z-requires c =
    let s = c.before.before.before.before.before.before.before.before.before.before.before.before in
    to₃ asked (start s.args.t.kz s.requires.0.kz) (slope s) (at s on_z) (s.requires.0.kz, s.requires.0.slope, s.requires.1.on on_z)

pub returns : goal.returns
unfolding given
returns c =
    let s = c.before.before.before.before.before.before.before.before.before.before.before.before in
    let x = c.scale_part-x in
    let y = c.scale_part-y in
    let z = c.scale_part-z in
    of₃ position (rd (record { sfits = x.type_inv }) ∙ x.ensures ∙ of₃ given (start s.args.t.kx s.requires.0.kx) (slope s) (at s on_x))
    (rd (record { sfits = y.type_inv }) ∙ y.ensures ∙ of₃ given (start s.args.t.ky s.requires.0.ky) (slope s) (at s on_y))
    (rd (record { sfits = z.type_inv }) ∙ z.ensures ∙ of₃ given (start s.args.t.kz s.requires.0.kz) (slope s) (at s on_z))
    ∙ slope-gain s.args.t.kx s.args.t.ky s.args.t.kz s.args.t.slope s.args.p
