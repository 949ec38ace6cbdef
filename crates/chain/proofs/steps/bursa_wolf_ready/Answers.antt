-- `chain::steps::bursa_wolf_ready` meets its contract. Assumes nothing.
use mathlib.Core.Path.{◌≡◌, sym, ◌∙◌, ap, ap₂}
use Prim.Native.Nat.{◌≤◌}
use lib.IntN.{ℤ, nat_abs}
use Rattle.rounding.proofs.Machine.{told, rd, to₂}
use Rattle.chain.specs.Faults.{kind_range}
use Rattle.chain.specs.Parts.{by_convention, rotation11, scaled_rotation}
use Rattle.chain.proofs.Sizes.{bursa-wolf-ok}
use Rattle.chain.proofs.Prepared.{turn-same}
use Rattle.chain.proofs.Sizes.{BursaWolfOk}
use Rattle.chain.proofs.steps.bursa_wolf_ready.Tie as tie
use Rattle.chain.proofs.steps.bursa_wolf_ready.Lts as lts
use Rattle.chain.proofs.steps.bursa_wolf_ready.Reads as reads
use Rattle.chain.proofs.steps.bursa_wolf_ready.Goals as goal

abbrev TheStart : Type 0
TheStart = lts.Start tie.the-claims reads.Pre reads.Post

-- the step's numbers in their ranges
ranges : (s : TheStart) → BursaWolfOk s.args.t
ranges s = bursa-wolf-ok s.args.t (sym (ap kind_range s.requires.1) ∙ s.requires.0.range)

-- what a rotation's function asks, of numbers as they were read
in-range : {r s r' s' : ℤ} → r' ≡ r → s' ≡ s → nat_abs r ≤ 1000000 → nat_abs s ≤ 2000000 → (nat_abs r' ≤ 1000000) × (nat_abs s' ≤ 2000000)
in-range e f h l = to₂ (λ (r s : ℤ). (nat_abs r ≤ 1000000) × (nat_abs s ≤ 2000000)) e f (h, l)

pub turned-rx-requires : goal.turned-rx-requires
turned-rx-requires c =
    let o = ranges c.before.before.before in
    let t = c.args.t in
    in-range (told {z = t.rx} c.struct_told-1.given.1.1.1.1.0.1) (told {z = t.s} c.struct_told-2-1.given.1.1.1.1.1.1.1.0.1) o.rx o.s

pub turned-ry-requires : goal.turned-ry-requires
turned-ry-requires c =
    let o = ranges c.before.before.before.before.before.before in
    let t = c.args.t in
    in-range (told {z = t.ry} c.struct_told-3-1.given.1.1.1.1.1.0.1) (told {z = t.s} c.struct_told-4-1.given.1.1.1.1.1.1.1.0.1) o.ry o.s

pub turned-rz-requires : goal.turned-rz-requires
turned-rz-requires c =
    let o = ranges c.before.before.before.before.before.before.before.before.before in
    let t = c.args.t in
    in-range (told {z = t.rz} c.struct_told-5-1.given.1.1.1.1.1.1.0.1) (told {z = t.s} c.struct_told-6-1.given.1.1.1.1.1.1.1.0.1) o.rz o.s

pub returns : goal.returns
returns c =
    let s = c in
    let t = c.struct_told-1.given in
    let by : ℤ → ℤ → ℤ = λ r s'. scaled_rotation (rotation11 (by_convention s.args.t.convention r)) s' in
    let dx = told t.1.0.1 in
    let dy = told t.1.1.0.1 in
    let dz = told t.1.1.1.0.1 in
    let sc = told t.1.1.1.1.1.1.1.0.1 in
    let rx = rd (record { sfits = c.turned-rx.type_inv }) ∙ c.turned-rx.ensures ∙ ap₂ by (told t.1.1.1.1.0.1) sc in
    let ry = rd (record { sfits = c.turned-ry.type_inv }) ∙ c.turned-ry.ensures ∙ ap₂ by (told t.1.1.1.1.1.0.1) sc in
    let rz = rd (record { sfits = c.turned-rz.type_inv }) ∙ c.turned-rz.ensures ∙ ap₂ by (told t.1.1.1.1.1.1.0.1) sc in
    turn-same dx dy dz rx ry rz sc
