-- `chain::steps::velocity_ready` meets its contract. Assumes nothing.
use mathlib.Core.Path.{◌≡◌, ◌∙◌, ap₂, subst}
use Prim.Native.Nat.{◌≤◌}
use lib.IntN.{ℤ, nat_abs, ◌-ℤ◌, ◌*ℤ◌}
use mir.Syntax.{w64}
use mir.Val.{SFits, to_z, of_z}
use Rattle.rounding.proofs.Machine.{told, rd, fits, rd-, fit-, to₂, of₃}
use lib.Dec.{lit<}
use Rattle.chain.specs.declared.Kind.{Kind}
use Rattle.chain.specs.Faults.{KindOk}
use Rattle.chain.specs.Ready.{position}
use Rattle.chain.specs.Parts.{step_round}
use Rattle.chain.proofs.Sizes.{velocity-ok, velocity-years}
use Rattle.chain.specs.declared.Kind.TheVariants.{Velocity}
use Rattle.chain.proofs.Sizes.{VelocityOk}
use Rattle.chain.proofs.steps.velocity_ready.Tie as tie
use Rattle.chain.proofs.steps.velocity_ready.Lts as lts
use Rattle.chain.proofs.steps.velocity_ready.Reads as reads
use Rattle.chain.proofs.steps.velocity_ready.Goals as goal

abbrev TheAfterStructTold2 : Type 0
TheAfterStructTold2 = lts.After-struct_told2 tie.the-claims reads.Pre reads.Post

abbrev TheStart : Type 0
TheStart = lts.Start tie.the-claims reads.Pre reads.Post

module _ (s : TheStart) where
  abbrev years : ℤ
  years = s.args.step.after.epoch -ℤ s.args.step.before.epoch

  good : KindOk (Velocity s.args.t) s.args.step.before s.args.step.after
  good = subst (λ (x : Kind). KindOk x s.args.step.before s.args.step.after) s.requires.1 s.requires.0

  few : nat_abs years ≤ 120000
  few = velocity-years s.args.t s.args.step.before s.args.step.after good

  ranges : VelocityOk s.args.t
  ranges = velocity-ok s.args.t good.range

  f : SFits w64 years
  f = fits 120000 few (lit< tt)

  read : (u : ℤ) → nat_abs u ≤ 10000 → to_z w64 (of_z w64 u) ≡ u
  read u h = rd (fits 10000 h (lit< tt))

  vx : to_z w64 (of_z w64 s.args.t.vx) ≡ s.args.t.vx
  vx = read s.args.t.vx ranges.vx

  vy : to_z w64 (of_z w64 s.args.t.vy) ≡ s.args.t.vy
  vy = read s.args.t.vy ranges.vy

  vz : to_z w64 (of_z w64 s.args.t.vz) ≡ s.args.t.vz
  vz = read s.args.t.vz ranges.vz

-- the years, as they were read
dt : (c : TheAfterStructTold2) → to_z w64 (of_z w64 (to_z w64 (of_z w64 c.args.step.after.epoch) -ℤ to_z w64 (of_z w64 c.args.step.before.epoch))) ≡ years c.before.before.before.before.before.before
dt c =
    let c2 = c.before.before in
    let c6 = c2 in
    rd- (told {z = c6.args.step.after.epoch} c2.struct_told-1.given.1.0.1) (told {z = c6.args.step.before.epoch} c.struct_told-2-1.given.1.0.1) (f c.before.before.before.before.before.before)

asked : ℤ → ℤ → Type 0
asked u y = (nat_abs u ≤ 10000) × (nat_abs y ≤ 120000)

pub overflow_sub-dt : goal.overflow_sub-dt
overflow_sub-dt c =
    let c2 = c.before.before in
    let c6 = c2 in
    fit- (told {z = c6.args.step.after.epoch} c2.struct_told-1.given.1.0.1) (told {z = c6.args.step.before.epoch} c.struct_told-2-1.given.1.0.1) (f c.before.before.before.before.before.before)

pub moved-x-requires : goal.moved-x-requires
unfolding asked
moved-x-requires c = let s = c.before.before.before.before.before.before.before.before in to₂ asked (vx s) (dt c.before.before) ((ranges s).vx, few s)

pub moved-y-requires : goal.moved-y-requires
unfolding asked
moved-y-requires c = let s = c.before.before.before.before.before.before.before.before.before.before in to₂ asked (vy s) (dt c.before.before.before.before) ((ranges s).vy, few s)

pub moved-z-requires : goal.moved-z-requires
unfolding asked
moved-z-requires c =
    let s = c.before.before.before.before.before.before.before.before.before.before.before.before in
    to₂ asked (vz s) (dt c.before.before.before.before.before.before) ((ranges s).vz, few s)

pub returns : goal.returns
returns c =
    let s = c.before.before.before.before.before.before.before.before.before.before.before.before in
    let y = dt c.before.before.before.before.before.before in
    let by : ℤ → ℤ → ℤ = λ u t. step_round (u *ℤ t) 1000 in
    of₃ position (rd (record { sfits = c.moved-x.type_inv }) ∙ c.moved-x.ensures ∙ ap₂ by (vx s) y)
    (rd (record { sfits = c.moved-y.type_inv }) ∙ c.moved-y.ensures ∙ ap₂ by (vy s) y)
    (rd (record { sfits = c.moved-z.type_inv }) ∙ c.moved-z.ensures ∙ ap₂ by (vz s) y)
