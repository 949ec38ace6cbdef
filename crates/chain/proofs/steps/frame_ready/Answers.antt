-- `chain::steps::frame_ready` meets its contract. Assumes nothing.
use mathlib.Core.Path.{◌≡◌, refl, ◌∙◌, ap, subst}
use mathlib.Core.List.{List}
use Prim.Native.Nat.{ℕ, ◌+◌, ◌<◌, ◌≤◌}
use native.Mathlib.Omega.{arith}
use lib.IntN.{ℤ, pos, neg_ℤ, nat_abs, ◌-ℤ◌}
use lib.ListN.{get_or}
use mir.Syntax.{w64}
use mir.Val.{SFits, to_z, of_z}
use Rattle.rounding.proofs.Zn.{abs_neg}
use Rattle.rounding.proofs.Machine.{told, rd, fits, rd-, fit-, rd0-, fit0-, to₃, of₃}
use native.Mathlib.Nat.{le_trans}
use lib.Dec.{lit≤, lit<}
use Rattle.chain.specs.declared.Kind.{Kind}
use Rattle.chain.specs.Rows.{row_of, figure}
use Rattle.chain.specs.Parts.{at_epoch, shift_at, scale_at}
use Rattle.chain.specs.Faults.{KindOk}
use Rattle.chain.specs.Ready.{over_of}
use Rattle.chain.proofs.Sizes.{frame-years, row_ok, RowOk, scale-at-size}
use Rattle.chain.proofs.Prepared.{scale_same}
use Rattle.chain.proofs.steps.frame_ready.Tie as tie
use Rattle.chain.proofs.steps.frame_ready.Lts as lts
use Rattle.chain.proofs.steps.frame_ready.Reads as reads
use Rattle.chain.proofs.steps.frame_ready.Goals as goal

abbrev TheAfterAtEpoch : Type 0
TheAfterAtEpoch = lts.After-at_epoch tie.the-claims reads.Pre reads.Post

abbrev TheAfterRow : Type 0
TheAfterRow = lts.After-row tie.the-claims reads.Pre reads.Post

abbrev TheAfterStructTold : Type 0
TheAfterStructTold = lts.After-struct_told tie.the-claims reads.Pre reads.Post

abbrev TheStart : Type 0
TheStart = lts.Start tie.the-claims reads.Pre reads.Post

module _ (s : TheStart) where
  abbrev years : ℤ
  years = s.args.step.before.epoch -ℤ pos 2010000

  abbrev figures : List ℤ
  figures = row_of s.args.step.before.datum

  ok : RowOk figures
  ok = row_ok s.args.step.before.datum

  few : nat_abs years ≤ 90000
  few =
      frame-years s.args.step.before s.args.step.after
      (subst (λ (x : Kind). KindOk x s.args.step.before s.args.step.after) s.requires.1 s.requires.0)

  f : SFits w64 years
  f = fits 90000 few (lit< tt)

  down : SFits w64 (neg_ℤ (scale_at figures years))
  down = fits 1202000 (omega (arith, abs_neg (scale_at figures years), scale-at-size figures ok years few)) (lit< tt)

epoch0 : pos 2010000 ≡ pos 2010000
epoch0 = refl

-- the years and the row's figures, as they were read
dt : (c : TheAfterStructTold) → to_z w64 (of_z w64 (to_z w64 (of_z w64 c.args.step.before.epoch) -ℤ pos 2010000)) ≡ years c.before.before.before
dt c = rd- (told {z = c.args.step.before.epoch} c.struct_told-1.given.1.0.1) epoch0 (f c.before.before.before)

module _ (c : TheAfterRow) where
  abbrev s : TheStart
  s = c.before.before.before.before.before

  abbrev found : ℕ → ℤ
  found i = to_z w64 (of_z w64 (get_or c.row-f.result i (pos 0)))

  abbrev span : ℤ
  span = to_z w64 (of_z w64 (to_z w64 (of_z w64 s.args.step.before.epoch) -ℤ pos 2010000))

  read : (i m : ℕ) → nat_abs (figure (figures s) i) ≤ m → m < 9223372036854775808 → found i ≡ figure (figures s) i
  read i m h l = ap (λ (row : List ℤ). to_z w64 (of_z w64 (get_or row i (pos 0)))) (c.row-f.ensures ∙ ap row_of (told c.struct_told-2-1.given.0.1)) ∙ rd (fits m h l)

  abbrev asked : ℤ → ℤ → ℤ → Type 0
  asked t tv y = (nat_abs t ≤ 2610) × (nat_abs tv ≤ 190) × (nat_abs y ≤ 90000)

  -- a shift on an axis, and the scale
  shift-asked : (i : ℕ) → i < 3 → asked (found i) (found (i + 3)) span
  shift-asked i h =
      to₃ asked (read i 2610 ((ok s).shift i h).0 (lit< tt)) (read (i + 3) 190 ((ok s).shift i h).1 (lit< tt)) (dt c.before.before) (((ok s).shift i h).0, ((ok s).shift i h).1, few s)

  shift-given : (i : ℕ) → i < 3 → over_of (at_epoch (found i) (found (i + 3)) span) ≡ over_of (shift_at (figures s) (years s) i)
  shift-given i h =
      of₃ (λ (t tv y : ℤ). over_of (at_epoch t tv y)) (read i 2610 ((ok s).shift i h).0 (lit< tt)) (read (i + 3) 190 ((ok s).shift i h).1 (lit< tt)) (dt c.before.before)

  scale-asked : asked (found 6) (found 7) span
  scale-asked =
      to₃ asked (read 6 212 (ok s).scale.0 (lit< tt)) (read 7 11 (ok s).scale.1 (lit< tt)) (dt c.before.before)
      (le_trans (ok s).scale.0 (lit≤ tt), le_trans (ok s).scale.1 (lit≤ tt), few s)

  scale-given : at_epoch (found 6) (found 7) span ≡ scale_at (figures s) (years s)
  scale-given = of₃ at_epoch (read 6 212 (ok s).scale.0 (lit< tt)) (read 7 11 (ok s).scale.1 (lit< tt)) (dt c.before.before)

pub overflow_sub-dt : goal.overflow_sub-dt
overflow_sub-dt c = fit- (told {z = c.args.step.before.epoch} c.struct_told-1.given.1.0.1) epoch0 (f c.before.before.before.before)

pub shift_over14-kx-requires : goal.shift_over14-kx-requires
shift_over14-kx-requires c = shift-asked c.before.before 0 (lit< tt)

pub shift_over14-ky-requires : goal.shift_over14-ky-requires
shift_over14-ky-requires c = shift-asked c.before.before.before.before.before 1 (lit< tt)

pub shift_over14-kz-requires : goal.shift_over14-kz-requires
shift_over14-kz-requires c = shift-asked c.before.before.before.before.before.before.before.before 2 (lit< tt)

pub at_epoch-slope-requires : goal.at_epoch-slope-requires
at_epoch-slope-requires c = scale-asked c.before.before.before.before.before.before.before.before.before.before.before

-- the scale, as it was read
scale : (c : TheAfterAtEpoch) → to_z w64 (of_z w64 c.at_epoch-slope.result) ≡ scale_at (figures c.before.before.before.before.before.before.before.before.before.before.before.before.before.before.before.before.before) (years c.before.before.before.before.before.before.before.before.before.before.before.before.before.before.before.before.before)
scale c = rd (record { sfits = c.at_epoch-slope.type_inv }) ∙ c.at_epoch-slope.ensures ∙ scale-given c.before.before.before.before.before.before.before.before.before.before.before.before

pub overflow_sub-slope : goal.overflow_sub-slope
overflow_sub-slope c = fit0- (scale c) (down c.before.before.before.before.before.before.before.before.before.before.before.before.before.before.before.before.before)

pub returns : goal.returns
returns c =
    let c3 = c.before.before.before in
    let c6 = c3.before.before.before in
    let c9 = c6 in
    let s = c.before.before.before.before.before.before.before.before.before.before.before.before.before.before.before.before.before in
    let r = c.before.before.before.before.before.before.before.before.before.before.before.before in
    scale_same (rd (record { sfits = c9.shift_over14-kx.type_inv }) ∙ c9.shift_over14-kx.ensures ∙ shift-given r 0 (lit< tt))
    (rd (record { sfits = c6.shift_over14-ky.type_inv }) ∙ c6.shift_over14-ky.ensures ∙ shift-given r 1 (lit< tt))
    (rd (record { sfits = c3.shift_over14-kz.type_inv }) ∙ c3.shift_over14-kz.ensures ∙ shift-given r 2 (lit< tt))
    (rd0- (scale c) (down s))
