-- The four kinds of step are mild where their numbers are in range and their rules kept, and shifts and velocities are flat. Assumes nothing.
use mathlib.Core.Path.{◌≡◌, refl}
use mathlib.Core.Bool.{Bool, true, false, not, beq, ◌&&◌, ◌||◌}
use mathlib.Core.List.{List, []}
use Prim.Native.Nat.{ℕ, zero, suc, ◌+◌, ◌*◌, ◌-◌, ◌<◌, ◌≤◌}
use native.Mathlib.Nat as NatL
use native.Mathlib.Omega.{arith}
use lib.Dec.{lit<, lit≤}
use lib.IntN.{ℤ, pos, neg_ℤ, nat_abs, ◌+ℤ◌, ◌-ℤ◌, ◌*ℤ◌}
use lib.ListN.{get_or}
use Rattle.refusal.specs.Order.{pick}
use Rattle.rounding.proofs.Zn.{v, k, ◌⊖◌, abs, unle, mul-le, add-le, abs_neg}
use Rattle.chain.specs.declared.Realization.{Realization}
use Rattle.chain.specs.declared.Shift as shift'
use Rattle.chain.specs.declared.Velocity as velocity'
use Rattle.chain.specs.declared.BursaWolf as bursaWolf'
use Rattle.chain.specs.declared.Convention.{Convention}
use Rattle.chain.specs.declared.Convention.TheVariants.{PositionVector, CoordinateFrame}
use Rattle.chain.specs.declared.Kind.{Kind}
use Rattle.chain.specs.declared.Kind.TheVariants.{Shift, Velocity, BursaWolf, Frame}
use Rattle.chain.specs.declared.Step.{Step}
use Rattle.ranges.specs.Ranges.{within, equal, datum_range, epoch_range, shift_range, rotation_range, scale_range, velocity_range}
use Rattle.chain.specs.Faults.{KindOk, StepOk, agrees, realization_range, has_step, kind_range, kind_rule, step_range, step_fault}
use Rattle.chain.specs.Rows.{rows, row_index, row_of, figure}
use Rattle.chain.specs.Parts.{Parts, fixed, shift_parts, velocity_parts, by_convention, rotation11, scaled_rotation, applied, over11, over14, turned_parts, bursa_wolf_parts, at_epoch, shift_at, scale_at, scaled_parts, frame_parts, kind_parts}
use Rattle.chain.specs.Axes.{Axis, on_x, on_y, on_z, part_on}
use Rattle.ranges.proofs.Ranges.{both, all, bounds, up-to}
use Rattle.refusal.proofs.Orders.{head-holds}
use Rattle.chain.proofs.Rounding.{step-size}
use Rattle.chain.proofs.StepLaws.{Mild, Milds, Flat, Flats}

-- ---- what a step that is not refused keeps
pub step_ok : (y : ℤ) (s : Step) → step_fault y s ≡ 0 → StepOk s
unfolding step_fault step_range
step_ok y s e =
    let f = head-holds (step_range s) _ _ e in
    let g = head-holds (agrees s.before && agrees s.after) _ _ f.1 in
    let o = head-holds (has_step y s) _ _ g.1 in
    let h = head-holds (kind_rule s.kind s.before s.after) _ _ o.1 in
    let r = all (kind_range s.kind) (realization_range s.before) (realization_range s.after) f.0 in
    let a = both (agrees s.before) (agrees s.after) g.0 in
    record { range = r.0; before = r.1; after = r.2; agree = a.0; agreed = a.1; rule = h.0 }

-- its profile has it
pub step-had : (y : ℤ) (s : Step) → step_fault y s ≡ 0 → has_step y s ≡ true
unfolding step_fault
step-had y s e =
    let f = head-holds (step_range s) _ _ e in
    let g = head-holds (agrees s.before && agrees s.after) _ _ f.1 in
    (head-holds (has_step y s) _ _ g.1).0

-- ---- epochs
not-both : (a b : Bool) → (a || b) ≡ true → not a ≡ true → b ≡ true
not-both true b h n = cc
not-both false b h n = h

-- an epoch in its range that is not 0 is one of the table's
dated : (e : ℤ) → epoch_range e ≡ true → not (equal (pos 0) e) ≡ true → within (pos 1980000) e (pos 2100000) ≡ true
dated e h n = not-both (equal (pos 0) e) (within (pos 1980000) e (pos 2100000)) h n

-- the difference of two numbers of one range, and of a number of a range and one in it
apart : (lo hi : ℕ) (x y : ℤ) → within (pos lo) x (pos hi) ≡ true → within (pos lo) y (pos hi) ≡ true → nat_abs (x -ℤ y) + lo ≤ hi
apart lo hi x y h l =
    let a = bounds (pos lo) x (pos hi) h in
    let b = bounds (pos lo) y (pos hi) l in
    let a₀ = unle a.0 (k lo) (v x) in
    let a₁ = unle a.1 (v x) (k hi) in
    let b₀ = unle b.0 (k lo) (v y) in
    let b₁ = unle b.1 (v y) (k hi) in
    let c : lo ≤ hi = omega arith in
    let d : nat_abs (x -ℤ y) ≤ hi - lo = abs (v x ⊖ v y) (omega arith) (omega arith) in
    omega arith

-- a velocity's years, in thousandths
pub velocity-years : (t : velocity'.Velocity) (r a : Realization) → KindOk (Velocity t) r a → nat_abs (a.epoch -ℤ r.epoch) ≤ 120000
unfolding kind_rule realization_range
velocity-years t r a ok =
    let f = all (equal r.datum a.datum) (not (equal (pos 0) r.epoch)) (not (equal (pos 0) a.epoch)) ok.rule in
    let x = dated r.epoch (both (datum_range r.datum) (epoch_range r.epoch) ok.before).1 f.1 in
    let y = dated a.epoch (both (datum_range a.datum) (epoch_range a.epoch) ok.after).1 f.2 in
    omega (arith, apart 1980000 2100000 a.epoch r.epoch y x)

-- a frame's: datums 5 to 9 are not 1 or 2, so the epoch is not 0
beq-not : (x y : Bool) → beq x y ≡ true → (y ≡ true → ⊥) → not x ≡ true
beq-not true true e n = absurd (n refl)
beq-not true false e n = e
beq-not false y e n = refl

pub frame-years : (r a : Realization) → KindOk Frame r a → nat_abs (r.epoch -ℤ pos 2010000) ≤ 90000
unfolding kind_rule realization_range agrees
frame-years r a ok =
    let f = all (within (pos 5) r.datum (pos 9)) (equal (pos 10) a.datum) (equal r.epoch a.epoch) ok.rule in
    let n = beq-not (equal (pos 0) r.epoch) (within (pos 1) r.datum (pos 2)) ok.agree (none f.0) in
    let x = dated r.epoch (both (datum_range r.datum) (epoch_range r.epoch) ok.before).1 n in
    let b = bounds (pos 1980000) r.epoch (pos 2100000) x in
    let l = unle b.0 (k 1980000) (v r.epoch) in
    let h = unle b.1 (v r.epoch) (k 2100000) in
    abs (v r.epoch ⊖ k 2010000) (omega arith) (omega arith)
  where
    none : within (pos 5) r.datum (pos 9) ≡ true → within (pos 1) r.datum (pos 2) ≡ true → ⊥
    none h l =
        let a = unle (bounds (pos 5) r.datum (pos 9) h).0 (k 5) (v r.datum) in
        let b = unle (bounds (pos 1) r.datum (pos 2) l).1 (v r.datum) (k 2) in
        omega arith

-- ---- rotations
pub convention-size : (c : Convention) (r : ℤ) → nat_abs (by_convention c r) ≡ nat_abs r
convention-size PositionVector r = refl
convention-size CoordinateFrame r = abs_neg r

-- at most 1,000,000 of 0.00001" are at most 4,848,137 of 10^-11 radian
pub rotation11-size : (r : ℤ) → nat_abs r ≤ 1000000 → nat_abs (rotation11 r) ≤ 4848137
unfolding rotation11
rotation11-size r h =
    step-size (omega arith) 4848137 (r *ℤ pos 484813681110) (NatL.le_trans (mul-le r (pos 484813681110) 1000000 484813681110 h (omega arith)) (lit≤ tt))

-- ---- the rows
pub record RowOk (row : List ℤ) : Type 0 where
  pub shift : (i : ℕ) → i < 3 → (nat_abs (figure row i) ≤ 2610) × (nat_abs (figure row (i + 3)) ≤ 190)
  pub scale : (nat_abs (figure row 6) ≤ 212) × (nat_abs (figure row 7) ≤ 11)

pub row_ok : (datum : ℤ) → RowOk (row_of datum)
unfolding row_of row_index
row_ok datum = either (equal (pos 9) datum)
  where
    three : (F : ℕ → Type 0) → F 0 → F 1 → F 2 → (i : ℕ) → i < 3 → F i
    three F a b c zero h = a
    three F a b c (suc zero) h = b
    three F a b c (suc (suc zero)) h = c
    three F a b c (suc (suc (suc n))) h = absurd (over h)
      where
        over : suc (suc (suc n)) < 3 → ⊥
        over h = omega arith

    either : (b : Bool) → RowOk (get_or rows (pick b 1 0) [])
    either true = record { shift = three (λ i. _) (lit≤ tt, lit≤ tt) (lit≤ tt, lit≤ tt) (lit≤ tt, lit≤ tt); scale = (lit≤ tt, lit≤ tt) }
    either false = record { shift = three (λ i. _) (lit≤ tt, lit≤ tt) (lit≤ tt, lit≤ tt) (lit≤ tt, lit≤ tt); scale = (lit≤ tt, lit≤ tt) }

pub at-epoch-size : (t tv dt : ℤ) (A B C : ℕ) → nat_abs t ≤ A → nat_abs tv ≤ B → nat_abs dt ≤ C → nat_abs (at_epoch t tv dt) ≤ 1000 * A + B * C
unfolding at_epoch
at-epoch-size t tv dt A B C ht hv hd = add-le (pos 1000 *ℤ t) (tv *ℤ dt) (1000 * A) (B * C) (mul-le (pos 1000) t 1000 A (omega arith) ht) (mul-le tv dt B C hv hd)

module _ (row : List ℤ) (ok : RowOk row) (dt : ℤ) (years : nat_abs dt ≤ 90000) where
  pub shift-at-size : (i : ℕ) → i < 3 → nat_abs (shift_at row dt i) ≤ 19710000
  shift-at-size i h = at-epoch-size (figure row i) (figure row (i + 3)) dt 2610 190 90000 (ok.shift i h).0 (ok.shift i h).1 years

  pub scale-at-size : nat_abs (scale_at row dt) ≤ 1202000
  scale-at-size = at-epoch-size (figure row 6) (figure row 7) dt 212 11 90000 ok.scale.0 ok.scale.1 years

-- ---- each kind is mild
pub fixed-mild : (n : ℤ) (d : ℕ) → 0 < d → nat_abs n ≤ 100000000 * d → Mild (fixed n d)
fixed-mild n d h l = record { slope = omega arith; start = l }

fixed-flat : (n : ℤ) (d : ℕ) → 0 < d → Flat (fixed n d)
fixed-flat n d h = record { over = h; flat = refl }

over11-mild : (n a b c : ℤ) → nat_abs n ≤ 100000000 → nat_abs a + nat_abs b + nat_abs c ≤ 11696468 → Mild (over11 n a b c)
over11-mild n a b c h l = record { slope = omega arith; start = mul-le n (pos 100000000000) 100000000 100000000000 h (omega arith) }

over14-mild : (n a b c : ℤ) → nat_abs n ≤ 19710000 → nat_abs a + nat_abs b + nat_abs c ≤ 1202000 → Mild (over14 n a b c)
over14-mild n a b c h l = record { slope = omega arith; start = omega (arith, abs_neg (n *ℤ pos 100000000000), mul-le n (pos 100000000000) 19710000 100000000000 h (omega arith)) }

-- what holds on each axis holds of the step
pub milds : (t : Parts) → Mild t.px → Mild t.py → Mild t.pz → Milds t
milds t x y z = record { on = on }
  where
    on : (i : Axis) → Mild (part_on i t)
    on on_x = x
    on on_y = y
    on on_z = z

flats : (t : Parts) → Flat t.px → Flat t.py → Flat t.pz → Flats t
flats t x y z = record { on = on }
  where
    on : (i : Axis) → Flat (part_on i t)
    on on_x = x
    on on_y = y
    on on_z = z

-- ---- shifts and velocities
pub record ShiftOk (t : shift'.Shift) : Type 0 where
  pub dx : nat_abs t.dx ≤ 100000000
  pub dy : nat_abs t.dy ≤ 100000000
  pub dz : nat_abs t.dz ≤ 100000000

pub shift-ok : (t : shift'.Shift) → kind_range (Shift t) ≡ true → ShiftOk t
unfolding kind_range
shift-ok t e =
    let f = all (shift_range t.dx) (shift_range t.dy) (shift_range t.dz) e in
    record { dx = up-to 100000000 t.dx f.0; dy = up-to 100000000 t.dy f.1; dz = up-to 100000000 t.dz f.2 }

pub record VelocityOk (t : velocity'.Velocity) : Type 0 where
  pub vx : nat_abs t.vx ≤ 10000
  pub vy : nat_abs t.vy ≤ 10000
  pub vz : nat_abs t.vz ≤ 10000

pub velocity-ok : (t : velocity'.Velocity) → kind_range (Velocity t) ≡ true → VelocityOk t
unfolding kind_range
velocity-ok t e =
    let f = all (velocity_range t.vx) (velocity_range t.vy) (velocity_range t.vz) e in
    record { vx = up-to 10000 t.vx f.0; vy = up-to 10000 t.vy f.1; vz = up-to 10000 t.vz f.2 }

pub moved-size : (u dt : ℤ) → nat_abs u ≤ 10000 → nat_abs dt ≤ 120000 → nat_abs (u *ℤ dt) ≤ 100000000 * 1000
moved-size u dt h l = NatL.le_trans (mul-le u dt 10000 120000 h l) (lit≤ tt)

-- ---- Bursa-Wolf
pub record BursaWolfOk (t : bursaWolf'.BursaWolf) : Type 0 where
  pub dx : nat_abs t.dx ≤ 100000000
  pub dy : nat_abs t.dy ≤ 100000000
  pub dz : nat_abs t.dz ≤ 100000000
  pub rx : nat_abs t.rx ≤ 1000000
  pub ry : nat_abs t.ry ≤ 1000000
  pub rz : nat_abs t.rz ≤ 1000000
  pub s : nat_abs t.s ≤ 2000000

pub bursa-wolf-ok : (t : bursaWolf'.BursaWolf) → kind_range (BursaWolf t) ≡ true → BursaWolfOk t
unfolding kind_range
bursa-wolf-ok t e =
    let f = both (shift_range t.dx && shift_range t.dy && shift_range t.dz) _ e in
    let d = all (shift_range t.dx) (shift_range t.dy) (shift_range t.dz) f.0 in
    let g = both (rotation_range t.rx && rotation_range t.ry && rotation_range t.rz) (scale_range t.s) f.1 in
    let r = all (rotation_range t.rx) (rotation_range t.ry) (rotation_range t.rz) g.0 in
    record {
      dx = up-to 100000000 t.dx d.0;
      dy = up-to 100000000 t.dy d.1;
      dz = up-to 100000000 t.dz d.2;
      rx = up-to 1000000 t.rx r.0;
      ry = up-to 1000000 t.ry r.1;
      rz = up-to 1000000 t.rz r.2;
      s = up-to 2000000 t.s g.1;
    }

-- with a scale of at most 2,000,000 on it, at most 4,848,234
pub scaled-size : (r s : ℤ) → nat_abs r ≤ 4848137 → nat_abs s ≤ 2000000 → nat_abs (scaled_rotation r s) ≤ 4848234
unfolding scaled_rotation
scaled-size r s h l =
    step-size (omega arith) 4848234 (r *ℤ (pos 100000000000 +ℤ s))
    (NatL.le_trans (mul-le r (pos 100000000000 +ℤ s) 4848137 100002000000 h (add-le (pos 100000000000) s 100000000000 2000000 (omega arith) l)) (lit≤ tt))

-- a rotation as a step's parts have it
pub turned-size : (c : Convention) (r s : ℤ) → nat_abs r ≤ 1000000 → nat_abs s ≤ 2000000 → nat_abs (scaled_rotation (rotation11 (by_convention c r)) s) ≤ 4848234
turned-size c r s h l = scaled-size (rotation11 (by_convention c r)) s (rotation11-size (by_convention c r) (omega (arith, convention-size c r))) l

pub turned-mild :
    (dx dy dz rx ry rz s : ℤ) →
    nat_abs dx ≤ 100000000 → nat_abs dy ≤ 100000000 → nat_abs dz ≤ 100000000 →
    nat_abs rx ≤ 4848234 → nat_abs ry ≤ 4848234 → nat_abs rz ≤ 4848234 → nat_abs s ≤ 2000000 →
    Milds (turned_parts dx dy dz rx ry rz s)
turned-mild dx dy dz rx ry rz s hdx hdy hdz hx hy hz hs =
    milds (turned_parts dx dy dz rx ry rz s) (over11-mild dx s (neg_ℤ rz) ry hdx (omega (arith, abs_neg rz))) (over11-mild dy rz s (neg_ℤ rx) hdy (omega (arith, abs_neg rx)))
    (over11-mild dz (neg_ℤ ry) rx s hdz (omega (arith, abs_neg ry)))

-- ---- a frame
pub scaled-mild : (tx ty tz e : ℤ) → nat_abs tx ≤ 19710000 → nat_abs ty ≤ 19710000 → nat_abs tz ≤ 19710000 → nat_abs e ≤ 1202000 → Milds (scaled_parts tx ty tz e)
scaled-mild tx ty tz e hx hy hz he =
    milds (scaled_parts tx ty tz e) (over14-mild tx (neg_ℤ e) (pos 0) (pos 0) hx (omega (arith, abs_neg e))) (over14-mild ty (pos 0) (neg_ℤ e) (pos 0) hy (omega (arith, abs_neg e)))
    (over14-mild tz (pos 0) (pos 0) (neg_ℤ e) hz (omega (arith, abs_neg e)))

-- ---- a step that is not refused is mild
pub kind-mild : (kind : Kind) (r a : Realization) → KindOk kind r a → Milds (kind_parts kind r a)
unfolding kind_parts shift_parts velocity_parts bursa_wolf_parts frame_parts
kind-mild (Shift t) r a ok =
    let o = shift-ok t ok.range in
    milds _ (fixed-mild t.dx 1 (omega arith) (omega (arith, o.dx))) (fixed-mild t.dy 1 (omega arith) (omega (arith, o.dy))) (fixed-mild t.dz 1 (omega arith) (omega (arith, o.dz)))
kind-mild (Velocity t) r a ok =
    let o = velocity-ok t ok.range in
    let y = velocity-years t r a ok in
    let dt = a.epoch -ℤ r.epoch in
    milds _ (fixed-mild (t.vx *ℤ dt) 1000 (omega arith) (moved-size t.vx dt o.vx y)) (fixed-mild (t.vy *ℤ dt) 1000 (omega arith) (moved-size t.vy dt o.vy y))
    (fixed-mild (t.vz *ℤ dt) 1000 (omega arith) (moved-size t.vz dt o.vz y))
kind-mild (BursaWolf t) r a ok =
    let o = bursa-wolf-ok t ok.range in
    let c = t.convention in
    turned-mild t.dx t.dy t.dz (applied t t.rx) (applied t t.ry) (applied t t.rz) t.s o.dx o.dy o.dz
    (turned-size c t.rx t.s o.rx o.s) (turned-size c t.ry t.s o.ry o.s) (turned-size c t.rz t.s o.rz o.s) o.s
kind-mild Frame r a ok =
    let row = row_of r.datum in
    let dt = r.epoch -ℤ pos 2010000 in
    let o = row_ok r.datum in
    let y = frame-years r a ok in
    scaled-mild (shift_at row dt 0) (shift_at row dt 1) (shift_at row dt 2) (scale_at row dt) (shift-at-size row o dt y 0 (lit< tt)) (shift-at-size row o dt y 1 (lit< tt))
    (shift-at-size row o dt y 2 (lit< tt)) (scale-at-size row o dt y)

-- shifts and velocities are the same everywhere
pub shift-flat : (t : shift'.Shift) (r a : Realization) → Flats (kind_parts (Shift t) r a)
unfolding kind_parts shift_parts
shift-flat t r a = flats _ (fixed-flat t.dx 1 (omega arith)) (fixed-flat t.dy 1 (omega arith)) (fixed-flat t.dz 1 (omega arith))

pub velocity-flat : (t : velocity'.Velocity) (r a : Realization) → Flats (kind_parts (Velocity t) r a)
unfolding kind_parts velocity_parts
velocity-flat t r a = flats _ (fixed-flat _ 1000 (omega arith)) (fixed-flat _ 1000 (omega arith)) (fixed-flat _ 1000 (omega arith))
