-- Laws of a step made ready: its parts are mild, what it gains is small, and what each kind gains. Assumes nothing.
use mathlib.Core.Path.{◌≡◌, refl, sym, ◌∙◌, ap, subst, subst⁻¹}
use Prim.Native.Nat.{ℕ, ◌+◌, ◌≤◌}
use lib.Dec.{lit<, lit≤}
use native.Mathlib.Omega.{arith}
use lib.IntN.{ℤ, pos, nat_abs, ◌+ℤ◌, ◌-ℤ◌, ◌*ℤ◌}
use Rattle.rounding.proofs.Zn.{v, k, ◌⊕◌, ◌⊗◌, eq, abs_neg, mul-le}
use Rattle.rounding.proofs.Machine.{of₃, of₄}
use Rattle.chain.specs.declared.Position.{Position}
use Rattle.chain.specs.declared.Shift as shift'
use Rattle.chain.specs.declared.Velocity as velocity'
use Rattle.chain.specs.declared.BursaWolf as bursaWolf'
use Rattle.chain.specs.declared.Kind.{Kind}
use Rattle.chain.specs.declared.Kind.TheVariants.{Shift, Velocity, BursaWolf, Frame}
use Rattle.chain.specs.declared.Step.{Step}
use Rattle.chain.specs.declared.Direction.{Direction}
use Rattle.chain.specs.declared.Direction.TheVariants.{Forward, Inverse}
use Rattle.chain.specs.Ways.{by_way, by_turns}
use Rattle.chain.specs.declared.steps.Turn.{Turn}
use Rattle.chain.specs.declared.steps.Scale.{Scale}
use Rattle.chain.specs.declared.steps.Ready.{Ready}
use Rattle.chain.specs.declared.steps.Ready.TheVariants.{Fixed, Turned, Scaled}
use Rattle.chain.specs.Faults.{KindOk, StepOk}
use Rattle.chain.specs.Rows.{row_of}
use Rattle.chain.specs.Parts.{step_round, Parts, linear, part, gain, fixed, shift_at, scale_at, shift_parts, velocity_parts, bursa_wolf_parts, frame_parts, kind_parts, parts_of, plus, minus, forward_by, again, inverse_by}
use Rattle.chain.specs.Axes.{Axis, on_x, on_y, on_z, coordinate, part_on, Small}
use Rattle.chain.specs.Ready.{position, moved, moved_of, turn_of, over_of, frame_scale, ready_kind, ready_for, ready_parts, slope_parts, ReadyOk, Prepares}
use Rattle.chain.proofs.Rounding.{step-size, step-whole}
use Rattle.chain.proofs.StepLaws.{Mild, Milds, nothing, part_small, small-le, again-small}
use Rattle.chain.proofs.Sizes.{milds, fixed-mild, turned-mild, shift-ok, velocity-ok, velocity-years, moved-size, bursa-wolf-ok, turned-size, row_ok, frame-years, shift-at-size, scale-at-size}

-- ---- mild
slope-mild : (n a b c : ℤ) → nat_abs n ≤ 1971000000000000000 → nat_abs a + nat_abs b + nat_abs c ≤ 1202000 → Mild (record { k = n; a = a; b = b; c = c; d = 100000000000000 })
slope-mild n a b c h l = record { slope = omega arith; start = omega arith }

pub ready-mild : (r : Ready) → ReadyOk r → Milds (ready_parts r)
ready-mild (Fixed g) ok =
    milds _ (fixed-mild g.x 1 (omega arith) (omega (arith, ok.on on_x))) (fixed-mild g.y 1 (omega arith) (omega (arith, ok.on on_y)))
    (fixed-mild g.z 1 (omega arith) (omega (arith, ok.on on_z)))
ready-mild (Turned t) ok = turned-mild t.dx t.dy t.dz t.rx t.ry t.rz t.s ok.dx ok.dy ok.dz ok.rx ok.ry ok.rz ok.s
ready-mild (Scaled t) ok =
    milds _ (slope-mild t.kx t.slope (pos 0) (pos 0) ok.kx (omega (arith, ok.slope))) (slope-mild t.ky (pos 0) t.slope (pos 0) ok.ky (omega (arith, ok.slope)))
    (slope-mild t.kz (pos 0) (pos 0) t.slope ok.kz (omega (arith, ok.slope)))

-- ---- what is gained is small
gain-on : (i : Axis) (t : Parts) (p : Position) → coordinate i (gain t p) ≡ part (part_on i t) p
unfolding gain
gain-on on_x t p = refl
gain-on on_y t p = refl
gain-on on_z t p = refl

pub gain-small : (r : Ready) (p : Position) → ReadyOk r → Small 650000000000 p → Small 180000000 (gain (ready_parts r) p)
gain-small r p ok s = record { on = λ i. rw (gain-on i (ready_parts r) p) (part_small (part_on i (ready_parts r)) p ((ready-mild r ok).on i) s) }

-- a turn of the inverse that starts at a position that is not too large ends at one
pub again-near :
    (r : Ready) (q c p : Position) → ReadyOk r → Small 640000000000 q → Small 650000000000 c → p ≡ again (ready_parts r) q c →
    Small 650000000000 p
again-near r q c p ok near h e =
    subst⁻¹ (λ (x : Position). Small 650000000000 x) e (small-le (lit≤ tt) (again-small 640000000000 (ready_parts r) q c (ready-mild r ok) near h))

-- ---- a part that is the same everywhere, and one over a single coordinate
pub fixed-part : (n : ℤ) (d : ℕ) (p : Position) → part (fixed n d) p ≡ step_round n d
unfolding part linear
fixed-part n d p = ap (λ (z : ℤ). step_round z d) (ap (λ (z : ℤ). n +ℤ z) (nothing (pos 0) (pos 0) (pos 0) p refl) ∙ eq (v n ⊕ k 0) (v n) (omega arith))

pub fixed-gain : (g p : Position) → gain (ready_parts (Fixed g)) p ≡ g
unfolding gain
fixed-gain g p =
    of₃ position (fixed-part g.x 1 p ∙ step-whole g.x) (fixed-part g.y 1 p ∙ step-whole g.y) (fixed-part g.z 1 p ∙ step-whole g.z)

pub fixed-inverse : (g q : Position) → inverse_by (ready_parts (Fixed g)) q ≡ minus q g
unfolding inverse_by again
fixed-inverse g q = ap (minus q) (fixed-gain g _)

-- what gains the same everywhere needs one turn: the candidate does not matter
pub one-turn : (d : Direction) (g p : Position) → by_turns d 1 (ready_parts (Fixed g)) p ≡ by_way d (ready_parts (Fixed g)) p
unfolding again
one-turn Forward g p = refl
one-turn Inverse g p = ap (minus p) (fixed-gain g p) ∙ sym (fixed-inverse g p)

pub slope-gain :
    (kx ky kz a : ℤ) (p : Position) →
    position (step_round (kx +ℤ a *ℤ p.x) 100000000000000) (step_round (ky +ℤ a *ℤ p.y) 100000000000000) (step_round (kz +ℤ a *ℤ p.z) 100000000000000) ≡ gain (slope_parts kx ky kz a) p
unfolding gain part linear
slope-gain kx ky kz a p = of₃ position
    (over (kx +ℤ a *ℤ p.x) _ (eq (v kx ⊕ v a ⊗ v p.x) (v kx ⊕ (v a ⊗ v p.x ⊕ k 0 ⊗ v p.y ⊕ k 0 ⊗ v p.z)) (omega arith)))
    (over (ky +ℤ a *ℤ p.y) _ (eq (v ky ⊕ v a ⊗ v p.y) (v ky ⊕ (k 0 ⊗ v p.x ⊕ v a ⊗ v p.y ⊕ k 0 ⊗ v p.z)) (omega arith)))
    (over (kz +ℤ a *ℤ p.z) _ (eq (v kz ⊕ v a ⊗ v p.z) (v kz ⊕ (k 0 ⊗ v p.x ⊕ k 0 ⊗ v p.y ⊕ v a ⊗ v p.z)) (omega arith)))
  where
    over : (m n : ℤ) → m ≡ n → step_round m 100000000000000 ≡ step_round n 100000000000000
    over m n e = ap (λ (z : ℤ). step_round z 100000000000000) e

-- ---- what a velocity moves, and equal numbers
moved-small : (u dt : ℤ) → nat_abs u ≤ 10000 → nat_abs dt ≤ 120000 → nat_abs (moved u dt) ≤ 100000000
moved-small u dt h l = step-size (omega arith) 100000000 (u *ℤ dt) (moved-size u dt h l)

abbrev turn : ℤ → ℤ → ℤ → ℤ → ℤ → ℤ → ℤ → Turn
turn dx dy dz rx ry rz s = record { dx = dx; dy = dy; dz = dz; rx = rx; ry = ry; rz = rz; s = s }

-- equal numbers make equal turns and scales
pub turn-same :
    {dx dy dz rx ry rz s dx' dy' dz' rx' ry' rz' s' : ℤ} → dx ≡ dx' → dy ≡ dy' → dz ≡ dz' → rx ≡ rx' → ry ≡ ry' → rz ≡ rz' → s ≡ s' →
    turn dx dy dz rx ry rz s ≡ turn dx' dy' dz' rx' ry' rz' s'
turn-same {rx = rx} {ry = ry} {rz = rz} {s = s} {dx' = dx'} {dy' = dy'} {dz' = dz'} a b c d e f g =
    of₃ (λ (x y z : ℤ). turn x y z rx ry rz s) a b c ∙ of₄ (turn dx' dy' dz') d e f g

pub scale_same :
    {kx ky kz a kx' ky' kz' a' : ℤ} → kx ≡ kx' → ky ≡ ky' → kz ≡ kz' → a ≡ a' →
    ◌≡◌ {A = Scale} (record { kx = kx; ky = ky; kz = kz; slope = a }) (record { kx = kx'; ky = ky'; kz = kz'; slope = a' })
scale_same = of₄ (λ (kx ky kz a : ℤ). record { kx = kx; ky = ky; kz = kz; slope = a })

pub over : (t : ℤ) → nat_abs t ≤ 19710000 → nat_abs (over_of t) ≤ 1971000000000000000
over t h = omega (arith, abs_neg (t *ℤ pos 100000000000), mul-le t (pos 100000000000) 19710000 100000000000 h (omega arith))

small : (x y z : ℤ) → nat_abs x ≤ 100000000 → nat_abs y ≤ 100000000 → nat_abs z ≤ 100000000 → Small 100000000 (position x y z)
small x y z hx hy hz = record { on = on }
  where
    on : (i : Axis) → nat_abs (coordinate i (position x y z)) ≤ 100000000
    on on_x = hx
    on on_y = hy
    on on_z = hz

-- ---- each kind made ready gains what its step gains
module _ (s : Step) (ok : StepOk s) where
  good : (kind : Kind) → s.kind ≡ kind → KindOk kind s.before s.after
  good kind e = subst (λ (x : Kind). KindOk x s.before s.after) e ok

  gains : (kind : Kind) → s.kind ≡ kind → (p : Position) → gain (kind_parts kind s.before s.after) p ≡ gain (parts_of s) p
  gains kind e p = ap (λ (x : Kind). gain (kind_parts x s.before s.after) p) (sym e)

  pub shift-prepares : (t : shift'.Shift) → s.kind ≡ Shift t → Prepares s (Fixed (position t.dx t.dy t.dz))
  unfolding kind_parts shift_parts
  shift-prepares t e =
      let o = shift-ok t (good (Shift t) e).range in
      record { same = gains (Shift t) e; ok = small t.dx t.dy t.dz o.dx o.dy o.dz }

  pub velocity-prepares : (t : velocity'.Velocity) → s.kind ≡ Velocity t → Prepares s (Fixed (moved_of t (s.after.epoch -ℤ s.before.epoch)))
  unfolding kind_parts velocity_parts gain
  velocity-prepares t e =
      let dt = s.after.epoch -ℤ s.before.epoch in
      let o = velocity-ok t (good (Velocity t) e).range in
      let y = velocity-years t s.before s.after (good (Velocity t) e) in
      record {
        same = λ p. fixed-gain (moved_of t dt) p
            ∙ sym (of₃ position (fixed-part (t.vx *ℤ dt) 1000 p) (fixed-part (t.vy *ℤ dt) 1000 p) (fixed-part (t.vz *ℤ dt) 1000 p))
            ∙ gains (Velocity t) e p;
        ok = small (moved t.vx dt) (moved t.vy dt) (moved t.vz dt) (moved-small t.vx dt o.vx y) (moved-small t.vy dt o.vy y) (moved-small t.vz dt o.vz y);
      }

  pub turn-prepares : (t : bursaWolf'.BursaWolf) → s.kind ≡ BursaWolf t → Prepares s (Turned (turn_of t))
  unfolding kind_parts bursa_wolf_parts
  turn-prepares t e =
      let o = bursa-wolf-ok t (good (BursaWolf t) e).range in
      let c = t.convention in
      record {
        same = gains (BursaWolf t) e;
        ok = record {
          dx = o.dx;
          dy = o.dy;
          dz = o.dz;
          rx = turned-size c t.rx t.s o.rx o.s;
          ry = turned-size c t.ry t.s o.ry o.s;
          rz = turned-size c t.rz t.s o.rz o.s;
          s = o.s;
        };
      }

  pub frame-prepares : s.kind ≡ Frame → Prepares s (Scaled (frame_scale (row_of s.before.datum) (s.before.epoch -ℤ pos 2010000)))
  unfolding kind_parts frame_parts
  frame-prepares e =
      let row = row_of s.before.datum in
      let dt = s.before.epoch -ℤ pos 2010000 in
      let o = row_ok s.before.datum in
      let y = frame-years s.before s.after (good Frame e) in
      record {
        same = gains Frame e;
        ok = record {
          kx = over (shift_at row dt 0) (shift-at-size row o dt y 0 (lit< tt));
          ky = over (shift_at row dt 1) (shift-at-size row o dt y 1 (lit< tt));
          kz = over (shift_at row dt 2) (shift-at-size row o dt y 2 (lit< tt));
          slope = omega (arith, abs_neg (scale_at row dt), scale-at-size row o dt y);
        };
      }

  by-shift : (t : shift'.Shift) → s.kind ≡ Shift t → Prepares s (ready_kind (Shift t) s.before s.after)
  unfolding ready_kind
  by-shift t e = shift-prepares t e

  by-velocity : (t : velocity'.Velocity) → s.kind ≡ Velocity t → Prepares s (ready_kind (Velocity t) s.before s.after)
  unfolding ready_kind
  by-velocity t e = velocity-prepares t e

  by_turn : (t : bursaWolf'.BursaWolf) → s.kind ≡ BursaWolf t → Prepares s (ready_kind (BursaWolf t) s.before s.after)
  unfolding ready_kind
  by_turn t e = turn-prepares t e

  by-frame : s.kind ≡ Frame → Prepares s (ready_kind Frame s.before s.after)
  unfolding ready_kind
  by-frame e = frame-prepares e

  -- so a step that is not refused is prepared by what it is made ready as
  pub prepares : Prepares s (ready_for s)
  prepares = go s.kind refl
    where
      go : (kind : Kind) → s.kind ≡ kind → Prepares s (ready_kind kind s.before s.after)
      go (Shift t) e = by-shift t e
      go (Velocity t) e = by-velocity t e
      go (BursaWolf t) e = by_turn t e
      go Frame e = by-frame e

-- ---- by what is ready for it a step goes where it goes, either way
module _ (s : Step) (r : Ready) (ready : Prepares s r) where
  pub forward-same : (p : Position) → forward_by (ready_parts r) p ≡ forward_by (parts_of s) p
  unfolding forward_by
  forward-same p = ap (plus p) (ready.same p)

  turn-back : (q c : Position) → again (ready_parts r) q c ≡ again (parts_of s) q c
  unfolding again
  turn-back q c = ap (minus q) (ready.same c)

  pub inverse-same : (q : Position) → inverse_by (ready_parts r) q ≡ inverse_by (parts_of s) q
  unfolding inverse_by
  inverse-same q =
      let f : Position → Position = λ c. again (ready_parts r) q c in
      let g : Position → Position = λ c. again (parts_of s) q c in
      turn-back q (f (f q)) ∙ ap g (turn-back q (f q) ∙ ap g (turn-back q q))

  pub way-same : (d : Direction) (p : Position) → by_way d (ready_parts r) p ≡ by_way d (parts_of s) p
  way-same Forward p = forward-same p
  way-same Inverse p = inverse-same p
