-- A step: each coordinate gains its part of g, worked out at the point. Each part is one exact fraction, affine in the coordinates and rounded once, so
-- a step of any kind is three such fractions.
use Rattle.std.specs.Prelude.{List, ℕ, ◌+◌, ℤ, pos, neg_ℤ, ◌+ℤ◌, ◌-ℤ◌, ◌*ℤ◌}
use Rattle.rounding.specs.Nearest.{to_even, rounded}
use Rattle.chain.specs.declared.Position.{Position}
use Rattle.chain.specs.declared.Realization.{Realization}
use Rattle.chain.specs.declared.Shift as shift'
use Rattle.chain.specs.declared.Velocity as velocity'
use Rattle.chain.specs.declared.BursaWolf as bursaWolf'
use Rattle.chain.specs.declared.Convention.{Convention}
use Rattle.chain.specs.declared.Convention.TheVariants.{PositionVector, CoordinateFrame}
use Rattle.chain.specs.declared.Kind.{Kind}
use Rattle.chain.specs.declared.Kind.TheVariants.{Shift, Velocity, BursaWolf, Frame}
use Rattle.chain.specs.declared.Step.{Step}
use Rattle.chain.specs.Rows.{row_of, figure}

-- ---- the fractions
-- how a step's parts and rotations are rounded: to the nearest whole number, a half to the even one (request A11)
unfoldable pub step_round : ℤ → ℕ → ℤ
step_round = rounded to_even

-- one axis' part, (k + a·X + b·Y + c·Z)/d
pub record Part : Type 0 where
  pub k : ℤ
  pub a : ℤ
  pub b : ℤ
  pub c : ℤ
  pub d : ℕ

pub record Parts : Type 0 where
  pub px : Part
  pub py : Part
  pub pz : Part

unfoldable pub linear : Part → Position → ℤ
linear t p = t.a *ℤ p.x +ℤ t.b *ℤ p.y +ℤ t.c *ℤ p.z

unfoldable pub part : Part → Position → ℤ
part t p = step_round (t.k +ℤ linear t p) t.d

-- g at a position
unfoldable pub gain : Parts → Position → Position
gain t p = record { x = part t.px p; y = part t.py p; z = part t.pz p }

-- a part that is the same everywhere, n/d
abbrev pub fixed : ℤ → ℕ → Part
fixed n d = record { k = n; a = pos 0; b = pos 0; c = pos 0; d = d }

-- ---- T, shift: g = (dx, dy, dz)
unfoldable pub shift_parts : shift'.Shift → Parts
shift_parts t = record { px = fixed t.dx 1; py = fixed t.dy 1; pz = fixed t.dz 1 }

-- ---- V, velocity: v times (epoch after − epoch before)/1000
unfoldable pub velocity_parts : velocity'.Velocity → ℤ → Parts
velocity_parts t dt = record { px = fixed (t.vx *ℤ dt) 1000; py = fixed (t.vy *ℤ dt) 1000; pz = fixed (t.vz *ℤ dt) 1000 }

-- ---- B, Bursa-Wolf
-- P (position vector) takes a rotation as it is, C (coordinate frame) with the other sign
abbrev pub by_convention : Convention → ℤ → ℤ
by_convention PositionVector r = r
by_convention CoordinateFrame r = neg_ℤ r

-- a rotation of r·0.00001", in whole units of 10^-11 radian: the nearest to r times 4.84813681110, which is exact
unfoldable pub rotation11 : ℤ → ℤ
rotation11 r = step_round (r *ℤ pos 484813681110) 100000000000

-- with the scale on it (request A7): the nearest to it times (10^11 + s)/10^11
unfoldable pub scaled_rotation : ℤ → ℤ → ℤ
scaled_rotation r s = step_round (r *ℤ (pos 100000000000 +ℤ s)) 100000000000

-- a rotation as a step applies it: by its convention, made units of 10^-11 radian, then scaled. Two roundings
abbrev pub applied : bursaWolf'.BursaWolf → ℤ → ℤ
applied t r = scaled_rotation (rotation11 (by_convention t.convention r)) t.s

-- k + (a·X + b·Y + c·Z)/10^11 is one fraction
abbrev pub over11 : ℤ → ℤ → ℤ → ℤ → Part
over11 k a b c = record { k = k *ℤ pos 100000000000; a = a; b = b; c = c; d = 100000000000 }

-- gx = dx + (sX − rzY + ryZ)/10^11; gy = dy + (rzX + sY − rxZ)/10^11; gz = dz + (−ryX + rxY + sZ)/10^11, rotations in 10^-11 radian
abbrev pub turned_parts : ℤ → ℤ → ℤ → ℤ → ℤ → ℤ → ℤ → Parts
turned_parts dx dy dz rx ry rz s = record { px = over11 dx s (neg_ℤ rz) ry; py = over11 dy rz s (neg_ℤ rx); pz = over11 dz (neg_ℤ ry) rx s }

unfoldable pub bursa_wolf_parts : bursaWolf'.BursaWolf → Parts
bursa_wolf_parts t =
    turned_parts t.dx t.dy t.dz
    (applied t t.rx) (applied t t.ry) (applied t t.rz)
    t.s

-- ---- F, frame: −[(T + Tv dt/1000) + (D + Dv dt/1000) × coordinate/10^11], dt = epoch − 2,010,000
-- T + Tv dt/1000, in thousandths
unfoldable pub at_epoch : ℤ → ℤ → ℤ → ℤ
at_epoch t tv dt = pos 1000 *ℤ t +ℤ tv *ℤ dt

-- −t/1000 + (a·X + b·Y + c·Z)/10^14 is one fraction
abbrev pub over14 : ℤ → ℤ → ℤ → ℤ → Part
over14 t a b c = record { k = neg_ℤ (t *ℤ pos 100000000000); a = a; b = b; c = c; d = 100000000000000 }

-- −(t/1000 + e·coordinate/10^14) on each axis; t and e in thousandths
abbrev pub scaled_parts : ℤ → ℤ → ℤ → ℤ → Parts
scaled_parts tx ty tz e = record { px = over14 tx (neg_ℤ e) (pos 0) (pos 0); py = over14 ty (pos 0) (neg_ℤ e) (pos 0); pz = over14 tz (pos 0) (pos 0) (neg_ℤ e) }

-- a row's shift on an axis, and its scale
abbrev pub shift_at : List ℤ → ℤ → ℕ → ℤ
shift_at row dt i = at_epoch (figure row i) (figure row (i + 3)) dt

abbrev pub scale_at : List ℤ → ℤ → ℤ
scale_at row dt = at_epoch (figure row 6) (figure row 7) dt

unfoldable pub frame_parts : List ℤ → ℤ → Parts
frame_parts row dt = scaled_parts (shift_at row dt 0) (shift_at row dt 1) (shift_at row dt 2) (scale_at row dt)

-- ---- a step of any kind, from a realization to another
unfoldable pub kind_parts : Kind → Realization → Realization → Parts
kind_parts (Shift t) r a = shift_parts t
kind_parts (Velocity t) r a = velocity_parts t (a.epoch -ℤ r.epoch)
kind_parts (BursaWolf t) r a = bursa_wolf_parts t
kind_parts Frame r a = frame_parts (row_of r.datum) (r.epoch -ℤ pos 2010000)

abbrev pub parts_of : Step → Parts
parts_of s = kind_parts s.kind s.before s.after

-- ---- forward (document 01: along), and inverse (back): start at q, and three times take q less the g worked out at the candidate
unfoldable pub plus : Position → Position → Position
plus p g = record { x = p.x +ℤ g.x; y = p.y +ℤ g.y; z = p.z +ℤ g.z }

unfoldable pub minus : Position → Position → Position
minus p g = record { x = p.x -ℤ g.x; y = p.y -ℤ g.y; z = p.z -ℤ g.z }

unfoldable pub forward_by : Parts → Position → Position
forward_by t p = plus p (gain t p)

unfoldable pub again : Parts → Position → Position → Position
again t q c = minus q (gain t c)

unfoldable pub inverse_by : Parts → Position → Position
inverse_by t q = again t q (again t q (again t q q))
