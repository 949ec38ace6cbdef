-- A step made ready: its numbers worked out once, and what it gains by them at a position. The form is ours to choose; what must hold of it is `Prepares`: it gains
-- what the step gains, everywhere (proofs/Prepared.antt: `prepares`).
use Rattle.std.specs.Prelude.{◌≡◌, ◌+◌, ◌≤◌, List, ℤ, pos, neg_ℤ, nat_abs, ◌-ℤ◌, ◌*ℤ◌}
use Rattle.chain.specs.declared.Position.{Position}
use Rattle.chain.specs.declared.Realization.{Realization}
use Rattle.chain.specs.declared.Velocity as velocity'
use Rattle.chain.specs.declared.BursaWolf as bursaWolf'
use Rattle.chain.specs.declared.Kind.{Kind}
use Rattle.chain.specs.declared.Kind.TheVariants.{Shift, Velocity, BursaWolf, Frame}
use Rattle.chain.specs.declared.Step.{Step}
use Rattle.chain.specs.declared.steps.Turn.{Turn}
use Rattle.chain.specs.declared.steps.Scale.{Scale}
use Rattle.chain.specs.declared.steps.Ready.{Ready}
use Rattle.chain.specs.declared.steps.Ready.TheVariants.{Fixed, Turned, Scaled}
use Rattle.chain.specs.Rows.{row_of}
use Rattle.chain.specs.Parts.{Parts, step_round, applied, shift_at, scale_at, fixed, gain, turned_parts, parts_of}
use Rattle.chain.specs.Axes.{Small}

-- ---- what it gains
abbrev pub turn_parts : Turn → Parts
turn_parts t = turned_parts t.dx t.dy t.dz t.rx t.ry t.rz t.s

-- (k + slope·coordinate)/10^14 on each axis
abbrev pub slope_parts : ℤ → ℤ → ℤ → ℤ → Parts
slope_parts kx ky kz slope = record {
  px = record { k = kx; a = slope; b = pos 0; c = pos 0; d = 100000000000000 };
  py = record { k = ky; a = pos 0; b = slope; c = pos 0; d = 100000000000000 };
  pz = record { k = kz; a = pos 0; b = pos 0; c = slope; d = 100000000000000 };
}

abbrev pub ready_parts : Ready → Parts
ready_parts (Fixed g) = record { px = fixed g.x 1; py = fixed g.y 1; pz = fixed g.z 1 }
ready_parts (Turned t) = turn_parts t
ready_parts (Scaled t) = slope_parts t.kx t.ky t.kz t.slope

-- ---- what the code asks of it, so that nothing passes an i64
pub record TurnOk (t : Turn) : Type 0 where
  pub dx : nat_abs t.dx ≤ 100000000
  pub dy : nat_abs t.dy ≤ 100000000
  pub dz : nat_abs t.dz ≤ 100000000
  pub rx : nat_abs t.rx ≤ 4848234
  pub ry : nat_abs t.ry ≤ 4848234
  pub rz : nat_abs t.rz ≤ 4848234
  pub s : nat_abs t.s ≤ 2000000

pub record ScaleOk (t : Scale) : Type 0 where
  pub kx : nat_abs t.kx ≤ 1971000000000000000
  pub ky : nat_abs t.ky ≤ 1971000000000000000
  pub kz : nat_abs t.kz ≤ 1971000000000000000
  pub slope : nat_abs t.slope ≤ 1202000

abbrev pub ReadyOk : Ready → Type 0
ReadyOk (Fixed g) = Small 100000000 g
ReadyOk (Turned t) = TurnOk t
ReadyOk (Scaled t) = ScaleOk t

-- ---- what each kind is made ready as
abbrev pub position : ℤ → ℤ → ℤ → Position
position x y z = record { x = x; y = y; z = z }

-- V gains the same everywhere: its years are known
abbrev pub moved : ℤ → ℤ → ℤ
moved u dt = step_round (u *ℤ dt) 1000

abbrev pub moved_of : velocity'.Velocity → ℤ → Position
moved_of t dt = position (moved t.vx dt) (moved t.vy dt) (moved t.vz dt)

-- B has its rotations in 10^-11 radian, as convention P has them
abbrev pub turn_of : bursaWolf'.BursaWolf → Turn
turn_of t = record {
  dx = t.dx;
  dy = t.dy;
  dz = t.dz;
  rx = applied t t.rx;
  ry = applied t t.ry;
  rz = applied t t.rz;
  s = t.s;
}

-- F is its row at the epoch, over 10^14
abbrev pub over_of : ℤ → ℤ
over_of t = neg_ℤ (t *ℤ pos 100000000000)

abbrev pub frame_scale : List ℤ → ℤ → Scale
frame_scale row dt = record { kx = over_of (shift_at row dt 0); ky = over_of (shift_at row dt 1); kz = over_of (shift_at row dt 2); slope = neg_ℤ (scale_at row dt) }

unfoldable pub ready_kind : Kind → Realization → Realization → Ready
ready_kind (Shift t) r a = Fixed (position t.dx t.dy t.dz)
ready_kind (Velocity t) r a = Fixed (moved_of t (a.epoch -ℤ r.epoch))
ready_kind (BursaWolf t) r a = Turned (turn_of t)
ready_kind Frame r a = Scaled (frame_scale (row_of r.datum) (r.epoch -ℤ pos 2010000))

abbrev pub ready_for : Step → Ready
ready_for s = ready_kind s.kind s.before s.after

-- ---- ready for a step: it gains what the step gains, everywhere
pub record Prepares (s : Step) (r : Ready) : Type 0 where
  pub same : (p : Position) → gain (ready_parts r) p ≡ gain (parts_of s) p
  pub ok : ReadyOk r

-- ---- what one axis' part asks of its numbers
pub record LinearOk (a b c : ℤ) (p : Position) : Type 0 where
  pub sum : nat_abs a + nat_abs b + nat_abs c ≤ 11696468
  pub small : Small 650000000000 p

pub record PartOk (k a b c : ℤ) (p : Position) : Type 0 where
  pub start : nat_abs k ≤ 100000000
  pub linear : LinearOk a b c p
