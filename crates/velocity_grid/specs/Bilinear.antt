-- The bilinear rule over one cell, for any mesh m: one exact fraction over m·m, rounded once, a half away from zero. Its laws stand in proofs/Bilinear.antt.
use Rattle.std.specs.Prelude.{◌≤◌, ℤ, pos, nat_abs, ◌+ℤ◌, ◌-ℤ◌, ◌*ℤ◌, ◌≤ℤ◌, ◌<ℤ◌}
use Rattle.rounding.specs.Nearest.{away, rounded}
use Rattle.velocity_grid.specs.declared.Corners.{Corners}

-- m times what stands x of the way m from a to b
unfoldable pub blend : ℤ → ℤ → ℤ → ℤ → ℤ
blend m x a b = a *ℤ (m -ℤ x) +ℤ b *ℤ x

-- m·m times the value x east and y north of the south-west node: along the south and the north edge, then between the two
unfoldable pub weighted_sum : ℤ → ℤ → ℤ → Corners → ℤ
weighted_sum m x y c = blend m y (blend m x c.south_west c.south_east) (blend m x c.north_west c.north_east)

unfoldable pub bilinear : ℤ → ℤ → ℤ → Corners → ℤ
unfolding weighted_sum blend
bilinear m x y c = rounded away (weighted_sum m x y c) (nat_abs (m *ℤ m))

-- ---- what the code asks, so that nothing passes an i64
pub record BlendOk (m x a b : ℤ) : Type 0 where
  pub from : pos 0 ≤ℤ x
  pub to : x ≤ℤ m
  pub mesh : nat_abs m ≤ 60000000
  pub first : nat_abs a ≤ 150000000000
  pub second : nat_abs b ≤ 150000000000

-- a point in a cell, whose nodes are each within 2,500
pub record CellOk (m x y : ℤ) (c : Corners) : Type 0 where
  pub above : pos 0 <ℤ m
  pub mesh : nat_abs m ≤ 60000000
  pub east-from : pos 0 ≤ℤ x
  pub east-to : x ≤ℤ m
  pub north-from : pos 0 ≤ℤ y
  pub north-to : y ≤ℤ m
  pub south-west : nat_abs c.south_west ≤ 2500
  pub south-east : nat_abs c.south_east ≤ 2500
  pub north-west : nat_abs c.north_west ≤ 2500
  pub north-east : nat_abs c.north_east ≤ 2500
