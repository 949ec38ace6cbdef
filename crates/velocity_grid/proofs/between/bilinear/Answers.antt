-- `velocity_grid::between::bilinear` meets its contract: along the two edges, between them, and one rounding. Assumes nothing.
use borrow.Author.Rules.{rules}
use mathlib.Core.Path.{◌≡◌, ◌∙◌, ap₂}
use Prim.Native.Nat.{◌*◌, ◌≤◌}
use native.Mathlib.Nat as NatL
use native.Mathlib.Omega.{arith}
use lib.IntN.{ℤ, pos, nat_abs, ◌*ℤ◌}
use mir.Syntax.{w64}
use mir.Val.{SFits, to_z, of_z}
use Rattle.rounding.specs.Nearest.{away, rounded}
use Rattle.rounding.specs.Quotient.{quotient_of}
use Rattle.rounding.proofs.Zn.{mul-le}
use Rattle.rounding.proofs.Machine.{fits, rd, rd*, fit*, to₄, of₄, told, not-lt}
use Rattle.velocity_grid.specs.Bilinear.{blend, weighted_sum, bilinear, BlendOk}
use Rattle.velocity_grid.proofs.Bilinear.{blend-size, square-least}
use Rattle.velocity_grid.proofs.between.bilinear.Tie as tie
use Rattle.velocity_grid.proofs.between.bilinear.Lts as lts
use Rattle.velocity_grid.proofs.between.bilinear.Reads as reads
use Rattle.velocity_grid.proofs.between.bilinear.Goals as goal

abbrev TheAfterBlend2 : Type 0
TheAfterBlend2 = lts.After-blend2 tie.the-claims reads.Pre reads.Post

abbrev TheStart : Type 0
TheStart = lts.Start tie.the-claims reads.Pre reads.Post

module _ (s : TheStart) where
  abbrev M : ℤ
  M = s.args.m

  abbrev X : ℤ
  X = s.args.x

  abbrev south : ℤ
  south = blend M X s.args.c.south_west s.args.c.south_east

  abbrev north : ℤ
  north = blend M X s.args.c.north_west s.args.c.north_east

  edge : (a b : ℤ) → nat_abs a ≤ 2500 → nat_abs b ≤ 2500 → BlendOk M X a b
  edge a b h l = record { from = s.requires.east-from; to = s.requires.east-to; mesh = s.requires.mesh; first = omega arith; second = omega arith }

  -- 2,500 times the mesh
  edge-size : (a b : ℤ) → nat_abs a ≤ 2500 → nat_abs b ≤ 2500 → nat_abs (blend M X a b) ≤ 150000000000
  edge-size a b h l = NatL.le_trans (blend-size s.requires.east-from s.requires.east-to a b 2500 h l) (NatL.mul-le-mul_left 2500 s.requires.mesh)

  across : BlendOk M s.args.y south north
  across = record {
    from = s.requires.north-from;
    to = s.requires.north-to;
    mesh = s.requires.mesh;
    first = edge-size s.args.c.south_west s.args.c.south_east s.requires.south-west s.requires.south-east;
    second = edge-size s.args.c.north_west s.args.c.north_east s.requires.north-west s.requires.north-east;
  }

  square-fits : SFits w64 (M *ℤ M)
  square-fits = fits 3600000000000000 (mul-le M M 60000000 60000000 s.requires.mesh s.requires.mesh) (omega arith)

pub blend-south-requires : goal.blend-south-requires
blend-south-requires c =
    let s = c.before.before.before in
    let t = c.struct_told-2-1.given in
    to₄ BlendOk (rd s.ranges.m) (rd s.ranges.x) (told {z = s.args.c.south_west} t.0.1) (told {z = s.args.c.south_east} t.1.0.1) (edge s s.args.c.south_west s.args.c.south_east s.requires.south-west s.requires.south-east)

pub blend-north-requires : goal.blend-north-requires
blend-north-requires c =
    let s = c.before.before.before.before.before.before in
    let t = c.struct_told-4-1.given in
    to₄ BlendOk (rd s.ranges.m) (rd s.ranges.x) (told {z = s.args.c.north_west} t.1.1.0.1) (told {z = s.args.c.north_east} t.1.1.1.0.1) (edge s s.args.c.north_west s.args.c.north_east s.requires.north-west s.requires.north-east)

-- what the two edges gave
module _ (c : TheAfterBlend2) where
  abbrev start : TheStart
  start = c.before.before.before.before.before.before

  south-is : to_z w64 (of_z w64 c.blend-south.result) ≡ south start
  south-is =
      let t = c.struct_told-4-1.given in
      rd (record { sfits = c.blend-south.type_inv }) ∙ c.blend-south.ensures
      ∙ of₄ blend (rd start.ranges.m) (rd start.ranges.x) (told {z = start.args.c.south_west} t.0.1) (told {z = start.args.c.south_east} t.1.0.1)

  north-is : to_z w64 (of_z w64 c.blend-north.result) ≡ north start
  north-is =
      let t = c.struct_told-4-1.given in
      rd (record { sfits = c.blend-north.type_inv }) ∙ c.blend-north.ensures
      ∙ of₄ blend (rd start.ranges.m) (rd start.ranges.x) (told {z = start.args.c.north_west} t.1.1.0.1) (told {z = start.args.c.north_east} t.1.1.1.0.1)

pub blend-requires : goal.blend-requires
blend-requires c = let s = start c in to₄ BlendOk (rd s.ranges.m) (rd s.ranges.y) (south-is c) (north-is c) (across s)

pub overflow_mul-m : goal.overflow_mul-m
overflow_mul-m c = let s = start c.before in fit* (rd s.ranges.m) (rd s.ranges.m) (square-fits s)

pub returns : goal.returns
unfolding bilinear weighted_sum
returns c =
    let b = c.before in
    let s = start b.before in
    let n = rd (record { sfits = b.blend.type_inv }) ∙ b.blend.ensures ∙ of₄ blend (rd s.ranges.m) (rd s.ranges.y) (south-is b.before) (north-is b.before) in
    rd (record { sfits = c.round_div_away.type_inv }) ∙ c.round_div_away.ensures ∙ ap₂ (quotient_of away) n (rd* (rd s.ranges.m) (rd s.ranges.m) (square-fits s))
    ∙ rw (not-lt (M s *ℤ M s) (pos 1) (square-least (M s) s.requires.above))
