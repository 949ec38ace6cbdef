-- `velocity_grid::locate::along` meets its contract: none of the three numbers is below 0. Assumes nothing.
use mathlib.Core.Path.{◌≡◌, ◌∙◌, ap}
use Prim.Native.Nat.{ℕ, ◌<◌, ◌≤◌}
use native.Mathlib.Omega.{arith}
use lib.IntN.{ℤ, pos, nat_abs, ◌-ℤ◌}
use lib.Signed.{◌≤ℤ◌}
use mir.Syntax.{w64}
use mir.Val.{SFits, to_z, of_z}
use Rattle.rounding.proofs.Zn.{v, k, le, unle, lt, unlt, pos-abs}
use Rattle.rounding.proofs.Machine.{fits, rd, rd-, fit-, of₃}
use Rattle.velocity_grid.specs.OnGrid.{axis_cell_of, along_of}
use Rattle.velocity_grid.specs.declared.AxisCell.{AxisCell}
use Rattle.velocity_grid.proofs.OnGrid.{On, on-axis, natural-of}
use Rattle.velocity_grid.proofs.locate.along.Tie as tie
use Rattle.velocity_grid.proofs.locate.along.Lts as lts
use Rattle.velocity_grid.proofs.locate.along.Reads as reads
use Rattle.velocity_grid.proofs.locate.along.Goals as goal

abbrev TheStart : Type 0
TheStart = lts.Start tie.the-claims reads.Pre reads.Post

module _ (s : TheStart) where
  abbrev past : ℤ
  past = s.args.z -ℤ s.args.start

  on : On s.args.start s.args.count s.args.m s.args.z
  on = on-axis s.args.z s.requires.0 s.requires.1

  past_fits : SFits w64 past
  past_fits = fits 119940000000 on.size (omega arith)

  count≥0 : pos 0 ≤ℤ s.args.count
  count≥0 = let l = unle s.requires.0.least (k 2) (v s.args.count) in le (k 0) (v s.args.count) (omega arith)

  m≥0 : pos 0 ≤ℤ s.args.m
  m≥0 = let l = unlt s.requires.0.mesh (k 0) (v s.args.m) in le (k 0) (v s.args.m) (omega arith)

  count-is : to_z w64 (of_z w64 s.args.count) ≡ pos (nat_abs s.args.count)
  count-is = rd s.ranges.count ∙ natural-of count≥0

  m-is : to_z w64 (of_z w64 s.args.m) ≡ pos (nat_abs s.args.m)
  m-is = rd s.ranges.m ∙ natural-of m≥0

  past_is : to_z w64 (of_z w64 (to_z w64 (of_z w64 s.args.z) -ℤ to_z w64 (of_z w64 s.args.start))) ≡ pos (nat_abs past)
  past_is = rd- (rd s.ranges.z) (rd s.ranges.start) past_fits ∙ natural-of on.from

  -- 2 to 2,000 nodes, a mesh of at most 10 minutes
  count-in : (2 ≤ nat_abs s.args.count) × (nat_abs s.args.count ≤ 2000)
  count-in =
      let a = pos-abs count≥0 (v s.args.count) in
      let l = unle s.requires.0.least (k 2) (v s.args.count) in
      let h = unle s.requires.0.most (v s.args.count) (k 2000) in
      omega arith

  m-in : (0 < nat_abs s.args.m) × (nat_abs s.args.m ≤ 60000000)
  m-in =
      let a = pos-abs m≥0 (v s.args.m) in
      let l = unlt s.requires.0.mesh (k 0) (v s.args.m) in
      let h = unle s.requires.0.small (v s.args.m) (k 60000000) in
      omega arith

pub overflow_cast-count : goal.overflow_cast-count
overflow_cast-count c = let h = count-in c in rw (count-is c) (tt, record { fits = omega arith })

pub overflow_cast-m : goal.overflow_cast-m
overflow_cast-m c = let h = m-in c in rw (m-is c) (tt, record { fits = omega arith })

pub overflow_sub-z : goal.overflow_sub-z
overflow_sub-z c = fit- (rd c.ranges.z) (rd c.ranges.start) (past_fits c)

pub overflow_cast-z : goal.overflow_cast-z
overflow_cast-z c = let h = (on c).size in rw (past_is c) (tt, record { fits = omega arith })

pub axis_cell-requires : goal.axis_cell-requires
axis_cell-requires c =
    let h = count-in c in
    let m = m-in c in
    let p = (on c).size in
    rw (count-is c, m-is c, past_is c) (h.0, m.0, omega arith)

pub returns : goal.returns
unfolding along_of
returns c =
    let s = c.before in
    c.axis_cell.ensures ∙ of₃ (λ (a b d : ℤ). axis_cell_of (nat_abs a) (nat_abs b) (nat_abs d)) (count-is s) (m-is s) (past_is s)
