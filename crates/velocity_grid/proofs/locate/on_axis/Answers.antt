-- `velocity_grid::locate::on_axis` meets its contract: the axis' end fits. Assumes nothing.
use borrow.Author.Rules.{rules}
use mathlib.Core.Path.{◌≡◌, refl, ◌∙◌}
use Prim.Native.Nat.{◌≤◌}
use native.Mathlib.Omega.{arith}
use lib.IntN.{ℤ, pos, nat_abs, ◌+ℤ◌, ◌-ℤ◌, ◌*ℤ◌}
use mir.Syntax.{w64}
use mir.Val.{SFits, to_z, of_z}
use Rattle.ranges.specs.Ranges.{within}
use Rattle.rounding.proofs.Zn.{v, k, ◌⊖◌, unle, abs, add-le}
use Rattle.rounding.proofs.Machine.{fits, rd, rd+, rd-, rd*, fit+, fit-, fit*, of₃}
use Rattle.velocity_grid.specs.OnGrid.{on_axis}
use Rattle.velocity_grid.proofs.OnGrid.{end-size}
use Rattle.velocity_grid.proofs.locate.on_axis.Tie as tie
use Rattle.velocity_grid.proofs.locate.on_axis.Lts as lts
use Rattle.velocity_grid.proofs.locate.on_axis.Reads as reads
use Rattle.velocity_grid.proofs.locate.on_axis.Goals as goal

abbrev TheStart : Type 0
TheStart = lts.Start tie.the-claims reads.Pre reads.Post

one : pos 1 ≡ pos 1
one = refl

module _ (s : TheStart) where
  abbrev cells : ℤ
  cells = s.args.count -ℤ pos 1

  cells_fit : SFits w64 cells
  cells_fit =
      let l = unle s.requires.least (k 2) (v s.args.count) in
      let h = unle s.requires.most (v s.args.count) (k 2000) in
      fits 2000 (abs (v s.args.count ⊖ k 1) (omega arith) (omega arith)) (omega arith)

  length-fits : SFits w64 (cells *ℤ s.args.m)
  length-fits = fits 119940000000 (end-size s.requires) (omega arith)

  end_fits : SFits w64 (s.args.start +ℤ cells *ℤ s.args.m)
  end_fits = fits 163140000000 (add-le s.args.start (cells *ℤ s.args.m) 43200000000 119940000000 s.requires.low (end-size s.requires)) (omega arith)

  cells_is : to_z w64 (of_z w64 (to_z w64 (of_z w64 s.args.count) -ℤ pos 1)) ≡ cells
  cells_is = rd- (rd s.ranges.count) one cells_fit

  length-is : to_z w64 (of_z w64 (to_z w64 (of_z w64 (to_z w64 (of_z w64 s.args.count) -ℤ pos 1)) *ℤ to_z w64 (of_z w64 s.args.m))) ≡ cells *ℤ s.args.m
  length-is = rd* cells_is (rd s.ranges.m) length-fits

pub overflow_sub-count : goal.overflow_sub-count
overflow_sub-count c = fit- (rd c.ranges.count) one (cells_fit c)

pub overflow_mul-count : goal.overflow_mul-count
overflow_mul-count c = fit* (cells_is c) (rd c.ranges.m) (length-fits c)

pub overflow_add-start : goal.overflow_add-start
overflow_add-start c = fit+ (rd c.ranges.start) (length-is c) (end_fits c)

pub returns : goal.returns
unfolding on_axis
returns c =
    let s = c.before in
    c.within.ensures ∙ of₃ within (rd s.ranges.start) (rd s.ranges.z) (rd+ (rd s.ranges.start) (length-is s) (end_fits s))
