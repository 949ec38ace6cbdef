-- `chain::steps::plus` meets its contract. Assumes nothing.
use mathlib.Core.Path.{◌≡◌}
use native.Mathlib.Omega.{arith}
use lib.IntN.{◌+ℤ◌}
use mir.Syntax.{w64}
use mir.Val.{SFits, to_z, of_z}
use Rattle.rounding.proofs.Zn.{v, ◌⊕◌, abs, unabs}
use Rattle.rounding.proofs.Machine.{rd, fits, rd+, fit+, of₃}
use Rattle.chain.specs.Parts.{plus}
use Rattle.chain.specs.Axes.{Axis, on_x, on_y, on_z, coordinate}
use Rattle.chain.specs.Ready.{position}
use Rattle.chain.proofs.steps.plus.Lts as lts
use Rattle.chain.proofs.steps.plus.Reads as reads
use Rattle.chain.proofs.steps.plus.Goals as goal

abbrev TheStart : Type 0
TheStart = lts.Start reads.Pre reads.Post

-- each coordinate, as the machine reads it, and that the results fit
module _ (s : TheStart) where
  p : (i : Axis) → to_z w64 (of_z w64 (coordinate i s.args.p)) ≡ coordinate i s.args.p
  p i = rd (fits 650000000000 (s.requires.0.on i) (omega arith))

  g : (i : Axis) → to_z w64 (of_z w64 (coordinate i s.args.g)) ≡ coordinate i s.args.g
  g i = rd (fits 180000000 (s.requires.1.on i) (omega arith))

  f : (i : Axis) → SFits w64 (coordinate i s.args.p +ℤ coordinate i s.args.g)
  f i =
      let a = unabs 650000000000 (s.requires.0.on i) (v (coordinate i s.args.p)) in
      let b = unabs 180000000 (s.requires.1.on i) (v (coordinate i s.args.g)) in
      fits 650180000000 (abs (v (coordinate i s.args.p) ⊕ v (coordinate i s.args.g)) (omega arith) (omega arith)) (omega arith)

pub overflow_add-result : goal.overflow_add-result
overflow_add-result c = let s = c.before.before.before.before.before in fit+ (p s on_x) (g s on_x) (f s on_x)

pub overflow_add-result-2 : goal.overflow_add-result-2
overflow_add-result-2 c = let s = c.before.before.before.before.before.before.before.before.before in fit+ (p s on_y) (g s on_y) (f s on_y)

pub overflow_add-result-3 : goal.overflow_add-result-3
overflow_add-result-3 c = let s = c.before.before.before.before.before.before.before.before.before.before.before.before in fit+ (p s on_z) (g s on_z) (f s on_z)

pub returns : goal.returns
unfolding plus
returns c =
    let s = c.before.before.before.before.before.before.before.before.before.before.before.before in
    of₃ position (rd+ (p s on_x) (g s on_x) (f s on_x)) (rd+ (p s on_y) (g s on_y) (f s on_y)) (rd+ (p s on_z) (g s on_z) (f s on_z))
