-- `angle::ellipsoids::ellipsoid` meets its contract: each literal is the f64 nearest to the printed number, which antt computes. Assumes nothing.
use mathlib.Core.Path.{◌≡◌, refl, ap, ◌∙◌}
use borrow.Author.Rules.{rules}
use Prim.Native.Nat.{ℕ}
use lib.IntN.{ℤ, pos}
use lib.Ieee.{binary64, of_bits, round}
use Rattle.elementary.specs.Floats.{#}
use Rattle.angle.specs.Ellipsoids.{table, row, shape, figure_of, ellipsoid_of}
use Rattle.angle.specs.declared.Ellipsoid.{Ellipsoid}
use Rattle.angle.specs.declared.Figure.{Figure}
use Rattle.angle.proofs.Codes.{no_row}
use Rattle.angle.proofs.ellipsoids.ellipsoid.Goals as goal

abbrev bits : ℕ → ℕ → Figure
bits a i = record { a = of_bits binary64 a; inverse_flattening = of_bits binary64 i }

grs80 : bits 4708606483430899712 4643954612731902376 ≡ figure_of (pos 1)
unfolding figure_of table round of_bits
grs80 = refl

wgs84 : bits 4708606483430899712 4643954612757622152 ≡ figure_of (pos 2)
unfolding figure_of table round of_bits
wgs84 = refl

everest-modified : bits 4708605589071606055 4643999375660487488 ≡ figure_of (pos 3)
unfolding figure_of table round of_bits
everest-modified = refl

everest-1967 : bits 4708605583158509830 4643999375660487488 ≡ figure_of (pos 4)
unfolding figure_of table round of_bits
everest-1967 = refl

zero_is : bits 0 0 ≡ row (# 0) (# 0)
unfolding round of_bits
zero_is = refl

-- a row of the table is that of its code
at_row : (z : ℤ) (n : ℕ) {r : Figure} {e : Ellipsoid} → r ≡ figure_of (pos n) → pos n ≡ z → e ≡ shape r → e ≡ ellipsoid_of z
unfolding ellipsoid_of
at_row z n h k s = s ∙ ap shape (h ∙ ap figure_of k)

pub returns-in-1 : goal.returns-in-1
returns-in-1 c = let z : pos 1 ≡ c.args.code = search rules in at_row c.args.code 1 grs80 z c.shape.ensures

pub returns-in-2 : goal.returns-in-2
returns-in-2 c = let z : pos 2 ≡ c.args.code = search rules in at_row c.args.code 2 wgs84 z c.shape-in-2.ensures

pub returns-in-3 : goal.returns-in-3
returns-in-3 c = let z : pos 3 ≡ c.args.code = search rules in at_row c.args.code 3 everest-modified z c.shape-in-3.ensures

pub returns-in-4 : goal.returns-in-4
returns-in-4 c = let z : pos 4 ≡ c.args.code = search rules in at_row c.args.code 4 everest-1967 z c.shape-in-4.ensures

pub returns-in_default : goal.returns-in_default
unfolding ellipsoid_of
returns-in_default c =
    let r = c.in_default.in_default-own.rest in
    c.shape-in_default.ensures ∙ ap shape (zero_is ∙ no_row c.args.code r.0.0.0.1 r.0.0.1 r.0.1 r.1)
