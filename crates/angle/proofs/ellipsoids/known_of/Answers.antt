-- `angle::ellipsoids::known_of` meets its contract: a code of none has the ellipsoid of code 0. Assumes nothing.
use mathlib.Core.Path.{◌≡◌, refl, sym, ap, ◌∙◌}
use Prim.Native.Nat.{zero}
use lib.IntN.{pos}
use Rattle.elementary.specs.Floats.{#}
use Rattle.angle.specs.Ellipsoids.{row, shape, figure_of, ellipsoid_of}
use Rattle.angle.proofs.Codes.{no_row}
use Rattle.angle.proofs.ellipsoids.known_of.Goals as goal

none_is : row (# 0) (# 0) ≡ figure_of (pos zero)
unfolding figure_of
none_is = refl

pub returns-in_default : goal.returns-in_default
unfolding ellipsoid_of
returns-in_default c =
    let r = c.in_default.in_default-own.rest in
    let n = no_row c.args.code r.0.0.0.1 r.0.0.1 r.0.1 r.1 in
    c.known-in_default.ensures ∙ c.ellipsoid-in_default.ensures ∙ ap shape (sym none_is ∙ n)
