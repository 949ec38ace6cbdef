-- A step by axis: what it adds to a coordinate, and what the inverse's turns take away. Assumes nothing.
use mathlib.Core.Path.{◌≡◌, refl}
use lib.IntN.{◌+ℤ◌, ◌-ℤ◌}
use Rattle.chain.specs.declared.Position.{Position}
use Rattle.chain.specs.Parts.{Parts, part, gain, plus, minus, forward_by, again, inverse_by}
use Rattle.chain.specs.Axes.{Axis, on_x, on_y, on_z, coordinate, part_on}

pub forward-on : (i : Axis) (t : Parts) (p : Position) → coordinate i (forward_by t p) ≡ coordinate i p +ℤ part (part_on i t) p
unfolding forward_by gain plus
forward-on on_x t p = refl
forward-on on_y t p = refl
forward-on on_z t p = refl

-- a turn takes away the part at the candidate c
pub again-on : (i : Axis) (t : Parts) (q c : Position) → coordinate i (again t q c) ≡ coordinate i q -ℤ part (part_on i t) c
unfolding again gain minus
again-on on_x t q c = refl
again-on on_y t q c = refl
again-on on_z t q c = refl

-- the inverse takes away the part at the second candidate
pub inverse-on : (i : Axis) (t : Parts) (q : Position) → coordinate i (inverse_by t q) ≡ coordinate i q -ℤ part (part_on i t) (again t q (again t q q))
unfolding inverse_by
inverse-on i t q = again-on i t q (again t q (again t q q))
