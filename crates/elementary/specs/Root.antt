-- The square root of a number near 1, by Heron's rule (docs/ORDERS.md, section 3): the first step needs no division, and three more follow.
use Rattle.std.specs.Prelude.{Float}
use Rattle.elementary.specs.Floats.{◌⊗◌, ◌⊘◌, ◌⊕◌, near, #}

-- a step from r
abbrev pub heron : Float → Float → Float
heron x r = near 1 2 ⊗ (r ⊕ x ⊘ r)

unfoldable pub root_of : Float → Float
root_of x =
    let r0 = near 1 2 ⊗ (# 1 ⊕ x) in
    let r1 = heron x r0 in
    let r2 = heron x r1 in
    heron x r2
