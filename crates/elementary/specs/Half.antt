-- Arctangent and arcsine by the half of their result: twice the arctangent of x / (1 + √(1 ± x x)) (docs/ORDERS.md, section 3).
use Rattle.std.specs.Prelude.{Float}
use Rattle.elementary.specs.Floats.{◌⊗◌, ◌⊘◌, ◌⊕◌, ◌⊖◌, #}
use Rattle.elementary.specs.Series.{arctan_small_of}
use Rattle.elementary.specs.Root.{root_of}

unfoldable pub arctangent_of : Float → Float
unfolding arctan_small_of root_of
arctangent_of x = # 2 ⊗ arctan_small_of (x ⊘ (# 1 ⊕ root_of (# 1 ⊕ x ⊗ x)))

unfoldable pub arcsine_of : Float → Float
unfolding arctan_small_of root_of
arcsine_of x = # 2 ⊗ arctan_small_of (x ⊘ (# 1 ⊕ root_of (# 1 ⊖ x ⊗ x)))
