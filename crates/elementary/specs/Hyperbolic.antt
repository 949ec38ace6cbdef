-- The hyperbolic functions: the series of sine, cosine and arctangent at -(x·x). They stand for the exponential and the logarithm (docs/ORDERS.md,
-- section 3).
use Rattle.std.specs.Prelude.{Float}
use Rattle.std.specs.Float.Ieee.{neg}
use Rattle.elementary.specs.Floats.{◌⊗◌, ◌⊘◌, ◌⊕◌, ◌⊖◌, #}
use Rattle.elementary.specs.Series.{horner, sine_table, cosine_table, arctan_table}
use Rattle.elementary.specs.Root.{root_of}

unfoldable pub sinh_of : Float → Float
sinh_of x = horner (neg (x ⊗ x)) sine_table ⊗ x

unfoldable pub cosh_of : Float → Float
cosh_of x = horner (neg (x ⊗ x)) cosine_table

-- of x·x it is the arctangent of x over x, of -(x·x) the artanh
unfoldable pub arctan_series_of : Float → Float
arctan_series_of y = horner y arctan_table

unfoldable pub artanh_small_of : Float → Float
unfolding arctan_series_of
artanh_small_of x = arctan_series_of (neg (x ⊗ x)) ⊗ x

unfoldable pub artanh_of : Float → Float
unfolding artanh_small_of root_of
artanh_of x = # 2 ⊗ artanh_small_of (x ⊘ (# 1 ⊕ root_of (# 1 ⊖ x ⊗ x)))
