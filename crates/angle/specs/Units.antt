-- The units of whole numbers in f64: angles in radians, lengths in metres.
use Rattle.std.specs.Prelude.{◌^◌, Float, ℤ}
use Rattle.elementary.specs.Floats.{◌⊗◌, ◌⊘◌, near, #, whole}

-- radians in 0.00001": the f64 nearest to 4.84813681109536e-11
unfoldable pub k : Float
k = near 484813681109536 (10 ^ 25)

-- units of 0.00001" in radians
unfoldable pub radians : ℤ → Float
unfolding k
radians n = whole n ⊗ k

-- millimetres in metres
unfoldable pub metres : ℤ → Float
metres n = whole n ⊘ # 1000

-- seconds in a radian: the f64 nearest to 206264.806247096355
unfoldable pub seconds : Float
seconds = near 206264806247096355 (10 ^ 12)
