-- Worked values, bit for bit, as docs/ORDERS.md has them. Assumes nothing.
use mathlib.Core.Path.{◌≡◌}
use mathlib.Core.List.{List, [], ◌∷◌}
use lib.Ieee.{Float, binary64, round, neg, add, sub, mul, div, of_bits}
use Rattle.elementary.specs.Floats.{near}
use Rattle.elementary.specs.Series.{arctan_small_of}
use Rattle.elementary.specs.Root.{root_of}
use Rattle.elementary.specs.Half.{arctangent_of, arcsine_of}
use Rattle.elementary.specs.Hyperbolic.{arctan_series_of, sinh_of, cosh_of, artanh_small_of, artanh_of}
use Rattle.elementary.proofs.Same.{sames-are}

abbrev found : List Float
found = root_of (near 5 4) ∷ root_of (near 9 10) ∷ arctan_small_of (near 1 8) ∷ arctangent_of (near 1 2) ∷ []

abbrev expected : List Float
expected = of_bits binary64 0x3ff1e3779b97f4a8 ∷ of_bits binary64 0x3fee5b9d136c6d96 ∷ of_bits binary64 0x3fbfd5ba9aac2f6e ∷ of_bits binary64 0x3fddac670561bb4f ∷ []

abbrev found-more : List Float
found-more = artanh_small_of (near 1 8) ∷ artanh_of (near 3 8) ∷ arcsine_of (near 1 4) ∷ sinh_of (near 1 4) ∷ cosh_of (near 1 4) ∷ []

abbrev expected-more : List Float
expected-more =
    of_bits binary64 0x3fc015891c9eaef7 ∷ of_bits binary64 0x3fd93b0aee21c2c8 ∷ of_bits binary64 0x3fd02be9ce0b87cd ∷ of_bits binary64 0x3fd02accd9d08102 ∷ of_bits binary64 0x3ff080ab05ca6146 ∷ []

worked : found ≡ expected
unfolding root_of arctan_small_of arctangent_of round neg add sub mul div of_bits
worked = sames-are found expected tt

worked-more : found-more ≡ expected-more
unfolding root_of arctan_small_of arctan_series_of artanh_small_of artanh_of arcsine_of sinh_of cosh_of round neg add sub mul div of_bits
worked-more = sames-are found-more expected-more tt
