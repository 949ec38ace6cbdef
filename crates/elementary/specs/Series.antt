-- Sine, cosine and the arctangent of a small argument: Horner in x·x over a table of coefficients (docs/ORDERS.md, section 3).
use Rattle.std.specs.Prelude.{ℕ, zero, suc, ◌*◌, List, [], ◌∷◌, Float}
use Rattle.std.specs.Float.Ieee.{neg}
use Rattle.elementary.specs.Floats.{◌⊗◌, ◌⊘◌, ◌⊕◌, #}

abbrev pub factorial : ℕ → ℕ
factorial zero = 1
factorial (suc n) = suc n * factorial n

-- 1.0 divided by n!
abbrev pub reciprocal : ℕ → Float
reciprocal n = # 1 ⊘ # (factorial n)

-- 1/15!, 1/13!, .. 1/1!, the signs alternating so that the last is +1
abbrev pub sine_table : List Float
sine_table =
    neg (reciprocal 15)
    ∷ reciprocal 13
    ∷ neg (reciprocal 11)
    ∷ reciprocal 9
    ∷ neg (reciprocal 7)
    ∷ reciprocal 5
    ∷ neg (reciprocal 3)
    ∷ reciprocal 1
    ∷ []

-- 1/16! down to 1, likewise
abbrev pub cosine_table : List Float
cosine_table =
    reciprocal 16
    ∷ neg (reciprocal 14)
    ∷ reciprocal 12
    ∷ neg (reciprocal 10)
    ∷ reciprocal 8
    ∷ neg (reciprocal 6)
    ∷ reciprocal 4
    ∷ neg (reciprocal 2)
    ∷ reciprocal 0
    ∷ []

-- 1.0 divided by n
abbrev pub one_over : ℕ → Float
one_over n = # 1 ⊘ # n

-- 1/25, 1/23, .. 1/1, likewise
abbrev pub arctan_table : List Float
arctan_table =
    one_over 25
    ∷ neg (one_over 23)
    ∷ one_over 21
    ∷ neg (one_over 19)
    ∷ one_over 17
    ∷ neg (one_over 15)
    ∷ one_over 13
    ∷ neg (one_over 11)
    ∷ one_over 9
    ∷ neg (one_over 7)
    ∷ one_over 5
    ∷ neg (one_over 3)
    ∷ one_over 1
    ∷ []

-- from the left, what is there times y, plus the next coefficient
abbrev pub horner_from : Float → Float → List Float → Float
horner_from y s [] = s
horner_from y s (c ∷ cs) = horner_from y (s ⊗ y ⊕ c) cs

-- a table's first coefficient starts it
abbrev pub horner : Float → List Float → Float
horner y [] = # 0
horner y (c ∷ cs) = horner_from y c cs

unfoldable pub sine_of : Float → Float
sine_of x = horner (x ⊗ x) sine_table ⊗ x

unfoldable pub cosine_of : Float → Float
cosine_of x = horner (x ⊗ x) cosine_table

unfoldable pub arctan_small_of : Float → Float
arctan_small_of x = horner (x ⊗ x) arctan_table ⊗ x
