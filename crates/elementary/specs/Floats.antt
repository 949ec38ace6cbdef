-- The operators of f64, each rounded to nearest, and decimals as the f64 nearest to them. Nothing is fused: a product is rounded before it is added.
use Rattle.std.specs.Prelude.{ℕ, false, Float, ℤ}
use Rattle.std.specs.Float.{binary64}
use Rattle.std.specs.Float.Ieee.{mul, add, sub, div, round, of_int}

infixl 70 ◌⊗◌
infixl 70 ◌⊘◌
infixl 65 ◌⊕◌
infixl 65 ◌⊖◌
abbrev pub ◌⊗◌ : Float → Float → Float
a ⊗ b = mul binary64 a b

abbrev pub ◌⊘◌ : Float → Float → Float
a ⊘ b = div binary64 a b

abbrev pub ◌⊕◌ : Float → Float → Float
a ⊕ b = add binary64 a b

abbrev pub ◌⊖◌ : Float → Float → Float
a ⊖ b = sub binary64 a b

-- the f64 nearest to n / d
abbrev pub near : ℕ → ℕ → Float
near n d = round binary64 false n d

-- the whole number n
abbrev pub # : ℕ → Float
# n = near n 1

-- the f64 nearest to a whole number that was handed in
abbrev pub whole : ℤ → Float
whole z = of_int binary64 z
