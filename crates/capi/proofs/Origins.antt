-- An origin by its numbers, for either Cassini call. Assumes nothing.
use mathlib.Core.Path.{◌≡◌}
use lib.IntN.{ℤ}
use Rattle.angle.specs.declared.OriginNumbers.{OriginNumbers}
use Rattle.capi.specs.Calls.{origin_from}

pub same-origin : {A : Type 0} (f : OriginNumbers → ℤ → ℤ → A) {o : OriginNumbers} {a a' b b' c c' d d' e e' x x' y y' : ℤ}
    → o ≡ origin_from a b c d e → a ≡ a' → b ≡ b' → c ≡ c' → d ≡ d' → e ≡ e' → x ≡ x' → y ≡ y'
    → f o x y ≡ f (origin_from a' b' c' d' e') x' y'
same-origin f w p q r s t u v = rw (w, p, q, r, s, t, u, v)
