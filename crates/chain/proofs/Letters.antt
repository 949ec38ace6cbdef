-- A letter's number, as a test on an i64's bits finds it. Assumes nothing.
use mathlib.Core.Path.{◌≡◌, refl}
use mathlib.Core.Bool.{true, false}
use Prim.Native.Nat.{ℕ, ◌<◌}
use native.Mathlib.Omega.{arith}
use borrow.Author.Tests.{eq-eqb, ne_eqb}
use lib.IntN.{ℤ, pos, negsuc}
use lib.Signed.{mag}
use mir.Syntax.{w64}
use mir.Val.{of_z}
use Rattle.chain.specs.Numbers.{is_letter}

pub is-letter : (z : ℤ) (l : ℕ) → l < 256 → mag z < 9223372036854775808 → of_z w64 z ≡ l → is_letter z l ≡ true
is-letter (pos n) l s f e = eq-eqb n l e
is-letter (negsuc n) l s f e = absurd (omega arith)

pub no-letter : (z : ℤ) (l : ℕ) → (of_z w64 z ≡ l → ⊥) → is_letter z l ≡ false
no-letter (pos n) l e = ne_eqb n l e
no-letter (negsuc n) l e = refl
