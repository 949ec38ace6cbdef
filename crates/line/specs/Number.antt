-- A number in plain form: decimal, no plus, no spare zeros, no -0, of any length.
use Rattle.std.specs.Prelude.{ℕ, zero, suc, ◌+◌, ◌-◌, ◌*◌, Bool, false, List, [], ◌∷◌, ℤ, pos, negsuc, ◌==◌, nat_le}
use Rattle.std.proofs.Math.Option.{Option, none, some}
use Rattle.refusal.specs.Order.{pick}
use Rattle.line.specs.Bytes.{minus, zero_byte, nine_byte}

abbrev pub is_digit : ℕ → Bool
is_digit b = pick (nat_le zero_byte b) (nat_le b nine_byte) false

-- what the digits s say, after digits that say a; nothing where a byte is no digit
unfoldable pub digits : ℕ → List ℕ → Option ℕ
digits a [] = some a
digits a (b ∷ s) = pick (is_digit b) (digits (a * 10 + (b - zero_byte)) s) none

-- digits: at least one, and no spare zero in front
unfoldable pub plain : List ℕ → Option ℕ
plain [] = none
plain (b ∷ []) = digits 0 (b ∷ [])
plain (b ∷ c ∷ s) = pick (b == zero_byte) none (digits 0 (b ∷ c ∷ s))

abbrev pub positive : Option ℕ → Option ℤ
positive none = none
positive (some n) = some (pos n)

-- after a minus: 0 has none
abbrev pub negative : Option ℕ → Option ℤ
negative none = none
negative (some zero) = none
negative (some (suc n)) = some (negsuc n)

-- what a field says as a number
unfoldable pub number_of : List ℕ → Option ℤ
number_of [] = none
number_of (b ∷ s) = pick (b == minus) (negative (plain s)) (positive (plain (b ∷ s)))
