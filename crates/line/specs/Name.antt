-- A point's name (the id of a line): 1 to 16 of A-Z, 0-9 and hyphen, held as two words.
use Rattle.std.specs.Prelude.{ℕ, zero, suc, ◌+◌, ◌*◌, ◌^◌, Bool, true, false, List, [], ◌∷◌, length, drop, ◌==◌, nat_le}
use Rattle.std.proofs.Math.Option.{Option, none, some}
use Rattle.refusal.specs.Order.{pick}
use Rattle.chain.specs.declared.Id.{Id}
use Rattle.line.specs.Bytes.{minus}
use Rattle.line.specs.Number.{is_digit}

abbrev pub is_capital : ℕ → Bool
is_capital b = pick (nat_le 65 b) (nat_le b 90) false

abbrev pub is_name_byte : ℕ → Bool
is_name_byte b = pick (b == minus) true (pick (is_digit b) true (is_capital b))

unfoldable pub all_name_bytes : List ℕ → Bool
all_name_bytes [] = true
all_name_bytes (b ∷ s) = pick (is_name_byte b) (all_name_bytes s) false

-- the first k bytes of s as one number, the first highest, zeros after the last
unfoldable pub word : ℕ → List ℕ → ℕ
word zero s = 0
word (suc k) [] = 0
word (suc k) (b ∷ s) = b * 256 ^ k + word k s

-- eight bytes to a word
abbrev pub packed : List ℕ → Id
packed s = record { high = word 8 s; low = word 8 (drop 8 s) }

unfoldable pub name_of : List ℕ → Option Id
name_of s = pick (nat_le 1 (length s)) (pick (nat_le (length s) 16) (pick (all_name_bytes s) (some (packed s)) none) none) none
