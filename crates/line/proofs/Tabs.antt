-- A line has one field more than tabs. Assumes nothing.
use Rattle.std.proofs.Common.{◌≡◌, ℕ, ◌+◌, ◌<◌, ◌≤◌, List, length, get_or, ap, arith}
use Rattle.line.specs.Fields.{fields}
use Rattle.line.specs.Reading.{from}
use Rattle.line.proofs.Walk as W

-- the tabs of the first i bytes are counted
pub record Counting (s : List ℕ) (count i : ℕ) : Type 0 where
  pub counted : count + length (from s i) ≡ length (fields s)
  pub inside : i ≤ length s
  pub few : count ≤ i

pub counting : (s : List ℕ) → Counting s 0 0
counting s = record { counted = omega (arith, ap length (W.from_start s)); inside = omega arith; few = omega arith }

module _ {s : List ℕ} {count i : ℕ} (k : Counting s count i) where
  pub counting-tab : i < length s → get_or s i 0 ≡ 9 → Counting s (count + 1) (i + 1)
  counting-tab h e = record { counted = omega (arith, k.counted, ap length (W.from-tab s i h e)); inside = omega arith; few = omega (arith, k.few) }

  -- a byte that is no tab goes to the field which begins or goes on after it
  pub counting-byte : i < length s → (get_or s i 0 ≡ 9 → ⊥) → Counting s count (i + 1)
  counting-byte h e =
      let x = W.field_at s (i + 1) (omega arith) in
      let n : length (from s i) ≡ length (from s (i + 1)) = rw (W.from_byte s i h e, x.is) in
      record { counted = omega (arith, k.counted, n); inside = omega arith; few = omega (arith, k.few) }

  pub tabs-counted : length s ≤ i → count + 1 ≡ length (fields s)
  tabs-counted h =
      let e : i ≡ length s = omega (arith, k.inside) in
      omega (arith, k.counted, ap length (W.from_end s i e), ap length (W.from_past s (i + 1) (omega arith)))
