-- The bytes of a name as bits. Assumes nothing.
use Rattle.std.proofs.Common.{◌≡◌, ℕ, zero, suc, ◌+◌, ◌-◌, ◌/◌, ◌%◌, ◌^◌, ◌<◌, ◌≤◌, Bool, true, false, eqb, sym, refl, arith, ne_eqb, le-leb}
use native.Mathlib.Decide.{ℕ_discrete}
use borrow.Author.Tests.{lt-leb}
use Rattle.refusal.specs.Order.{pick}
use Rattle.line.specs.Name.{is_name_byte}

pub below : (b : ℕ) → b < 45 → false ≡ is_name_byte b
below b h = let z : b ≡ 45 → ⊥ = λ q. omega arith in rw (ne_eqb b 45 z, lt-leb 48 b (omega arith), lt-leb 65 b (omega arith))

pub above : (b : ℕ) → 90 < b → false ≡ is_name_byte b
above b h = let z : b ≡ 45 → ⊥ = λ q. omega arith in rw (ne_eqb b 45 z, le-leb 48 b (omega arith), lt-leb b 57 (omega arith), le-leb 65 b (omega arith), lt-leb b 90 h)

-- two tests that say the same
abbrev same : Bool → Bool → Bool
same true b = b
same false true = false
same false false = true

same-is : (a b : Bool) → same a b ≡ true → a ≡ b
same-is true b e = sym e
same-is false true e = e
same-is false false e = refl

-- a test computed at every number below n
unfoldable each : ℕ → (ℕ → Bool) → Bool
each zero t = true
each (suc n) t = pick (t n) (each n t) false

each-is : (n : ℕ) (t : ℕ → Bool) → each n t ≡ true → (i : ℕ) → i < n → t i ≡ true
unfolding each
each-is zero t e i h = absurd (omega arith)
each-is (suc n) t e i h = go (t n) refl e (λ f l. each-is n t f i l) (ℕ_discrete i n)
  where
    go : (b : Bool) → t n ≡ b → pick b (each n t) false ≡ true → (each n t ≡ true → i < n → t i ≡ true) → Dec (i ≡ n) → t i ≡ true
    go true q f on (yes p) = rw p q
    go true q f on (no p) = on f (omega arith)
    go false q f on d = let w : ◌≡◌ {A = ℕ} 0 1 = cc in absurd (omega arith)

bit : ℕ → Bool
bit i = same (eqb (287984085681307646 / 2 ^ ((i + 45) % 64) % 2) 1) (is_name_byte (i + 45))

all-bits : each 46 bit ≡ true
unfolding each bit
all-bits = refl

pub by_bit : (b : ℕ) → 45 ≤ b → b ≤ 90 → eqb (287984085681307646 / 2 ^ (b % 64) % 2) 1 ≡ is_name_byte b
unfolding bit
by_bit b lo hi =
    let e : b - 45 + 45 ≡ b = omega arith in
    let q = same-is (eqb (287984085681307646 / 2 ^ ((b - 45 + 45) % 64) % 2) 1) (is_name_byte (b - 45 + 45)) (each-is 46 bit all-bits (b - 45) (omega arith)) in
    rw e at q
