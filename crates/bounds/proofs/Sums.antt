-- Sums of intervals: of like signs the lower ends add too, of unlike signs the larger decides; where a sign is not told, by sizes alone. Assumes nothing.
use mathlib.Core.Path.{◌≡◌, refl, sym, ap, ◌∙◌, subst}
use Prim.Native.Nat.{ℕ, ◌+◌, ◌-◌, ◌*◌, ◌≤◌, ◌<◌}
use native.Mathlib.Nat.{le_trans, le_of_eq, le_of_lt, not-le_of_lt, mul_comm, mul_assoc, mul_left_comm, mul-le-mul_right, mul-mul-mul_comm, mul-pos, add-mul, mul-sub}
use native.Mathlib.Omega.{arith}
use mathlib.Core.Bool.{Bool, true, false, not, ◌&&◌, beq, cond}
use lib.Dec.{T, leb, ltb, leb→le, ltb→lt, nltb→le, nleb→lt}
use lib.Ieee.{Float, binary64, round, add}
use lib.Ieee.Scale.{finite}
use lib.Ieee.Positive.{num, den, den_pos, through}
use Rattle.bounds.proofs.Size.{Under, under-trans, sign, sign-round, round-size, add_is, sum-elim, sum_like, sum-unlike}
use Rattle.bounds.proofs.Among.{Side, untold, told, Sided, Ends, Among, is_finite}

-- ---- the ends' operations
-- |a| + |b|, |a| - |b| or 0, each rounded
unfoldable pub total : Float → Float → Float
unfolding round
total a b = round binary64 false (num a * den b + num b * den a) (den a * den b)

unfoldable pub gap : Float → Float → Float
unfolding round
gap a b = round binary64 false (num a * den b - num b * den a) (den a * den b)

unfoldable pub larger : Float → Float → Float
larger a b = cond (leb (num a * den b) (num b * den a)) b a

-- the larger of two fractions, rounded: told whether it is the second
unfoldable pub farther : Bool → ℕ → ℕ → ℕ → ℕ → Float
unfolding round
farther true a b c d = round binary64 false c d
farther false a b c d = round binary64 false a b

-- the larger of |a| - |b| and |c| - |d|
unfoldable pub widest : Float → Float → Float → Float → Float
unfolding farther
widest a b c d =
    let n = num a * den b - num b * den a in
    let m = den a * den b in
    let p = num c * den d - num d * den c in
    let q = den c * den d in
    farther (leb (n * q) (p * m)) n m p q

-- |b| < |a|
unfoldable pub exceeds : Float → Float → Bool
exceeds a b = ltb (num b * den a) (num a * den b)

-- a sum's of unlike signs: that of the one that is surely the larger
abbrev pub stronger : Bool → Bool → Bool → Bool → Side
stronger true b s t = told s
stronger false true s t = told t
stronger false false s t = untold

-- ---- intervals
-- a sum by sizes alone; of like signs; of unlike signs
unfoldable pub loose : Ends → Ends → Ends
unfolding total gap larger
loose I J = record { lo = larger (gap I.lo J.hi) (gap J.lo I.hi); hi = total I.hi J.hi; side = untold }

unfoldable pub alike : Bool → Ends → Ends → Ends
unfolding total
alike s I J = record { lo = total I.lo J.lo; hi = total I.hi J.hi; side = told s }

unfoldable pub apart : Bool → Bool → Ends → Ends → Ends
unfolding gap larger widest exceeds
apart s t I J =
    record {
      lo = larger (gap I.lo J.hi) (gap J.lo I.hi);
      hi = widest I.hi J.lo J.hi I.lo;
      side = stronger (exceeds I.lo J.hi) (exceeds J.lo I.hi) s t;
    }

unfoldable pub sum_by_signs : Bool → Bool → Bool → Ends → Ends → Ends
unfolding alike apart
sum_by_signs true s t I J = alike s I J
sum_by_signs false s t I J = apart s t I J

unfoldable pub summed : Side → Side → Ends → Ends → Ends
unfolding loose sum_by_signs
summed untold b I J = loose I J
summed (told s) untold I J = loose I J
summed (told s) (told t) I J = sum_by_signs (beq s t) s t I J

unfoldable pub add_e : Ends → Ends → Ends
unfolding summed
add_e I J = summed I.side J.side I J

-- ---- fractions: a / p ≤ b / q and c / r ≤ d / s give the same of the sums
sums : (a p b q c r d s : ℕ) → a * q ≤ b * p → c * s ≤ d * r → (a * r + c * p) * (q * s) ≤ (b * s + d * q) * (p * r)
sums a p b q c r d s h k =
    let u : a * r * (q * s) ≡ a * q * (r * s) = mul-mul-mul_comm a r q s in
    let v : c * p * (q * s) ≡ c * s * (p * q) = simp (mul_assoc, mul_comm, mul_left_comm) in
    let w : b * s * (p * r) ≡ b * p * (r * s) = simp (mul_assoc, mul_comm, mul_left_comm) in
    let z : d * q * (p * r) ≡ d * r * (p * q) = simp (mul_assoc, mul_comm, mul_left_comm) in
    let x : a * q * (r * s) ≤ b * p * (r * s) = mul-le-mul_right (r * s) h in
    let y : c * s * (p * q) ≤ d * r * (p * q) = mul-le-mul_right (p * q) k in
    omega (arith, add-mul (a * r) (c * p) (q * s), add-mul (b * s) (d * q) (p * r))

sub-mul : (a b c : ℕ) → (a - b) * c ≡ a * c - b * c
sub-mul a b c = mul_comm (a - b) c ∙ mul-sub c a b ∙ ap (λ (x : ℕ). x - c * b) (mul_comm c a) ∙ ap (λ (x : ℕ). a * c - x) (mul_comm c b)

-- a / p ≤ b / q and d / s ≤ c / r: a / p - c / r ≤ b / q - d / s
gaps : (a p b q c r d s : ℕ) → a * q ≤ b * p → d * r ≤ c * s → (a * r - c * p) * (q * s) ≤ (b * s - d * q) * (p * r)
gaps a p b q c r d s h k =
    let u : a * r * (q * s) ≡ a * q * (r * s) = mul-mul-mul_comm a r q s in
    let v : c * p * (q * s) ≡ c * s * (p * q) = simp (mul_assoc, mul_comm, mul_left_comm) in
    let w : b * s * (p * r) ≡ b * p * (r * s) = simp (mul_assoc, mul_comm, mul_left_comm) in
    let z : d * q * (p * r) ≡ d * r * (p * q) = simp (mul_assoc, mul_comm, mul_left_comm) in
    let x : a * q * (r * s) ≤ b * p * (r * s) = mul-le-mul_right (r * s) h in
    let y : d * r * (p * q) ≤ c * s * (p * q) = mul-le-mul_right (p * q) k in
    omega (arith, sub-mul (a * r) (c * p) (q * s), sub-mul (b * s) (d * q) (p * r))

-- ---- x + y
larger-under : (a b x : Float) → Under a x → Under b x → Under (larger a b) x
unfolding larger
larger-under a b x p q = go (leb (num a * den b) (num b * den a))
  where
    go : (t : Bool) → Under (cond t b a) x
    go true = q
    go false = p

-- a rounded fraction under the farther of two, whichever of them it is below
module _ (u : Bool) (v w a b c d : ℕ) (W : 0 < w) (B : 0 < b) (D : 0 < d) (f : T (finite (farther (leb (a * d) (c * b)) a b c d))) where
  under_first : v * b ≤ a * w → Under (round binary64 u v w) (farther (leb (a * d) (c * b)) a b c d)
  unfolding farther
  under_first h = go (leb (a * d) (c * b)) (leb→le (a * d) (c * b)) f
    where
      go : (t : Bool) → (T t → a * d ≤ c * b) → T (finite (farther t a b c d)) → Under (round binary64 u v w) (farther t a b c d)
      go true k f = round-size binary64 u false v w c d W D (through v a c w b d B h (k tt)) f
      go false k f = round-size binary64 u false v w a b W B h f

  under-second : v * d ≤ c * w → Under (round binary64 u v w) (farther (leb (a * d) (c * b)) a b c d)
  unfolding farther
  under-second h = go (leb (a * d) (c * b)) (λ (t : T (not (leb (a * d) (c * b)))). le_of_lt (nleb→lt (a * d) (c * b) t)) f
    where
      go : (t : Bool) → (T (not t) → c * b ≤ a * d) → T (finite (farther t a b c d)) → Under (round binary64 u v w) (farther t a b c d)
      go true k f = round-size binary64 u false v w c d W D h f
      go false k f = round-size binary64 u false v w a b W B (through v c a w d b D h (k tt)) f

module _ {x y : Float} {I J : Ends} (p : Among x I) (q : Among y J) where
  abbrev A : ℕ
  A = num x * den y

  abbrev B : ℕ
  B = num y * den x

  C : 0 < den x * den y
  C = mul-pos (den_pos x) (den_pos y)

  -- at most the sum of the sizes, and at least their difference
  sum-most : (u : Bool) (v : ℕ) → v ≤ num x * den y + num y * den x → T (finite (total I.hi J.hi)) → Under (round binary64 u v (den x * den y)) (total I.hi J.hi)
  unfolding total
  sum-most u v c f =
      round-size binary64 u false v (den x * den y) (num I.hi * den J.hi + num J.hi * den I.hi) (den I.hi * den J.hi) C (mul-pos (den_pos I.hi) (den_pos J.hi))
      (le_trans (mul-le-mul_right (den I.hi * den J.hi) c)
      (sums (num x) (den x) (num I.hi) (den I.hi) (num y) (den y) (num J.hi) (den J.hi) p.most.cross q.most.cross)) f

  sum-least : (u : Bool) (v : ℕ) → num x * den y - num y * den x ≤ v → num y * den x - num x * den y ≤ v → T (finite (round binary64 u v (den x * den y)))
      → Under (larger (gap I.lo J.hi) (gap J.lo I.hi)) (round binary64 u v (den x * den y))
  unfolding gap
  sum-least u v a b f =
      larger-under (gap I.lo J.hi) (gap J.lo I.hi) (round binary64 u v (den x * den y))
      (round-size binary64 false u (num I.lo * den J.hi - num J.hi * den I.lo) (den I.lo * den J.hi) v (den x * den y) (mul-pos (den_pos I.lo) (den_pos J.hi)) C
      (le_trans (gaps (num I.lo) (den I.lo) (num x) (den x) (num J.hi) (den J.hi) (num y) (den y) p.least.cross q.most.cross) (mul-le-mul_right (den I.lo * den J.hi) a)) f)
      (round-size binary64 false u (num J.lo * den I.hi - num I.hi * den J.lo) (den J.lo * den I.hi) v (den x * den y) (mul-pos (den_pos J.lo) (den_pos I.hi)) C
      (le_trans (le_of_eq (ap (λ (z : ℕ). (num J.lo * den I.hi - num I.hi * den J.lo) * z) (mul_comm (den x) (den y))))
      (le_trans (gaps (num J.lo) (den J.lo) (num y) (den y) (num I.hi) (den I.hi) (num x) (den x) q.least.cross p.most.cross) (mul-le-mul_right (den J.lo * den I.hi) b))) f)

  -- by sizes alone
  add-loose : T (finite (loose I J).hi) → Among (add binary64 x y) (loose I J)
  unfolding loose
  add-loose f =
      subst (λ (z : Float). Among z (loose I J)) (sym (add_is binary64 x y (is_finite p) (is_finite q)))
      (sum-elim (λ (z : Float). Among z (loose I J)) binary64 (sign x) (num x * den y) (sign y) (num y * den x) (den x * den y) each)
    where
      each : (u : Bool) (v : ℕ) → num x * den y - num y * den x ≤ v → num y * den x - num x * den y ≤ v → v ≤ num x * den y + num y * den x → Among (round binary64 u v (den x * den y)) (loose I J)
      each u v a b c = let most = sum-most u v c f in record { least = sum-least u v a b most.small; most = most; sided = tt }

  -- of like signs: the lower ends add too
  add-alike : beq (sign x) (sign y) ≡ true → T (finite (alike (sign x) I J).hi) → Among (add binary64 x y) (alike (sign x) I J)
  unfolding alike total
  add-alike e f =
      let v = num x * den y + num y * den x in
      let most = sum-most (sign x) v (le_of_eq refl) f in
      subst (λ (z : Float). Among z (alike (sign x) I J)) (sym (add_is binary64 x y (is_finite p) (is_finite q) ∙ sum_like binary64 (sign x) (num x * den y) (sign y) (num y * den x) (den x * den y) e))
      (record {
        least =
            round-size binary64 false (sign x) (num I.lo * den J.lo + num J.lo * den I.lo) (den I.lo * den J.lo) v (den x * den y) (mul-pos (den_pos I.lo) (den_pos J.lo)) C
            (sums (num I.lo) (den I.lo) (num x) (den x) (num J.lo) (den J.lo) (num y) (den y) p.least.cross q.least.cross) most.small;
        most = most;
        sided = sign-round binary64 (sign x) v (den x * den y);
      })

  -- where one interval is above the other, so are the values
  above : T (exceeds I.lo J.hi) → num x * den y ≤ num y * den x → ⊥
  unfolding exceeds
  above t h =
      let u : Under x y = record { small = is_finite p; large = is_finite q; cross = h } in
      not-le_of_lt (ltb→lt (num J.hi * den I.lo) (num I.lo * den J.hi) t) (under-trans p.least (under-trans u q.most)).cross

  below : T (exceeds J.lo I.hi) → num y * den x ≤ num x * den y → ⊥
  unfolding exceeds
  below t h =
      let u : Under y x = record { small = is_finite q; large = is_finite p; cross = h } in
      not-le_of_lt (ltb→lt (num I.hi * den J.lo) (num J.lo * den I.hi) t) (under-trans q.least (under-trans u p.most)).cross

  -- of unlike signs
  add_apart : beq (sign x) (sign y) ≡ false → T (finite (apart (sign x) (sign y) I J).hi) → Among (add binary64 x y) (apart (sign x) (sign y) I J)
  unfolding apart widest
  add_apart e f =
      subst (λ (z : Float). Among z (apart (sign x) (sign y) I J)) (sym (add_is binary64 x y (is_finite p) (is_finite q)))
      (sum-unlike (λ (z : Float). Among z (apart (sign x) (sign y) I J)) binary64 (sign x) A (sign y) B (den x * den y) e second first)
    where
      -- |x| < |y|
      second : A < B → Among (round binary64 (sign y) (B - A) (den x * den y)) (apart (sign x) (sign y) I J)
      second l =
          let most : Under (round binary64 (sign y) (B - A) (den x * den y)) (widest I.hi J.lo J.hi I.lo) =
          under-second (sign y) (B - A) (den x * den y) (num I.hi * den J.lo - num J.lo * den I.hi) (den I.hi * den J.lo) (num J.hi * den I.lo - num I.lo * den J.hi) (den J.hi * den I.lo) C
          (mul-pos (den_pos I.hi) (den_pos J.lo)) (mul-pos (den_pos J.hi) (den_pos I.lo)) f
          (le_trans (gaps (num y) (den y) (num J.hi) (den J.hi) (num x) (den x) (num I.lo) (den I.lo) q.most.cross p.least.cross)
          (le_of_eq (ap (λ (z : ℕ). (num J.hi * den I.lo - num I.lo * den J.hi) * z) (mul_comm (den y) (den x))))) in
          record {
            least = sum-least (sign y) (B - A) (omega arith) (omega arith) most.small;
            most = most;
            sided = side (exceeds I.lo J.hi) (exceeds J.lo I.hi) above;
          }
        where
          side : (a b : Bool) → (T a → A ≤ B → ⊥) → Sided (round binary64 (sign y) (B - A) (den x * den y)) (stronger a b (sign x) (sign y))
          side true b h = absurd (h tt (le_of_lt l))
          side false true h = sign-round binary64 (sign y) (B - A) (den x * den y)
          side false false h = tt

      -- |y| ≤ |x|
      first : B ≤ A → Among (round binary64 (sign x && ltb B A) (A - B) (den x * den y)) (apart (sign x) (sign y) I J)
      first l =
          let most : Under (round binary64 (sign x && ltb B A) (A - B) (den x * den y)) (widest I.hi J.lo J.hi I.lo) =
          under_first (sign x && ltb B A) (A - B) (den x * den y) (num I.hi * den J.lo - num J.lo * den I.hi) (den I.hi * den J.lo) (num J.hi * den I.lo - num I.lo * den J.hi) (den J.hi * den I.lo) C
          (mul-pos (den_pos I.hi) (den_pos J.lo)) (mul-pos (den_pos J.hi) (den_pos I.lo)) f
          (gaps (num x) (den x) (num I.hi) (den I.hi) (num y) (den y) (num J.lo) (den J.lo) p.most.cross q.least.cross) in
          record {
            least = sum-least (sign x && ltb B A) (A - B) (omega arith) (omega arith) most.small;
            most = most;
            sided = side (exceeds I.lo J.hi) (exceeds J.lo I.hi) above below;
          }
        where
          whole : (s : Bool) → (s && true) ≡ s
          whole true = refl
          whole false = refl

          kept : (t : Bool) → (T (not t) → A ≤ B) → (A ≤ B → ⊥) → (sign x && t) ≡ sign x
          kept true n h = whole (sign x)
          kept false n h = absurd (h (n tt))

          side : (a b : Bool) → (T a → A ≤ B → ⊥) → (T b → B ≤ A → ⊥) → Sided (round binary64 (sign x && ltb B A) (A - B) (den x * den y)) (stronger a b (sign x) (sign y))
          side true b h k = sign-round binary64 (sign x && ltb B A) (A - B) (den x * den y) ∙ kept (ltb B A) (nltb→le B A) (h tt)
          side false true h k = absurd (k tt l)
          side false false h k = tt

  by-signs : (t : Bool) → beq (sign x) (sign y) ≡ t → T (finite (sum_by_signs t (sign x) (sign y) I J).hi) → Among (add binary64 x y) (sum_by_signs t (sign x) (sign y) I J)
  unfolding sum_by_signs
  by-signs true e f = add-alike e f
  by-signs false e f = add_apart e f

  by-sides : (a b : Side) → Sided x a → Sided y b → T (finite (summed a b I J).hi) → Among (add binary64 x y) (summed a b I J)
  unfolding summed
  by-sides untold b h k f = add-loose f
  by-sides (told s) untold h k f = add-loose f
  by-sides (told s) (told t) h k f =
      subst (λ (u : Bool). T (finite (sum_by_signs (beq u t) u t I J).hi) → Among (add binary64 x y) (sum_by_signs (beq u t) u t I J)) h
      (subst (λ (u : Bool). T (finite (sum_by_signs (beq (sign x) u) (sign x) u I J).hi) → Among (add binary64 x y) (sum_by_signs (beq (sign x) u) (sign x) u I J)) k (by-signs (beq (sign x) (sign y)) refl)) f

pub add-among : {x y : Float} {I J : Ends} → Among x I → Among y J → T (finite (add_e I J).hi) → Among (add binary64 x y) (add_e I J)
unfolding add_e
add-among {x} {y} {I} {J} p q f = by-sides p q I.side J.side p.sided q.sided f
