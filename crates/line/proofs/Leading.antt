-- Texts of which a later one takes the end of an earlier one away: the leading digits of a number, written four or eight bytes at a time. Assumes nothing.
use Rattle.std.proofs.Common.{◌≡◌, ℕ, suc, ◌+◌, ◌-◌, ◌*◌, ◌/◌, ◌%◌, ◌^◌, ◌<◌, ◌≤◌, List, [], ◌∷◌, ◌++◌, length, set, sym, refl, ap, ◌∙◌, append-nil, arith, length-append, set-set}
use lib.Seq.{sets, length-sets, set_comm}
use native.Mathlib.Decide.{dec_lt}
use Rattle.line.specs.Text.{decimal, Put, two, four, eight, pair_bytes, half_bytes, Half, Further, Begun}
use Rattle.line.proofs.Texts as T
use Rattle.line.proofs.Packed.{half-text}

-- ---- one text over the end of another
over-set : (ws l : List ℕ) (i j v : ℕ) → i < j → sets (set l i v) j ws ≡ set (sets l j ws) i v
over-set [] l i j v h = refl
over-set (w ∷ ws) l i j v h =
    ap (λ (m : List ℕ). sets m (suc j) ws) (set_comm l i j v w (λ e. omega arith)) ∙ over-set ws (set l j w) i (suc j) v (omega arith)

over-all : (ts ws l : List ℕ) (i : ℕ) → length ts ≤ length ws → sets (sets l i ts) i ws ≡ sets l i ws
over-all [] ws l i h = refl
over-all (t ∷ ts) [] l i h = absurd (omega arith)
over-all (t ∷ ts) (w ∷ ws) l i h =
    ap (λ (m : List ℕ). sets m (suc i) ws)
    (ap (λ (m : List ℕ). set m i w) (over-set ts l i (suc i) t (omega arith))
    ∙ set-set (sets l (suc i) ts) i t w ∙ sym (over-set ts l i (suc i) w (omega arith)))
    ∙ over-all ts ws (set l i w) (suc i) (omega arith)

pub over : (vs ts ws l : List ℕ) (at : ℕ) → length ts ≤ length ws → sets (sets l at (vs ++ ts)) (at + length vs) ws ≡ sets l at (vs ++ ws)
over vs ts ws l at h =
    ap (λ (m : List ℕ). sets m (at + length vs) ws) (T.sets-append vs ts l at)
    ∙ over-all ts ws (sets l at vs) (at + length vs) h
    ∙ sym (T.sets-append vs ws l at)

-- ---- leading digits: four bytes from the first digit on
pub record Lead (n v more : ℕ) : Type 0 where
  pub ts : List ℕ
  pub text : half_bytes v ≡ decimal n ++ ts
  pub few : length ts ≤ 3
  pub count : length (decimal n) ≡ 1 + more

lead-one : (n w : ℕ) → n < 10 → Half w (n / 100) (n % 100) → Lead n (w / 16777216) 0
lead-one n w l h =
    let d = T.decimal-one n l in
    let e : w / 16777216 % 256 ≡ 48 + n = omega (arith, h.four) in
    record { ts = w / 16777216 / 256 % 256 ∷ pair_bytes (w / 16777216 / 65536); text = rw (e, d); few = omega arith; count = rw d }

lead-two : (n w : ℕ) → 10 ≤ n → n < 100 → Half w (n / 100) (n % 100) → Lead n (w / 65536) 1
lead-two n w g l h =
    let d = sym (T.two_is n g l) in
    let e : w / 65536 % 256 ≡ 48 + n / 10 = omega (arith, h.three) in
    let f : w / 65536 / 256 % 256 ≡ 48 + n % 10 = omega (arith, h.four) in
    record { ts = pair_bytes (w / 65536 / 65536); text = rw (e, f, d); few = omega arith; count = rw d }

three-is : (n : ℕ) → 100 ≤ n → n < 1000 → decimal n ≡ (48 + n / 100) ∷ two (n % 100)
three-is n g l = sym (T.pair_end n g) ∙ ap (λ (t : List ℕ). t ++ two (n % 100)) (T.decimal-one (n / 100) (omega arith))

two_bytes : (w : ℕ) → w / 256 / 256 ≡ w / 65536
two_bytes w = omega arith

after-pair : (w : ℕ) → w / 256 / 65536 ≡ w / 16777216
after-pair w = omega arith

after-byte : (w : ℕ) → w / 65536 / 256 ≡ w / 16777216
after-byte w = omega arith

turned : (w : ℕ) → w / 256 / 65536 ≡ w / 65536 / 256
turned w = after-pair w ∙ sym (after-byte w)

lead-three : (n w : ℕ) → 100 ≤ n → n < 1000 → Half w (n / 100) (n % 100) → Lead n (w / 256) 2
lead-three n w g l h =
    let d = three-is n g l in
    let e : w / 256 % 256 ≡ 48 + n / 100 = omega (arith, h.two) in
    let f : w / 256 / 256 % 256 ≡ 48 + n % 100 / 10 = ap (λ (m : ℕ). m % 256) (two_bytes w) ∙ h.three in
    let k : w / 256 / 65536 % 256 ≡ 48 + n % 100 % 10 = ap (λ (m : ℕ). m % 256) (turned w) ∙ h.four in
    record { ts = w / 256 / 65536 / 256 % 256 ∷ []; text = rw (e, f, k, d); few = omega arith; count = rw d }

four_is : (n : ℕ) → 1000 ≤ n → n < 10000 → decimal n ≡ four n
four_is n g l = sym (T.pair_end n (omega arith)) ∙ ap (λ (t : List ℕ). t ++ two (n % 100)) (sym (T.two_is (n / 100) (omega arith) (omega arith)))

lead-four : (n w : ℕ) → 1000 ≤ n → n < 10000 → Half w (n / 100) (n % 100) → Lead n w 3
lead-four n w g l h =
    let d = four_is n g l in
    record { ts = []; text = rw d (half-text h); few = omega arith; count = rw d }

-- what was written begins with the text
pub begins : {k : ℕ} (j : ℕ) {l m : List ℕ} {at r q : ℕ} {us vs : List ℕ} (ts : List ℕ) → Put k l at us m r → us ≡ vs ++ ts → length ts ≤ j → length vs ≤ k
    → q ≡ at + length vs → Begun k j l at vs m q
begins j {l} {m} {at} {vs = vs} ts p t few most e =
    let is = p.wrote.list ∙ ap (sets l at) t in
    record {
      place = e;
      most = most;
      size = ap length is ∙ length-sets l at (vs ++ ts);
      on = λ ws w. rw (e, is) (over vs ts ws l at (omega arith));
    }

pub begun : {l m : List ℕ} {at n v more r : ℕ} → Put 4 l at (half_bytes v) m r → Lead n v more → more ≤ 3 → Begun 4 3 l at (decimal n) m (at + 1 + more)
begun p h k = begins 3 h.ts p h.text h.few (omega (arith, h.count)) (omega (arith, h.count))

pub lead : (n w more : ℕ) → n < 10000 → Half w (n / 100) (n % 100) → Further n more → Lead n (w / 2 ^ (24 - 8 * more)) more
lead n w more l h f = go (dec_lt n 10) (dec_lt n 100) (dec_lt n 1000)
  where
    go : Dec (n < 10) → Dec (n < 100) → Dec (n < 1000) → Lead n (w / 2 ^ (24 - 8 * more)) more
    go (yes a) b c = rw (f.one a) (lead-one n w a h)
    go (no a) (yes b) c = rw (f.two (omega arith) b) (lead-two n w (omega arith) b h)
    go (no a) (no b) (yes c) = rw (f.three (omega arith) c) (lead-three n w (omega arith) c h)
    go (no a) (no b) (no c) = rw (f.four (omega arith), by_one w) (lead-four n w (omega arith) l h)
      where
        by_one : (x : ℕ) → x / 1 ≡ x
        by_one x = omega arith

-- what follows takes away what is too much
pub after : {k j : ℕ} {l m : List ℕ} {at r : ℕ} {vs ws o : List ℕ} {q : ℕ} (i : ℕ) → Begun k j l at vs m r → Put i m r ws o q → j ≤ length ws
    → at + k + length ws ≤ length l → Put (k + i) l at (vs ++ ws) o q
after {k} {j} {l} {m} {at} {r} {vs} {ws} {o} {q} i a b h room =
    record {
      wrote = record {
        place = omega (arith, a.place, a.most, a.size, b.wrote.place, length-append vs ws);
        list = b.wrote.list ∙ a.on ws h;
      };
      most = omega (arith, a.place, a.most, b.most);
    }

-- ---- a digit less than are written: ten times the number
tenfold : (n : ℕ) → 1 ≤ n → decimal (n * 10) ≡ decimal n ++ (48 ∷ [])
tenfold n h =
    let a : n * 10 / 10 ≡ n = omega arith in
    let b : n * 10 % 10 ≡ 0 = omega arith in
    T.decimal-more (n * 10) (omega arith) ∙ rw (a, b)

one_less : (n : ℕ) {us : List ℕ} → us ≡ decimal n ++ (48 ∷ []) → length us ≡ length (decimal n) + 1
one_less n e = ap length e ∙ length-append (decimal n) (48 ∷ [])

eight_is : (n : ℕ) → 10000000 ≤ n → n < 100000000 → decimal n ≡ eight n
eight_is n g l = sym (T.four-end n (omega arith)) ∙ ap (λ (t : List ℕ). t ++ four (n % 10000)) (four_is (n / 10000) (omega arith) (omega arith))

pub all-four : {l m : List ℕ} {at n r : ℕ} → Put 4 l at (four n) m r → 1000 ≤ n → n < 10000 → at + 4 ≤ length l → Begun 4 3 l at (decimal n) m r
all-four {n = n} p g h room =
    let e = sym (four_is n g h) in
    begins 3 [] p (e ∙ sym (append-nil (decimal n))) (omega arith) (omega (arith, ap length e)) (omega (arith, p.wrote.place, ap length e))

pub three-of-four : {l m : List ℕ} {at n r : ℕ} → Put 4 l at (four (n * 10)) m r → 100 ≤ n → n < 1000 → Begun 4 3 l at (decimal n) m (at + 3)
three-of-four {n = n} p g h =
    let e = sym (four_is (n * 10) (omega arith) (omega arith)) ∙ tenfold n (omega arith) in
    begins 3 (48 ∷ []) p e (omega arith) (omega (arith, one_less n e)) (omega (arith, one_less n e))

pub seven-of-eight : {l m : List ℕ} {at n r : ℕ} → Put 8 l at (eight (n * 10)) m r → 1000000 ≤ n → n < 10000000 → Begun 8 1 l at (decimal n) m (at + 7)
seven-of-eight {n = n} p g h =
    let e = sym (eight_is (n * 10) (omega arith) (omega arith)) ∙ tenfold n (omega arith) in
    begins 1 (48 ∷ []) p e (omega arith) (omega (arith, one_less n e)) (omega (arith, one_less n e))

-- ---- how many digits follow the first
abbrev Reaches : ℕ → ℕ → ℕ → Type 0
Reaches n least r = (n < least → r ≡ 0) × (least ≤ n → r ≡ 1)

pub reach-most : (n least r : ℕ) → Reaches n least r → r ≤ 1
reach-most n least r h = go (dec_lt n least)
  where
    go : Dec (n < least) → r ≤ 1
    go (yes l) = omega (arith, h.0 l)
    go (no l) = omega (arith, h.1 (omega arith))

pub further-is : (n a b c : ℕ) → Reaches n 10 a → Reaches n 100 b → Reaches n 1000 c → Further n (a + b + c)
further-is n a b c ha hb hc =
    record {
      one = λ l. omega (arith, ha.0 l, hb.0 (omega arith), hc.0 (omega arith));
      two = λ g l. omega (arith, ha.1 g, hb.0 l, hc.0 (omega arith));
      three = λ g l. omega (arith, ha.1 (omega arith), hb.1 g, hc.0 l);
      four = λ g. omega (arith, ha.1 (omega arith), hb.1 (omega arith), hc.1 g);
      most = omega (arith, reach-most n 10 a ha, reach-most n 100 b hb, reach-most n 1000 c hc);
    }
