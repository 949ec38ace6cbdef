-- Texts into a slice, one after the other, and a number's digits as the code takes them apart.
use Rattle.std.proofs.Common.{◌≡◌, ℕ, zero, suc, ◌+◌, ◌-◌, ◌*◌, ◌/◌, ◌%◌, ◌^◌, ◌<◌, ◌≤◌, true, false, T, List, [], ◌∷◌, ◌++◌, length, set, ℤ, pos, negsuc, ◌+ℤ◌, ◌-ℤ◌, neg_ℤ, nat_abs, sym, refl, ap, ◌∙◌, append_assoc, append-nil, add-zero, add-one, arith, length-append, to_z-of_z, w64, Fits, SFits, to_z, of_z, ltb-true, le-ltb, lt-ltb, eq-eqb, ne_eqb}
use lib.IntN.{+ℤ_idl}
use lib.Signed.{mag, lt_z, non_neg}
use lib.Seq.{sets, length-sets, set_out}
use native.Mathlib.Decide.{dec_lt, dec_le}
use Rattle.chain.specs.declared.Id.{Id}
use Rattle.chain.specs.declared.Point.{Point}
use Rattle.line.specs.Text.{last_digits, decimal, integer, highest, letters, name_text, line_text, point_text, projected_text, refusal_text, Wrote, Put, two, four, eight, sign_of}

-- ---- stores one after the other
pub sets-append : (vs ws l : List ℕ) (i : ℕ) → sets l i (vs ++ ws) ≡ sets (sets l i vs) (i + length vs) ws
sets-append [] ws l i = rw add-zero
sets-append (v ∷ vs) ws l i =
    sets-append vs ws (set l i v) (suc i)
    ∙ let e : suc i + length vs ≡ i + suc (length vs) = omega arith in rw e

sets-out : (vs l : List ℕ) (i : ℕ) → length l ≤ i → sets l i vs ≡ l
sets-out [] l i h = refl
sets-out (v ∷ vs) l i h =
    ap (λ (m : List ℕ). sets m (suc i) vs) (set_out l i v h) ∙ sets-out vs l (suc i) (omega arith)

-- nothing gets longer or shorter
pub same_size : {l : List ℕ} {at : ℕ} {vs m : List ℕ} {r : ℕ} → Wrote l at vs m r → length m ≡ length l
same_size {l} {at} {vs} w = ap length w.list ∙ length-sets l at vs

pub «then» : {l : List ℕ} {at : ℕ} {vs m : List ℕ} {r : ℕ} {ws k : List ℕ} {q : ℕ} → Wrote l at vs m r → Wrote m r ws k q → Wrote l at (vs ++ ws) k q
«then» {l} {at} {vs} {m} {r} {ws} {k} {q} a b =
    record { place = omega (arith, a.place, b.place, same_size a, length-append vs ws); list = b.list ∙ go (dec_le (at + length vs) (length l)) }
  where
    go : Dec (at + length vs ≤ length l) → sets m r ws ≡ sets l at (vs ++ ws)
    go (yes h) =
        let e : r ≡ at + length vs = omega (arith, a.place) in
        rw (e, a.list) (sym (sets-append vs ws l at))
    go (no h) =
        sets-out ws m r (omega (arith, a.place, same_size a)) ∙ a.list
        ∙ sym (sets-append vs ws l at ∙ sets-out ws (sets l at vs) (at + length vs) (omega (arith, length-sets l at vs)))

-- nothing written
pub nothing : (l : List ℕ) (at : ℕ) → Wrote l at [] l at
nothing l at = record { place = omega arith; list = refl }

-- the same text by another name
pub as-text : {l : List ℕ} {at : ℕ} {vs ws m : List ℕ} {r : ℕ} → vs ≡ ws → Wrote l at vs m r → Wrote l at ws m r
as-text e w = rw e at w

pub says : {l : List ℕ} {at : ℕ} {vs ws m : List ℕ} {r : ℕ} → Wrote l at vs m r → vs ≡ ws → Wrote l at ws m r
says w e = rw e at w

-- ---- writers that were shown their room
-- two of them are one
pub both : {j k : ℕ} {l : List ℕ} {at : ℕ} {vs m : List ℕ} {r : ℕ} {ws o : List ℕ} {q : ℕ} (i : ℕ) {ts : List ℕ} → Put j l at vs m r → Put k m r ws o q → j + k ≤ i → vs ++ ws ≡ ts → Put i l at ts o q
both i a b h e = record { wrote = rw e at («then» a.wrote b.wrote); most = omega (arith, a.most, b.most) }

pub named : {k : ℕ} {l : List ℕ} {at : ℕ} {vs m : List ℕ} {r : ℕ} (i : ℕ) {ws : List ℕ} → Put k l at vs m r → k ≤ i → vs ≡ ws → Put i l at ws m r
named i a h e = record { wrote = rw e at a.wrote; most = omega (arith, a.most) }

pub unmoved : (l : List ℕ) (at : ℕ) {vs : List ℕ} → vs ≡ [] → Put 1 l at vs l at
unmoved l at e = record { wrote = rw e (nothing l at); most = omega arith }

-- two stores side by side
pub beside : (l : List ℕ) (at a b : ℕ) → at + 2 ≤ length l → Put 2 l at (a ∷ b ∷ []) (set (set l at a) (at + 1) b) (at + 2)
beside l at a b h = record { wrote = record { place = omega arith; list = rw add-one }; most = omega arith }

pub packed : (l : List ℕ) (at v : ℕ) → v < 100 → at + 2 ≤ length l → Put 2 l at (two v) (set (set l at ((v * 256 + 12336 - v / 10 * 2559) % 256)) (at + 1) ((v * 256 + 12336 - v / 10 * 2559) / 256)) (at + 2)
packed l at v h k =
    let a : (v * 256 + 12336 - v / 10 * 2559) % 256 ≡ 48 + v / 10 = omega arith in
    let b : (v * 256 + 12336 - v / 10 * 2559) / 256 ≡ 48 + v % 10 = omega arith in
    rw (a, b) (beside l at (48 + v / 10) (48 + v % 10) k)

pub after : {j k : ℕ} {l : List ℕ} {at : ℕ} {vs m : List ℕ} {r : ℕ} {ws o : List ℕ} {q : ℕ} → Put j l at vs m r → Put k m r ws o q → Put (j + k) l at (vs ++ ws) o q
after {j} {k} a b = both (j + k) a b (omega arith) refl

-- ---- digits
enough : (f g n : ℕ) → n < f → n < g → last_digits f n ≡ last_digits g n
unfolding last_digits
enough zero g n h k = absurd (omega arith)
enough (suc f) zero n h k = absurd (omega arith)
enough (suc f) (suc g) n h k = go (dec_lt n 10) (λ w v. enough f g (n / 10) w v)
  where
    go : Dec (n < 10) → (n / 10 < f → n / 10 < g → last_digits f (n / 10) ≡ last_digits g (n / 10)) → last_digits (suc f) n ≡ last_digits (suc g) n
    go (yes l) on = rw (lt-ltb n 10 l)
    go (no l) on = rw (le-ltb n 10 (omega arith), on (omega arith) (omega arith))

pub decimal-one : (n : ℕ) → n < 10 → decimal n ≡ (48 + n) ∷ []
unfolding decimal last_digits
decimal-one n h = rw (lt-ltb n 10 h)

pub decimal-more : (n : ℕ) → 10 ≤ n → decimal n ≡ decimal (n / 10) ++ ((48 + n % 10) ∷ [])
unfolding decimal last_digits
decimal-more n h = rw (le-ltb n 10 h, enough n (suc (n / 10)) (n / 10) (omega arith) (omega arith))

pub digit-on : (y x d : ℕ) (rest : List ℕ) → y ≡ x / 10 → d ≡ x % 10 → 10 ≤ x → decimal y ++ ((48 + d) ∷ rest) ≡ decimal x ++ rest
digit-on y x d rest e f h =
    rw (e, f) (sym (append_assoc (decimal (x / 10)) ((48 + x % 10) ∷ []) rest) ∙ ap (λ (l : List ℕ). l ++ rest) (sym (decimal-more x h)))

-- ---- two digits at once are one digit twice
pub pair-on : (y x v : ℕ) (rest : List ℕ) → y ≡ x / 100 → v ≡ x % 100 → 100 ≤ x → decimal y ++ (two v ++ rest) ≡ decimal x ++ rest
pair-on y x v rest e f h =
    digit-on y (x / 10) (v / 10) ((48 + v % 10) ∷ rest) (omega arith) (omega arith) (omega arith)
    ∙ digit-on (x / 10) x (v % 10) rest (omega arith) (omega arith) (omega arith)

pub four-on : (y x v : ℕ) (rest : List ℕ) → y ≡ x / 10000 → v ≡ x % 10000 → 10000 ≤ x → decimal y ++ (four v ++ rest) ≡ decimal x ++ rest
four-on y x v rest e f h =
    pair-on y (x / 100) (v / 100) (two (v % 100) ++ rest) (omega arith) (omega arith) (omega arith)
    ∙ pair-on (x / 100) x (v % 100) rest (omega arith) (omega arith) (omega arith)

pub eight-on : (y x v : ℕ) (rest : List ℕ) → y ≡ x / 100000000 → v ≡ x % 100000000 → 100000000 ≤ x → decimal y ++ (eight v ++ rest) ≡ decimal x ++ rest
eight-on y x v rest e f h =
    four-on y (x / 10000) (v / 10000) (four (v % 10000) ++ rest) (omega arith) (omega arith) (omega arith)
    ∙ four-on (x / 10000) x (v % 10000) rest (omega arith) (omega arith) (omega arith)

pub two_is : (n : ℕ) → 10 ≤ n → n < 100 → two n ≡ decimal n
two_is n h l =
    ap (λ (t : List ℕ). t ++ ((48 + n % 10) ∷ [])) (sym (decimal-one (n / 10) (omega arith)))
    ∙ sym (decimal-more n h)

pub pair_end : (n : ℕ) → 100 ≤ n → decimal (n / 100) ++ two (n % 100) ≡ decimal n
pair_end n h = pair-on (n / 100) n (n % 100) [] refl refl h ∙ append-nil (decimal n)

pub four-end : (n : ℕ) → 10000 ≤ n → decimal (n / 10000) ++ four (n % 10000) ≡ decimal n
four-end n h = four-on (n / 10000) n (n % 10000) [] refl refl h ∙ append-nil (decimal n)

pub eight-end : (n : ℕ) → 100000000 ≤ n → decimal (n / 100000000) ++ eight (n % 100000000) ≡ decimal n
eight-end n h = eight-on (n / 100000000) n (n % 100000000) [] refl refl h ∙ append-nil (decimal n)

-- ---- signs
pub integer-below : (z : ℤ) → lt_z z (pos 0) ≡ true → integer z ≡ 45 ∷ decimal (nat_abs z)
unfolding integer
integer-below (pos n) e = absurd (omega (arith, ltb-true n 0 e))
integer-below (negsuc n) e = refl

pub integer-above : (z : ℤ) → lt_z z (pos 0) ≡ false → integer z ≡ decimal (nat_abs z)
unfolding integer
integer-above (pos n) e = refl
integer-above (negsuc n) e = let w : ◌≡◌ {A = ℕ} 0 1 = cc in absurd (omega arith)

pub sign_below : (z : ℤ) → lt_z z (pos 0) ≡ true → sign_of z ≡ 45 ∷ []
sign_below (pos n) e = absurd (omega (arith, ltb-true n 0 e))
sign_below (negsuc n) e = refl

pub sign_above : (z : ℤ) → lt_z z (pos 0) ≡ false → sign_of z ≡ []
sign_above (pos n) e = refl
sign_above (negsuc n) e = let w : ◌≡◌ {A = ℕ} 0 1 = cc in absurd (omega arith)

pub sign-then-digits : (z : ℤ) (n a : ℕ) → n ≡ nat_abs z → sign_of z ++ (decimal n ++ (a ∷ [])) ≡ integer z ++ (a ∷ [])
unfolding integer
sign-then-digits (pos m) n a e = rw e
sign-then-digits (negsuc m) n a e = rw e

pub whole_below : (z : ℤ) (n a : ℕ) → n ≡ nat_abs z → lt_z z (pos 0) ≡ true → (45 ∷ []) ++ (decimal n ++ (a ∷ [])) ≡ integer z ++ (a ∷ [])
whole_below z n a e l = rw (integer-below z l, e)

pub whole_above : (z : ℤ) (n a : ℕ) → n ≡ nat_abs z → lt_z z (pos 0) ≡ false → decimal n ++ (a ∷ []) ≡ integer z ++ (a ∷ [])
whole_above z n a e l = rw (integer-above z l, e)

-- a number below 0 has the size n + 1: the code goes through -n, which always fits
module _ (z : ℤ) (s : SFits w64 z) (e : lt_z (to_z w64 (of_z w64 z)) (pos 0) ≡ true) where
  abbrev less : ℕ
  less = nat_abs z - 1

  is_below : lt_z z (pos 0) ≡ true
  is_below = rw (to_z-of_z s) at e

  next-is : to_z w64 (of_z w64 z) +ℤ pos 1 ≡ neg_ℤ (pos less)
  next-is = rw (to_z-of_z s) (go z is_below)
    where
      go : (y : ℤ) → lt_z y (pos 0) ≡ true → y +ℤ pos 1 ≡ neg_ℤ (pos (nat_abs y - 1))
      go (pos n) l = absurd (omega (arith, ltb-true n 0 l))
      go (negsuc zero) l = refl
      go (negsuc (suc n)) l =
          let a : suc (suc n) - 1 ≡ suc n = omega arith in
          let b : suc (suc n) - 2 ≡ n = omega arith in
          rw (lt-ltb 1 (suc (suc n)) (omega arith), a, b)

  size_is : less + 1 ≡ nat_abs z
  size_is = go z is_below
    where
      go : (y : ℤ) → lt_z y (pos 0) ≡ true → nat_abs y - 1 + 1 ≡ nat_abs y
      go (pos n) l = absurd (omega (arith, ltb-true n 0 l))
      go (negsuc n) l = omega arith

  less-fits : less < 2 ^ 63
  less-fits = go z is_below s
    where
      go : (y : ℤ) → lt_z y (pos 0) ≡ true → SFits w64 y → nat_abs y - 1 < 2 ^ 63
      go (pos n) l f = absurd (omega (arith, ltb-true n 0 l))
      go (negsuc n) l f = omega (arith, f.sfits)

  mag-neg : (n : ℕ) → mag (neg_ℤ (pos n)) ≤ n
  mag-neg zero = omega arith
  mag-neg (suc n) = omega arith

  neg-neg : (n : ℕ) → neg_ℤ (neg_ℤ (pos n)) ≡ pos n
  neg-neg zero = refl
  neg-neg (suc n) = refl

  pub next_fits : SFits w64 (to_z w64 (of_z w64 z) +ℤ pos 1)
  next_fits = rw next-is (record { sfits = omega (arith, mag-neg less, less-fits) })

  abbrev turned : ℤ
  turned = pos 0 -ℤ to_z w64 (of_z w64 (to_z w64 (of_z w64 z) +ℤ pos 1))

  turned-is : turned ≡ pos less
  turned-is = ap (λ (y : ℤ). pos 0 -ℤ y) (to_z-of_z next_fits ∙ next-is) ∙ +ℤ_idl (neg_ℤ (neg_ℤ (pos less))) ∙ neg-neg less

  pub turned-fits : SFits w64 turned
  turned-fits = rw turned-is (record { sfits = omega (arith, less-fits) })

  read_is : to_z w64 (of_z w64 turned) ≡ pos less
  read_is = to_z-of_z turned-fits ∙ turned-is

  pub turned-casts : T (non_neg (to_z w64 (of_z w64 turned))) × Fits w64 (nat_abs (to_z w64 (of_z w64 turned)))
  turned-casts = rw read_is (tt, record { fits = omega (arith, less-fits) })

  pub size_fits : Fits w64 (nat_abs (to_z w64 (of_z w64 turned)) + 1)
  size_fits = rw read_is (record { fits = omega (arith, less-fits) })

  pub size_below : nat_abs (to_z w64 (of_z w64 turned)) + 1 ≡ nat_abs z
  size_below = rw read_is size_is

pub above-casts : (z : ℤ) → SFits w64 z → lt_z (to_z w64 (of_z w64 z)) (pos 0) ≡ false → T (non_neg (to_z w64 (of_z w64 z))) × Fits w64 (nat_abs (to_z w64 (of_z w64 z)))
above-casts z s e = rw (to_z-of_z s) (go z s (rw (to_z-of_z s) at e))
  where
    go : (y : ℤ) → SFits w64 y → lt_z y (pos 0) ≡ false → T (non_neg y) × Fits w64 (nat_abs y)
    go (pos n) f l = (tt, record { fits = omega (arith, f.sfits) })
    go (negsuc n) f l = let w : ◌≡◌ {A = ℕ} 0 1 = cc in absurd (omega arith)

-- ---- names
pub letters-none : (k w : ℕ) → k ≡ 0 → letters k w ≡ []
unfolding letters
letters-none zero w e = refl
letters-none (suc k) w e = absurd (omega arith)

pub letters-end : (k w : ℕ) → w / highest ≡ 0 → letters k w ≡ []
unfolding letters
letters-end zero w e = refl
letters-end (suc k) w e = rw (eq-eqb (w / highest) 0 e)

pub letters-on : (k w : ℕ) → 0 < k → (w / highest ≡ 0 → ⊥) → letters k w ≡ w / highest ∷ letters (k - 1) (w % highest * 256)
unfolding letters
letters-on zero w h e = absurd (omega arith)
letters-on (suc k) w h e =
    let q : suc k - 1 ≡ k = omega arith in
    rw (ne_eqb (w / highest) 0 e, q)

pub name-is : (id : Id) (a : ℕ) → letters 8 id.high ++ (letters 8 id.low ++ (a ∷ [])) ≡ name_text id ++ (a ∷ [])
unfolding name_text
name-is id a = sym (append_assoc (letters 8 id.high) (letters 8 id.low) (a ∷ []))

-- ---- lines
pub refusal_is : (line number place : ℕ)
    → (82 ∷ 9 ∷ []) ++ (decimal line ++ ((9 ∷ []) ++ (decimal number ++ ((9 ∷ []) ++ (decimal place ++ (10 ∷ [])))))) ≡ refusal_text line number place
unfolding refusal_text line_text
refusal_is line number place = refl

-- a text, a tab, and what follows
tabbed : (a r : List ℕ) → (a ++ (9 ∷ [])) ++ r ≡ a ++ (9 ∷ r)
tabbed a r = append_assoc a (9 ∷ []) r

pub projected-is : (id : Id) (e n : ℤ) → (67 ∷ 9 ∷ []) ++ ((name_text id ++ (9 ∷ [])) ++ ((integer e ++ (9 ∷ [])) ++ (integer n ++ (10 ∷ [])))) ≡ projected_text id e n
unfolding projected_text line_text
projected-is id e n = simp tabbed

pub point-is : (p : Point)
    → (80 ∷ 9 ∷ [])
    ++ ((name_text p.label.id ++ (9 ∷ []))
    ++ ((integer p.label.issue ++ (9 ∷ []))
    ++ ((integer p.label.order ++ (9 ∷ []))
    ++ ((integer p.realization.datum ++ (9 ∷ []))
    ++ ((integer p.realization.epoch ++ (9 ∷ []))
    ++ ((integer p.position.x ++ (9 ∷ []))
    ++ ((integer p.position.y ++ (9 ∷ []))
    ++ (integer p.position.z ++ (10 ∷ [])))))))))
    ≡ point_text p
unfolding point_text line_text
point-is p = simp tabbed

pub refusal-put : (line number place : ℕ)
    → (82 ∷ 9 ∷ []) ++ (decimal line ++ ((9 ∷ []) ++ ((decimal number ++ (9 ∷ [])) ++ (decimal place ++ (10 ∷ []))))) ≡ refusal_text line number place
refusal-put line number place = rw (append_assoc (decimal number) (9 ∷ []) _) (refusal_is line number place)
