-- One step, there and back, over its three affine fractions alone: a step's inverse, started m units off from where the step forward ended, ends at most
-- m + 1 units off, and so does the step forward after its inverse; where no coordinate enters, nothing is added. The rounding is symmetric round zero, so that
-- a turn of the inverse is a move by the opposite parts, and one law serves both ways. Assumes nothing.
use mathlib.Core.Path.{◌≡◌, refl, sym, ◌∙◌, ap, subst}
use Prim.Native.Nat.{ℕ, ◌+◌, ◌*◌, ◌<◌, ◌≤◌}
use native.Mathlib.Nat as NatL
use native.Mathlib.Omega.{arith}
use lib.IntN.{ℤ, pos, neg_ℤ, neg_ℤ-neg_ℤ, nat_abs, ◌+ℤ◌, ◌-ℤ◌, ◌*ℤ◌}
use Rattle.rounding.proofs.Zn.{v, k, neg, ◌⊕◌, ◌⊖◌, ◌⊗◌, eq, uneq, abs, unabs, mul-le, add-le, abs_neg, dist}
use Rattle.rounding.proofs.Machine.{of₃, of₄}
use Rattle.chain.specs.declared.Position.{Position}
use Rattle.chain.specs.Parts.{step_round, Part, Parts, linear, part, gain, plus, minus, forward_by, again, inverse_by}
use Rattle.chain.specs.Axes.{Axis, on_x, on_y, on_z, coordinate, part_on, Small}
use Rattle.chain.proofs.Rounding.{step-apart, step-size, step-opposite}

-- no coordinate of p and q lies more than e apart
pub record Off (e : ℕ) (p q : Position) : Type 0 where
  pub on : (i : Axis) → nat_abs (coordinate i p -ℤ coordinate i q) ≤ e

-- a part changes by less than one unit for 8500, and at the origin is at most 10^8
pub record Mild (t : Part) : Type 0 where
  pub slope : (nat_abs t.a + nat_abs t.b + nat_abs t.c) * 8500 < t.d
  pub start : nat_abs t.k ≤ 100000000 * t.d

pub record Milds (t : Parts) : Type 0 where
  pub on : (i : Axis) → Mild (part_on i t)

-- a part that is the same everywhere: no coordinate enters
pub record Flat (t : Part) : Type 0 where
  pub over : 0 < t.d
  pub flat : nat_abs t.a + nat_abs t.b + nat_abs t.c ≡ 0

pub record Flats (t : Parts) : Type 0 where
  pub on : (i : Axis) → Flat (part_on i t)

-- ---- a part
-- |a·x + b·y + c·z| ≤ (|a| + |b| + |c|)·e
pub sum-le : (a b c x y z : ℤ) (e : ℕ) → nat_abs x ≤ e → nat_abs y ≤ e → nat_abs z ≤ e → nat_abs (a *ℤ x +ℤ b *ℤ y +ℤ c *ℤ z) ≤ (nat_abs a + nat_abs b + nat_abs c) * e
sum-le a b c x y z e hx hy hz =
    let l = add-le (a *ℤ x +ℤ b *ℤ y) (c *ℤ z) (nat_abs a * e + nat_abs b * e) (nat_abs c * e)
    (add-le (a *ℤ x) (b *ℤ y) (nat_abs a * e) (nat_abs b * e) (mul-le a x (nat_abs a) e (NatL.le_refl _) hx) (mul-le b y (nat_abs b) e (NatL.le_refl _) hy))
    (mul-le c z (nat_abs c) e (NatL.le_refl _) hz) in
    omega arith

-- no coefficient, no sum
pub nothing : (a b c : ℤ) (p : Position) → nat_abs a + nat_abs b + nat_abs c ≡ 0 → a *ℤ p.x +ℤ b *ℤ p.y +ℤ c *ℤ p.z ≡ pos 0
nothing a b c p h =
    let e : ℕ = nat_abs p.x + nat_abs p.y + nat_abs p.z in
    let l = sum-le a b c p.x p.y p.z e (omega arith) (omega arith) (omega arith) in
    let z : (nat_abs a + nat_abs b + nat_abs c) * e ≡ 0 = ap (λ (n : ℕ). n * e) h ∙ NatL.zero-mul e in
    let f = unabs 0 (omega arith) (v (a *ℤ p.x +ℤ b *ℤ p.y +ℤ c *ℤ p.z)) in
    eq (v (a *ℤ p.x +ℤ b *ℤ p.y +ℤ c *ℤ p.z)) (k 0) (omega arith)

-- S·e < L·d, where S·8500 < d and e ≤ 8500·L
less : (S d e L : ℕ) → S * 8500 < d → 0 < L → e ≤ 8500 * L → S * e < L * d
less S d e L h l m =
    let f : S * e ≤ S * (8500 * L) = NatL.mul-le-mul_left S m in
    let g : (S * 8500 + 1) * L ≤ d * L = NatL.mul-le-mul_right L (omega arith) in
    omega arith

apart-is :
    (u a b c x y z x' y' z' : ℤ) →
    u +ℤ (a *ℤ x +ℤ b *ℤ y +ℤ c *ℤ z) -ℤ (u +ℤ (a *ℤ x' +ℤ b *ℤ y' +ℤ c *ℤ z')) ≡ a *ℤ (x -ℤ x') +ℤ b *ℤ (y -ℤ y') +ℤ c *ℤ (z -ℤ z')
apart-is u a b c x y z x' y' z' =
    eq (v u ⊕ (v (a *ℤ x) ⊕ v (b *ℤ y) ⊕ v (c *ℤ z)) ⊖ (v u ⊕ (v (a *ℤ x') ⊕ v (b *ℤ y') ⊕ v (c *ℤ z'))))
    (dist a x x' ⊕ dist b y y' ⊕ dist c z z') (omega arith)

-- two positions at most e apart have parts at most L + 1 apart
pub part_apart : (t : Part) (p q : Position) (e L : ℕ) → Mild t → Off e p q → e ≤ 8500 * (L + 1) → nat_abs (part t p -ℤ part t q) ≤ L + 1
unfolding part linear
part_apart t p q e L mild off h = step-apart (omega (arith, mild.slope)) L (t.k +ℤ linear t p) (t.k +ℤ linear t q) (close
    (apart-is t.k t.a t.b t.c p.x p.y p.z q.x q.y q.z)
    (sum-le t.a t.b t.c (p.x -ℤ q.x) (p.y -ℤ q.y) (p.z -ℤ q.z) e (off.on on_x) (off.on on_y) (off.on on_z))
    (less (nat_abs t.a + nat_abs t.b + nat_abs t.c) t.d e (L + 1) mild.slope (omega arith) h))
  where
    close : {u w : ℤ} {m n : ℕ} → u ≡ w → nat_abs w ≤ m → m < n → nat_abs u < n
    close {u} {w} e h l = omega (arith, ap nat_abs e)

-- a part is at most 180,000,000, where no coordinate is larger than 650,000,000,000
pub part_small : (t : Part) (p : Position) → Mild t → Small 650000000000 p → nat_abs (part t p) ≤ 180000000
unfolding part linear
part_small t p mild small =
    let s = sum-le t.a t.b t.c p.x p.y p.z 650000000000 (small.on on_x) (small.on on_y) (small.on on_z) in
    step-size (omega (arith, mild.slope)) 180000000 (t.k +ℤ linear t p)
    (NatL.le_trans (add-le t.k (linear t p) (100000000 * t.d) ((nat_abs t.a + nat_abs t.b + nat_abs t.c) * 650000000000) mild.start s) (omega (arith, mild.slope)))

-- a flat part is the same at any two positions
pub same-part : (t : Part) (p q : Position) → Flat t → part t p ≡ part t q
unfolding part linear
same-part t p q f =
    ap (λ (z : ℤ). step_round (t.k +ℤ z) t.d) (nothing t.a t.b t.c p f.flat ∙ sym (nothing t.a t.b t.c q f.flat))

-- ---- the opposite parts: −(k + a·X + b·Y + c·Z)/d. What they gain is the opposite, since −round(z) = round(−z)
opposite : Part → Part
opposite t = record { k = neg_ℤ t.k; a = neg_ℤ t.a; b = neg_ℤ t.b; c = neg_ℤ t.c; d = t.d }

opposites : Parts → Parts
opposites t = record { px = opposite t.px; py = opposite t.py; pz = opposite t.pz }

opposite-on : (i : Axis) (t : Parts) → part_on i (opposites t) ≡ opposite (part_on i t)
unfolding opposites
opposite-on on_x t = refl
opposite-on on_y t = refl
opposite-on on_z t = refl

part-opposite : (t : Part) (p : Position) → 0 < t.d → part (opposite t) p ≡ neg_ℤ (part t p)
unfolding part linear opposite
part-opposite t p h =
    ap (λ (z : ℤ). step_round z t.d)
    (eq (neg (v t.k) ⊕ (neg (v t.a) ⊗ v p.x ⊕ neg (v t.b) ⊗ v p.y ⊕ neg (v t.c) ⊗ v p.z))
    (neg (v t.k ⊕ (v t.a ⊗ v p.x ⊕ v t.b ⊗ v p.y ⊕ v t.c ⊗ v p.z))) (omega arith))
    ∙ step-opposite h (t.k +ℤ linear t p)

twice : (t : Part) → opposite (opposite t) ≡ t
unfolding opposite
twice t = of₄ (λ (k a b c : ℤ). record { k = k; a = a; b = b; c = c; d = t.d }) (neg_ℤ-neg_ℤ t.k) (neg_ℤ-neg_ℤ t.a) (neg_ℤ-neg_ℤ t.b) (neg_ℤ-neg_ℤ t.c)

opposite-mild : (t : Part) → Mild t → Mild (opposite t)
unfolding opposite
opposite-mild t m = record {
  slope = omega (arith, m.slope, abs_neg t.a, abs_neg t.b, abs_neg t.c);
  start = omega (arith, m.start, abs_neg t.k);
}

opposite-flat : (t : Part) → Flat t → Flat (opposite t)
unfolding opposite
opposite-flat t f = record { over = f.over; flat = omega (arith, f.flat, abs_neg t.a, abs_neg t.b, abs_neg t.c) }

opposites-mild : (t : Parts) → Milds t → Milds (opposites t)
opposites-mild t m = record { on = λ i. rw (opposite-on i t) (opposite-mild (part_on i t) (m.on i)) }

opposites-flat : (t : Parts) → Flats t → Flats (opposites t)
opposites-flat t f = record { on = λ i. rw (opposite-on i t) (opposite-flat (part_on i t) (f.on i)) }

-- ---- a move: from q by what is gained at c. A step forward moves p by its gain at p; a turn of the inverse moves q by the opposite gain at the candidate
move : Parts → Position → Position → Position
move t q c = plus q (gain t c)

pub record Divides (t : Parts) : Type 0 where
  pub on : (i : Axis) → 0 < (part_on i t).d

mild-divides : (t : Parts) → Milds t → Divides t
mild-divides t m = record { on = λ i. omega (arith, (m.on i).slope) }

flat-divides : (t : Parts) → Flats t → Divides t
flat-divides t f = record { on = λ i. (f.on i).over }

move-on : (i : Axis) (t : Parts) (q c : Position) → coordinate i (move t q c) ≡ coordinate i q +ℤ part (part_on i t) c
unfolding move gain plus
move-on on_x t q c = refl
move-on on_y t q c = refl
move-on on_z t q c = refl

-- by the opposite parts it takes away what the parts gain
move-back : (i : Axis) (t : Parts) (q c : Position) → Divides t → coordinate i (move (opposites t) q c) ≡ coordinate i q -ℤ part (part_on i t) c
move-back i t q c h =
    move-on i (opposites t) q c
    ∙ ap (λ (z : ℤ). coordinate i q +ℤ z) (ap (λ (u : Part). part u c) (opposite-on i t) ∙ part-opposite (part_on i t) c (h.on i))

forward-is : (t : Parts) (p : Position) → forward_by t p ≡ move t p p
unfolding forward_by move
forward-is t p = refl

-- the way back uses the symmetry here: q − round(z) is q + round(−z)
again-is : (t : Parts) (q c : Position) → Divides t → again t q c ≡ move (opposites t) q c
unfolding again minus gain
again-is t q c h = of₃ (λ (x y z : ℤ). record { x = x; y = y; z = z }) (sym (move-back on_x t q c h)) (sym (move-back on_y t q c h)) (sym (move-back on_z t q c h))

-- the opposite of the opposite
move-twice : (t : Parts) (q c : Position) → move (opposites (opposites t)) q c ≡ move t q c
unfolding opposites
move-twice t q c = rw (twice t.px, twice t.py, twice t.pz)

pub small-le : {m n : ℕ} {p : Position} → m ≤ n → Small m p → Small n p
small-le h s = record { on = λ i. NatL.le_trans (s.on i) h }

-- a turn of the inverse adds at most a part's size
pub again-small : (m : ℕ) (t : Parts) (q c : Position) → Milds t → Small m q → Small 650000000000 c → Small (m + 180000000) (again t q c)
again-small m t q c mild s h = rw (again-is t q c (mild-divides t mild)) (record {
  on = λ i. rw (move-on i (opposites t) q c) (add-le (coordinate i q) (part (part_on i (opposites t)) c) m 180000000 (s.on i) (part_small (part_on i (opposites t)) c ((opposites-mild t mild).on i) h));
})

-- ---- distances on one axis
-- from |p' − (q − r)| ≤ m and |r' − r| ≤ e
ends : (p' q r r' : ℤ) (m e : ℕ) → nat_abs (p' -ℤ (q -ℤ r)) ≤ m → nat_abs (r' -ℤ r) ≤ e → nat_abs (p' +ℤ r' -ℤ q) ≤ m + e
ends p' q r r' m e h l =
    let f = unabs m h (v p' ⊖ (v q ⊖ v r)) in
    let g = unabs e l (v r' ⊖ v r) in
    abs (v p' ⊕ v r' ⊖ v q) (omega arith) (omega arith)

begins : (q' p r : ℤ) (m e : ℕ) → nat_abs (q' -ℤ (p +ℤ r)) ≤ m → nat_abs r ≤ e → nat_abs (q' -ℤ p) ≤ m + e
begins q' p r m e h l =
    let f = unabs m h (v q' ⊖ (v p ⊕ v r)) in
    let g = unabs e l (v r) in
    abs (v q' ⊖ v p) (omega arith) (omega arith)

home : (q r : ℤ) (e : ℕ) → nat_abs r ≤ e → nat_abs (q +ℤ r -ℤ q) ≤ e
home q r e h = let f = unabs e h (v r) in abs (v q ⊕ v r ⊖ v q) (omega arith) (omega arith)

turn : (q r s : ℤ) (e : ℕ) → nat_abs (r -ℤ s) ≤ e → nat_abs (q +ℤ r -ℤ (q +ℤ s)) ≤ e
turn q r s e h = let f = unabs e h (v r ⊖ v s) in abs (v q ⊕ v r ⊖ (v q ⊕ v s)) (omega arith) (omega arith)

far : (x y z : ℤ) (m e : ℕ) → nat_abs (x -ℤ y) ≤ m → nat_abs (y -ℤ z) ≤ e → nat_abs (x -ℤ z) ≤ m + e
far x y z m e h l =
    let f = unabs m h (v x ⊖ v y) in
    let g = unabs e l (v y ⊖ v z) in
    abs (v x ⊖ v z) (omega arith) (omega arith)

-- equal parts are 0 apart
none-off : {r s : ℤ} → r ≡ s → nat_abs (r -ℤ s) ≤ 0
none-off {r} {s} e = let f = uneq e (v r) (v s) in abs (v r ⊖ v s) (omega arith) (omega arith)

-- ---- distances of positions
pub off-le : {m n : ℕ} {p q : Position} → m ≤ n → Off m p q → Off n p q
off-le h o = record { on = λ i. NatL.le_trans (o.on i) h }

pub off_self : (p : Position) → Off 0 p p
off_self p = record { on = λ i. none-off {r = coordinate i p} refl }

off-far : {p q r : Position} {m e : ℕ} → Off m p q → Off e q r → Off (m + e) p r
off-far {p} {q} {r} {m} {e} h l = record { on = λ i. far (coordinate i p) (coordinate i q) (coordinate i r) m e (h.on i) (l.on i) }

-- ---- a move and the opposite one
module _ (t : Parts) (mild : Milds t) where
  -- from m off from where the opposite move took q, a move ends L + 1 further off from q, where the gains are taken at positions e apart
  undone : (p' q c c' : Position) (m e L : ℕ) → Off m p' (move (opposites t) q c) → Off e c' c → e ≤ 8500 * (L + 1) → Off (m + (L + 1)) (move t p' c') q
  undone p' q c c' m e L h l b = record {
    on = λ i. rw (move-on i t p' c')
        (ends (coordinate i p') (coordinate i q) (part (part_on i t) c) (part (part_on i t) c') m (L + 1) (rw (move-back i t q c (mild-divides t mild)) at (h.on i)) (part_apart (part_on i t) c' c e L (mild.on i) l b));
  }

  -- a move is at most a part's size
  start-off : (q' p : Position) (m : ℕ) → Small 650000000000 p → Off m q' (move t p p) → Off (m + 180000000) q' p
  start-off q' p m small h = record {
    on = λ i. begins (coordinate i q') (coordinate i p) (part (part_on i t) p) m 180000000 (rw (move-on i t p p) at (h.on i)) (part_small (part_on i t) p (mild.on i) small);
  }

  home_off : (q : Position) → Small 650000000000 q → Off 180000000 (move t q q) q
  home_off q s = record { on = λ i. rw (move-on i t q q) (home (coordinate i q) (part (part_on i t) q) 180000000 (part_small (part_on i t) q (mild.on i) s)) }

  -- from one position, by gains at positions e apart, L + 1 apart
  turn-off : (q c d : Position) (e L : ℕ) → Off e c d → e ≤ 8500 * (L + 1) → Off (L + 1) (move t q c) (move t q d)
  turn-off q c d e L h l = record {
    on = λ i. rw (move-on i t q c, move-on i t q d)
        (turn (coordinate i q) (part (part_on i t) c) (part (part_on i t) d) (L + 1) (part_apart (part_on i t) c d e L (mild.on i) h l));
  }

-- where no coordinate enters, the opposite move is undone exactly
undone-exactly : (t : Parts) → Flats t → (p' q c c' : Position) (m : ℕ) → Off m p' (move (opposites t) q c) → Off m (move t p' c') q
undone-exactly t flat p' q c c' m h = record {
  on = λ i. rw (move-on i t p' c')
      (NatL.le_trans
      (ends (coordinate i p') (coordinate i q) (part (part_on i t) c) (part (part_on i t) c') m 0 (rw (move-back i t q c (flat-divides t flat)) at (h.on i))
      (none-off (same-part (part_on i t) c' c (flat.on i)))) (omega arith));
}

-- ---- one step. The inverse's turns undo the step forward, and the step forward undoes the inverse's last turn
module _ (t : Parts) (mild : Milds t) where
  abbrev back : Parts
  back = opposites t

  again-off : (q' p c : Position) (m e L : ℕ) → Off m q' (move t p p) → Off e c p → e ≤ 8500 * (L + 1) → Off (m + (L + 1)) (again t q' c) p
  again-off q' p c m e L h l b =
      rw (again-is t q' c (mild-divides t mild))
      (undone back (opposites-mild t mild) q' p p c m e L (subst (λ (x : Position). Off m q' x) (sym (move-twice t p p)) h) l b)

  -- the inverse, started m ≤ 7 units off from where the step forward ended, ends at most m + 1 units off: the turns bring 180,000,000 to 21,177 to 3 to 1
  pub inverse-off : (q' p : Position) (m : ℕ) → Small 650000000000 p → m ≤ 7 → Off m q' (forward_by t p) → Off (m + 1) (inverse_by t q') p
  unfolding inverse_by
  inverse-off q' p m small m≤7 o =
      let h = subst (λ (x : Position). Off m q' x) (forward-is t p) o in
      again-off q' p _ m (m + (2 + 1)) 0 h
      (again-off q' p _ m (m + (21176 + 1)) 2 h
      (again-off q' p _ m (m + 180000000) 21176 h (start-off t mild q' p m small h) (omega arith)) (omega arith)) (omega arith)

  -- the step forward, started m ≤ 7 units off from where the inverse ended, ends at most m + 1 units off
  pub forward-off : (p' q : Position) (m : ℕ) → Small 650000000000 q → m ≤ 7 → Off m p' (inverse_by t q) → Off (m + 1) (forward_by t p') q
  unfolding inverse_by
  forward-off p' q m s m≤7 o =
      let one : (c : Position) → again t q c ≡ move back q c = λ c. again-is t q c (mild-divides t mild) in
      let h = rw (one q, one (move back q q), one (move back q (move back q q))) at o in
      let c₁ = move back q q in
      let c₂ = move back q c₁ in
      let a = turn-off back (opposites-mild t mild) q c₁ q 180000000 21176 (home_off back (opposites-mild t mild) q s) (omega arith) in
      let b = turn-off back (opposites-mild t mild) q c₂ c₁ 21177 2 a (omega arith) in
      rw (forward-is t p') (undone t mild p' q c₂ p' m (m + 3) 0 h (off-far h b) (omega arith))

-- ---- an exact step adds nothing, either way
module _ (t : Parts) (flat : Flats t) where
  pub inverse-exact : (q' p : Position) (m : ℕ) → Off m q' (forward_by t p) → Off m (inverse_by t q') p
  unfolding inverse_by
  inverse-exact q' p m o =
      rw (again-is t q' (again t q' (again t q' q')) (flat-divides t flat))
      (undone-exactly (opposites t) (opposites-flat t flat) q' p p _ m (subst (λ (x : Position). Off m q' x) (forward-is t p ∙ sym (move-twice t p p)) o))

  pub forward-exact : (p' q : Position) (m : ℕ) → Off m p' (inverse_by t q) → Off m (forward_by t p') q
  unfolding inverse_by
  forward-exact p' q m o =
      rw (forward-is t p')
      (undone-exactly t flat p' q _ p' m (subst (λ (x : Position). Off m p' x) (again-is t q (again t q (again t q q)) (flat-divides t flat)) o))
