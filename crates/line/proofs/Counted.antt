-- A field of so many digits, taken at once, is read as a number. Assumes nothing.
use Rattle.std.proofs.Common.{◌≡◌, ℕ, ◌+◌, ◌-◌, ◌*◌, ◌<◌, ◌≤◌, List, [], ◌∷◌, length, get_or, pos, neg_ℤ, refl, ap, ◌∙◌, add-zero, arith}
use native.Mathlib.Decide.{dec_lt, ℕ_discrete}
use Rattle.line.specs.Number.{digits, plain, number_of}
use Rattle.line.specs.Reading.{from, Got, itself, empty, capped, capped_z, cap, Digits, Say, Alone, Led, Counted}
use Rattle.line.proofs.Walk as W
use Rattle.line.proofs.Numbers as N
use Rattle.line.proofs.Ahead as L

-- ---- one
pub single : (s : List ℕ) (p : ℕ) → 48 ≤ get_or s p 0 → get_or s p 0 ≤ 57 → Digits 1 s p
single s p a b =
    record {
      low = λ i h. (let q : p ≡ p + i = omega arith in rw (← q) a);
      high = λ i h. (let q : p ≡ p + i = omega arith in rw (← q) b);
    }

-- ---- a whole field
pub first-low : {k : ℕ} {s : List ℕ} {p : ℕ} → Alone k s p → 0 < k → 48 ≤ get_or s p 0
first-low a h = rw add-zero at (a.digits.low 0 h)

pub first-high : {k : ℕ} {s : List ℕ} {p : ℕ} → Alone k s p → 0 < k → get_or s p 0 ≤ 57
first-high a h = rw add-zero at (a.digits.high 0 h)

-- a number's digits with no spare zero in front
unspared : {s : List ℕ} {at v next : ℕ} → Got s capped (digits 0) at v next → at < length s → 48 < get_or s at 0 → get_or s at 0 ≤ 57 → Got s capped plain at v next
unspared {s} {at} {v} {next} g h lo hi =
    let t : get_or s at 0 ≡ 9 → ⊥ = λ q. omega arith in
    let z : 0 * 10 + (get_or s at 0 - 48) ≡ get_or s at 0 - 48 = omega arith in
    let one = W.head-on s at plain (digits (get_or s at 0 - 48)) h t (λ f. N.plain-on (get_or s at 0) f lo hi) in
    let two = W.head-on s at (digits 0) (digits (get_or s at 0 - 48)) h t (λ f. N.digits-on 0 (get_or s at 0) f (omega arith) hi ∙ ap (λ (n : ℕ). digits n f) z) in
    record { tells = rw (one, ← two) g.tells }

-- what k digits say, if the field ends after them
closing : (k scale : ℕ) {s : List ℕ} {at v next : ℕ} → Say k scale s at v → Alone k s at → Got s itself empty (at + k) tt next → v ≤ cap
    → Got s capped (digits 0) at v next
closing k scale {s} {at} {v} {next} y a g c =
    let z : 0 * scale + v ≡ v = omega arith in
    y.says 0 v next (N.digits-close (0 * scale + v) g (omega arith) (λ l. N.low (omega (arith, a.ends l))))

-- a digit by itself, which may be 0
pub one-digit : {s : List ℕ} {at next : ℕ} → Alone 1 s at → Got s itself empty (at + 1) tt next → Got s capped_z number_of at (pos (get_or s at 0 - 48)) next
one-digit {s} {at} {next} a g =
    let h : at < length s = omega (arith, a.inside) in
    let lo = first-low a (omega arith) in
    let hi = first-high a (omega arith) in
    N.above h (go h lo hi (ℕ_discrete (get_or s at 0) 48)) (λ q. omega arith)
  where
    go : at < length s → 48 ≤ get_or s at 0 → get_or s at 0 ≤ 57 → Dec (get_or s at 0 ≡ 48) → Got s capped plain at (get_or s at 0 - 48) next
    go h lo hi (yes e) = let z : 0 ≡ get_or s at 0 - 48 = omega arith in rw (← z) (N.zero-alone h g e)
    go h lo hi (no e) = unspared (closing 1 10 (L.digit s at h a.digits) a g (omega arith)) h (omega arith) hi

-- several, the first of them no 0
unsigned : (k scale : ℕ) {s : List ℕ} {at v next : ℕ} → Say k scale s at v → Alone k s at → 0 < k → Got s itself empty (at + k) tt next → v ≤ cap → Led s at
    → Got s capped plain at v next
unsigned k scale {s} {at} {v} {next} y a p g c z =
    let lo = first-low a p in
    unspared (closing k scale y a g c) (omega (arith, a.inside)) (omega arith) (first-high a p)

several : (k scale : ℕ) {s : List ℕ} {at v next : ℕ} → Say k scale s at v → Alone k s at → 0 < k → Got s itself empty (at + k) tt next → v ≤ cap → Led s at
    → Got s capped_z number_of at (pos v) next
several k scale {s} {at} {v} {next} y a p g c z =
    let lo = first-low a p in
    N.above (omega (arith, a.inside)) (unsigned k scale y a p g c z) (λ q. omega arith)

-- ---- a field whose digits were counted, and where the next one begins
after : {k : ℕ} {s : List ℕ} {at : ℕ} (next : ℕ) → Alone k s at → next ≡ at + k + 1 → Got s itself empty (at + k) tt next
after {k} {s} {at} next a e = rw e (W.ends-here (go (dec_lt (at + k) (length s))) a.inside)
  where
    go : Dec (at + k < length s) → from s (at + k) ≡ [] ∷ from s (at + k + 1)
    go (yes l) = W.from-tab s (at + k) l (a.ends l)
    go (no l) = W.from_end s (at + k) (omega (arith, a.inside))

pub counted : (k scale : ℕ) {s : List ℕ} {at v : ℕ} (next : ℕ) → Counted k scale s at v → Alone k s at → 0 < k → scale ≤ cap → next ≡ at + k + 1
    → Got s capped_z number_of at (pos v) next
counted k scale next y a p c e = several k scale y.says a p (after next a e) (omega (arith, y.says.less)) y.led

-- the tab after a field that begins at another place
pub tabbed : {s : List ℕ} {at k q v scale : ℕ} → at + k < length s → get_or s q 0 ≡ 9 → q ≡ at + k → Counted k scale s at v → Alone k s at
tabbed {s} {at} {k} {q} h t e y = record { inside = omega arith; ends = λ l. rw e at t; digits = y.digits }

-- with a minus in front
pub minus-counted : (k scale : ℕ) {s : List ℕ} {at v : ℕ} (next : ℕ) → at < length s → get_or s at 0 ≡ 45 → Counted k scale s (at + 1) v → Alone k s (at + 1)
    → 0 < k → scale ≤ cap → next ≡ at + 1 + k + 1 → Got s capped_z number_of at (neg_ℤ (pos v)) next
minus-counted k scale next h m y a p c e =
    N.below h (unsigned k scale y.says a p (after next a e) (omega (arith, y.says.less)) y.led) m (λ q. absurd (omega (arith, y.some))) (λ q. refl)
