-- The laws of what is wrong with a line: its place lies in the line, and its number has two digits at most. Assumes nothing.
use Rattle.std.proofs.Common.{◌≡◌, ℕ, suc, ◌+◌, ◌-◌, ◌<◌, ◌≤◌, min, Bool, true, false, eqb, ltb, leb, List, [], ◌∷◌, length, get_or, take, refl, ap, arith, length-take-le, take_all, ltb-true, leb-true}
use mathlib.Core.Option.{Option, none, some}
use Rattle.refusal.specs.Numbers as refusal
use Rattle.refusal.specs.Order.{pick}
use Rattle.line.specs.Answers.{Fault}
use Rattle.line.specs.Bytes.{tab, line_feed}
use Rattle.line.specs.Fields.{longest_line, body, front, fields}
use Rattle.line.specs.Malformed.{Class, Shape, field_fault, offending, end_of, miscounted, fault, or_next, fields_fault, body_fault, fault_of}

pub nothing : {A : Type 0} {a : A} → none ≡ some a → ⊥
nothing e = let w : ◌≡◌ {A = ℕ} 0 1 = cc in omega arith

-- ---- the bytes of fields, with what parts them
abbrev pub spread : List (List ℕ) → ℕ
spread [] = 0
spread (f ∷ fs) = length f + 1 + spread fs

pub fields-spread : (s : List ℕ) → spread (fields s) ≡ length s + 1
unfolding fields
fields-spread [] = refl
fields-spread (b ∷ s) = go (eqb b tab) (fields s) (fields-spread s)
  where
    go : (t : Bool) (fs : List (List ℕ)) → spread fs ≡ length s + 1 → spread (pick t ([] ∷ fs) (front b fs)) ≡ suc (length s) + 1
    go true fs h = omega arith
    go false [] h = absurd (omega arith)
    go false (f ∷ fs) h = omega arith

-- a body is the line without its line feed
pub body-length : (line s : List ℕ) → body line ≡ some s → (length line ≡ length s + 1) × (length line ≤ 200)
unfolding body
body-length line s e = go (ltb 0 (length line)) refl (leb (length line) longest_line) refl (eqb (get_or line (length line - 1) 0) line_feed) e
  where
    go : (a : Bool) → ltb 0 (length line) ≡ a → (b : Bool) → leb (length line) longest_line ≡ b → (c : Bool)
        → pick a (pick b (pick c (some (take (length line - 1) line)) none) none) none ≡ some s → (length line ≡ length s + 1) × (length line ≤ 200)
    go true q true l true e =
        let z : take (length line - 1) line ≡ s = cc in
        (omega (arith, ltb-true 0 (length line) q, ap length z, length-take-le (length line - 1) line (omega arith)), leb-true (length line) longest_line l)
    go true q true l false e = absurd (nothing e)
    go true q false l c e = absurd (nothing e)
    go false q b l c e = absurd (nothing e)

pub body-is : (line s : List ℕ) → body line ≡ some s → take (length line - 1) line ≡ s
unfolding body
body-is line s e = go (ltb 0 (length line)) (leb (length line) longest_line) (eqb (get_or line (length line - 1) 0) line_feed) e
  where
    go : (a b c : Bool) → pick a (pick b (pick c (some (take (length line - 1) line)) none) none) none ≡ some s → take (length line - 1) line ≡ s
    go true true true e = cc
    go true true false e = absurd (nothing e)
    go true false c e = absurd (nothing e)
    go false b c e = absurd (nothing e)

-- ---- where a fault lies, and how large its number is
offending-inside : (n at : ℕ) (cs : List Class) (fs : List (List ℕ)) (p : ℕ) → offending n at cs fs ≡ some p → p + 1 ≤ at + spread fs
unfolding offending
offending-inside n at [] fs p e = absurd (nothing e)
offending-inside n at (c ∷ cs) [] p e = absurd (nothing e)
offending-inside n at (c ∷ cs) (f ∷ fs) p e = go (eqb (field_fault c f) n) (offending-inside n (at + length f + 1) cs fs p) e
  where
    go : (t : Bool) → (offending n (at + length f + 1) cs fs ≡ some p → p + 1 ≤ at + length f + 1 + spread fs)
        → pick t (some at) (offending n (at + length f + 1) cs fs) ≡ some p → p + 1 ≤ at + (length f + 1 + spread fs)
    go true on e = let z : at ≡ p = cc in omega arith
    go false on e = omega (arith, on e)

pub place_inside : (n : ℕ) (cs : List Class) (s : List ℕ) (p : ℕ) → offending n 0 cs (fields s) ≡ some p → p ≤ length s
place_inside n cs s p e = omega (arith, offending-inside n 0 cs (fields s) p e, fields-spread s)

pub end_low : (line : List ℕ) → end_of line ≤ 200
unfolding end_of
end_low line = omega arith

end-inside : (line : List ℕ) → end_of line ≤ length line
unfolding end_of
end-inside line = go (eqb (get_or line (length line - 1) 0) line_feed)
  where
    go : (t : Bool) → min (pick t (length line - 1) (length line)) longest_line ≤ length line
    go true = omega arith
    go false = omega arith

-- whatever holds of every fault that can be found holds of the one that is
module _ (P : Fault → Type 0) where
  next-has : (n : ℕ) (o : Option ℕ) (next : Fault) → ((p : ℕ) → o ≡ some p → P (fault n p)) → P next → P (or_next n o next)
  next-has n none next h k = k
  next-has n (some p) next h k = h p refl

  fields-have : (cs : List Class) (end : ℕ) (s : List ℕ) → P (fault 0 0) → P (fault refusal.count end)
      → ((n p : ℕ) → n < 100 → p ≤ length s → P (fault n p)) → P (fields_fault cs end (fields s))
  unfolding fields_fault
  fields-have cs end s z c h =
      search-has refusal.letter _ (omega arith)
      (next-has refusal.count (miscounted cs (fields s) end) _ (counted (eqb (length (fields s)) (length cs)))
      (search-has refusal.id _ (omega arith) (search-has refusal.plain _ (omega arith) z)))
    where
      search-has : (n : ℕ) (next : Fault) → n < 100 → P next → P (or_next n (offending n 0 cs (fields s)) next)
      search-has n next l k = next-has n (offending n 0 cs (fields s)) next (λ p e. h n p l (place_inside n cs s p e)) k

      counted : (t : Bool) (p : ℕ) → pick t none (some end) ≡ some p → P (fault refusal.count p)
      counted true p e = absurd (nothing e)
      counted false p e = let q : end ≡ p = cc in rw (← q) c

  fault-has : (shape : Shape) (line : List ℕ) → ((n p : ℕ) → n < 100 → p ≤ length line → p ≤ 200 → P (fault n p)) → P (fault_of shape line)
  unfolding fault_of
  fault-has shape line h = go (body line) refl
    where
      go : (o : Option (List ℕ)) → body line ≡ o → P (body_fault shape (end_of line) o)
      go none q = h refusal.length (end_of line) (omega arith) (end-inside line) (end_low line)
      go (some s) q =
          let b = body-length line s q in
          fields-have (shape (fields s)) (end_of line) s (h 0 0 (omega arith) (omega arith) (omega arith))
          (h refusal.count (end_of line) (omega arith) (end-inside line) (end_low line)) (λ n p k l. h n p k (omega arith) (omega arith))

-- a line as a slice of its own
pub fault-of-whole : (shape : Shape) (line : List ℕ) → fault_of shape (take (length line) line) ≡ fault_of shape line
fault-of-whole shape line = ap (fault_of shape) (take_all (length line) line (omega arith))

module _ (shape : Shape) (line : List ℕ) where
  pub fault-short : (fault_of shape line).number < 100
  fault-short = fault-has (λ (f : Fault). f.number < 100) shape line (λ n p h k l. h)

  pub fault-inside : (fault_of shape line).place ≤ length line
  fault-inside = fault-has (λ (f : Fault). f.place ≤ length line) shape line (λ n p h k l. k)

  pub fault-low : (fault_of shape line).place ≤ 200
  fault-low = fault-has (λ (f : Fault). f.place ≤ 200) shape line (λ n p h k l. l)
