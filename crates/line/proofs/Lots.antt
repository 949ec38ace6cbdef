-- The line of a lot plan: its parts one after the other, and how long it can be. And what a writer leaves in a slice that the whole text fits. Assumes nothing.
use Rattle.std.proofs.Common.{◌≡◌, ℕ, ◌+◌, ◌^◌, ◌<◌, ◌≤◌, List, [], ◌∷◌, ◌++◌, length, drop, ℤ, nat_abs, sym, ap, ◌∙◌, append_assoc, arith, length-append}
use lib.Seq.{sets-eq}
use Rattle.chain.specs.declared.Label.{Label}
use Rattle.line.specs.Text.{integer, name_text, line_text, Wrote}
use Rattle.line.specs.Lot.{lot_text}
use Rattle.line.proofs.Lengths.{length-integer, length-name}

tabbed : (a r : List ℕ) → (a ++ (9 ∷ [])) ++ r ≡ a ++ (9 ∷ r)
tabbed a r = append_assoc a (9 ∷ []) r

pub lot-is : (l : Label) (e n : ℤ)
    → (67 ∷ 9 ∷ [])
    ++ ((name_text l.id ++ (9 ∷ []))
    ++ ((integer l.issue ++ (9 ∷ []))
    ++ ((integer l.order ++ (9 ∷ []))
    ++ ((integer e ++ (9 ∷ []))
    ++ (integer n ++ (10 ∷ []))))))
    ≡ lot_text l e n
unfolding lot_text line_text
lot-is l e n = simp tabbed

-- of whatever i64: at most 103 bytes
pub length-lot : (l : Label) (e n : ℤ) → nat_abs l.issue < 10 ^ 19 → nat_abs l.order < 10 ^ 19 → nat_abs e < 10 ^ 19 → nat_abs n < 10 ^ 19
    → length (lot_text l e n) ≤ 103
length-lot l e n h i j k =
    rw (sym (lot-is l e n))
    (simp length-append
    (omega (arith, length-name l.id, length-integer 18 l.issue h, length-integer 18 l.order i, length-integer 18 e j, length-integer 18 n k)))

-- a text that fits a slice, written from its start: all of it, and past it everything as it was
pub wrote-whole : {before text after : List ℕ} {r : ℕ} → length text ≤ length before → Wrote before 0 text after r
    → (r ≡ length text) × (after ≡ text ++ drop (length text) before)
wrote-whole {before} {text} h w =
    let e : 0 + length text ≡ length text = omega arith in
    (omega (arith, w.place), w.list ∙ sets-eq text before 0 (omega arith) ∙ ap (λ (k : ℕ). text ++ drop k before) e)
