-- The laws of reading: how reads follow one another, and what a caller knows of the bytes that were read. Assumes nothing.
use Prim.Native.Nat.{ℕ, ◌+◌, ◌≤◌, ◌<◌}
use mathlib.Core.Path.{◌≡◌, refl, sym, ap, subst, ◌∙◌}
use mathlib.Core.Bool.{Bool, true, false, cond}
use mathlib.Core.List.{List, [], ◌∷◌}
use lib.Dec.{eqb, ltb}
use lib.ListN.{length, take}
use lib.Seq.{length-take-le}
use native.Mathlib.Omega.{arith}
use borrow.Author.Tests.{eqb-false, ltb-true}
use Rattle.std.proofs.Common.{Option, Some, None, ControlFlow, Continue, Break}
use Rattle.input.specs.Input.{after_read, decided, input_of, Follows, Reads}

-- ---- what can follow from a read while the bytes held fit: reading goes on only with more of them, and with room left
abbrev Ends : ℕ → Option ℕ → Type 0
Ends room None = Unit {0}
Ends room (Some n) = n ≤ room

abbrev Sound : ℕ → ℕ → ControlFlow (Option ℕ) ℕ → Type 0
Sound room held (Continue more) = (held < more) × (more < room)
Sound room held (Break answer) = Ends room answer

sound : (room held : ℕ) → held ≤ room → (got : Option ℕ) → Sound room held (after_read room held got)
unfolding after_read
sound room held h None = tt
sound room held h (Some n) = some_or_none (eqb n 0) refl
  where
    full-or-on : 0 < n → (b : Bool) → ltb (held + n) room ≡ b → Sound room held (cond b (Continue (held + n)) (Break (Some room)))
    full-or-on more true t = (omega arith, ltb-true (held + n) room t)
    full-or-on more false t = omega arith

    some_or_none : (b : Bool) → eqb n 0 ≡ b → Sound room held (cond b (Break (Some held)) (cond (ltb (held + n) room) (Continue (held + n)) (Break (Some room))))
    some_or_none true t = h
    some_or_none false t = full-or-on (omega (arith, eqb-false n 0 t)) (ltb (held + n) room) refl

pub on-more : {room held more : ℕ} {r : ControlFlow (Option ℕ) ℕ} → held ≤ room → r ≡ Continue more → Follows room held r → (held < more) × (more < room)
on-more {room} {held} h e f = subst (Sound room held) (sym f.next ∙ e) (sound room held h f.got)

-- ---- the answers of reads, one after another
pub reads_on : {room held more : ℕ} {r : ControlFlow (Option ℕ) ℕ} {a : Option ℕ} → r ≡ Continue more → Follows room held r → Reads room more a → Reads room held a
unfolding input_of
reads_on {room} e f q = record { answers = f.got ∷ q.answers; input = ap (λ (n : ControlFlow (Option ℕ) ℕ). decided n (λ (m : ℕ). input_of room m q.answers)) (sym f.next ∙ e) ∙ q.input }

pub reads_whole : {room held : ℕ} {r : ControlFlow (Option ℕ) ℕ} {a : Option ℕ} → r ≡ Break a → Follows room held r → Reads room held a
unfolding input_of
reads_whole {room} e f = record { answers = f.got ∷ []; input = ap (λ (n : ControlFlow (Option ℕ) ℕ). decided n (λ (m : ℕ). input_of room m [])) (sym f.next ∙ e) }

-- a buffer keeps its length while it is read into
pub reads_same : {room room' held : ℕ} {a : Option ℕ} → room ≡ room' → Reads room held a → Reads room' held a
reads_same {held = held} {a} e q = subst (λ (k : ℕ). Reads k held a) e q

-- ---- what a caller knows: the bytes fit the buffer, and are a part of it
fits : (room held : ℕ) (gots : List (Option ℕ)) (r : Option ℕ) → held ≤ room → input_of room held gots ≡ Some r → Ends room r
unfolding input_of
fits room held [] r h e = let w : ◌≡◌ {A = ℕ} 0 1 = cc in absurd (omega arith)
fits room held (got ∷ gots) r h e = go (λ m k q. fits room m gots r k q) (after_read room held got) (sound room held h got) e
  where
    go : ((m : ℕ) → m ≤ room → input_of room m gots ≡ Some r → Ends room r) → (x : ControlFlow (Option ℕ) ℕ) → Sound room held x → decided x (λ (m : ℕ). input_of room m gots) ≡ Some r → Ends room r
    go on (Continue more) s e = on more (omega (arith, s.1)) e
    go on (Break answer) s e = let w : answer ≡ r = cc in subst (Ends room) w s

pub held_fits : (r : Option ℕ) (n k : ℕ) → r ≡ Some n → Reads k 0 r → n ≤ k
held_fits r n k e q = subst (Ends k) e (fits k 0 q.answers r (omega arith) q.input)

pub held-part : (r : Option ℕ) (n : ℕ) (xs : List ℕ) → r ≡ Some n → Reads (length xs) 0 r → n ≡ length (take n xs)
held-part r n xs e q = sym (length-take-le n xs (held_fits r n (length xs) e q))
