-- A line that is too long or is left open is malformed, whatever it begins with. Assumes nothing.
use Rattle.std.proofs.Common.{◌≡◌, ℕ, suc, ◌+◌, ◌-◌, ◌<◌, ◌≤◌, min, Bool, true, false, eqb, ltb, leb, List, [], ◌∷◌, ◌++◌, length, get_or, take, ℤ, sym, refl, ap, ◌∙◌, arith, length-append, length-take, get_or-take, eq-eqb, ne_eqb}
use mathlib.Core.Option.{Option, none, some}
use lib.ListN.{get_or-append}
use lib.Seq.{get_or_at}
use native.Mathlib.Decide.{dec_lt}
use borrow.Author.Tests.{lt-leb}
use Rattle.refusal.specs.Numbers as refusal
use Rattle.refusal.specs.Order.{pick}
use Rattle.line.specs.Answers.{Fault, Malformed}
use Rattle.std.specs.Prelude.{Result, Ok, Err}
use Rattle.line.specs.Bytes.{line_feed}
use Rattle.line.specs.Fields.{longest_line, body}
use Rattle.line.specs.Malformed.{fault, fault_of, end_of}
use Rattle.line.specs.Readers.{read_point, read_step, read_edition, strange_fault}

-- ---- no byte is a line feed
pub NoFeed : List ℕ → Type 0
NoFeed w = (i : ℕ) → i < length w → get_or w i 0 ≡ line_feed → ⊥

pub none_yet : NoFeed []
unfolding NoFeed
none_yet i h e = omega arith

pub one_more : (w : List ℕ) (b : ℕ) → NoFeed w → (b ≡ line_feed → ⊥) → NoFeed (w ++ (b ∷ []))
unfolding NoFeed
one_more w b n m i h e = go (dec_lt i (length w))
  where
    go : Dec (i < length w) → ⊥
    go (yes k) = n i k (sym (get_or-append w (b ∷ []) 0 i k) ∙ e)
    go (no k) =
        let z : i ≡ length w = omega (arith, length-append w (b ∷ [])) in
        m (sym (get_or_at w b [] 0 i (sym z)) ∙ e)

pub no-feed-in : (k : ℕ) (w : List ℕ) → NoFeed w → NoFeed (take k w)
unfolding NoFeed
no-feed-in k w n i h e = let z = length-take k w in n i (omega arith) (sym (get_or-take k w i 0 (omega arith)) ∙ e)

-- of no bytes the last counts as 0
pub no-feed-last : (w : List ℕ) → NoFeed w → get_or w (length w - 1) 0 ≡ line_feed → ⊥
unfolding NoFeed
no-feed-last [] n e = omega arith
no-feed-last (b ∷ w) n e = n (length (b ∷ w) - 1) (omega arith) e

-- ---- so nothing is read of the line
pub no_body : (l : List ℕ) → (get_or l (length l - 1) 0 ≡ line_feed → ⊥) → body l ≡ none
unfolding body
no_body l n = rw (ne_eqb (get_or l (length l - 1) 0) line_feed n) (go (ltb 0 (length l)) (leb (length l) longest_line))
  where
    go : (a b : Bool) → ◌≡◌ {A = Option (List ℕ)} (pick a (pick b none none) none) none
    go true true = refl
    go true false = refl
    go false b = refl

pub long-body : (l : List ℕ) → longest_line < length l → body l ≡ none
unfolding body
long-body l h = rw (lt-leb (length l) longest_line h) (go (ltb 0 (length l)))
  where
    go : (a : Bool) → ◌≡◌ {A = Option (List ℕ)} (pick a none none) none
    go true = refl
    go false = refl

-- and it is refused for its length (18)
abbrev pub unread_fault : List ℕ → Fault
unread_fault l = fault refusal.length (end_of l)

pub unread-step : (y : ℤ) (l : List ℕ) → body l ≡ none → read_step y l ≡ Malformed (unread_fault l)
unfolding read_step fault_of
unread-step y l e = rw e

pub unread-point : (y : ℤ) (l : List ℕ) → body l ≡ none → read_point y l ≡ Malformed (unread_fault l)
unfolding read_point fault_of
unread-point y l e = rw e

pub unread-edition : (l : List ℕ) → body l ≡ none → read_edition l ≡ Err (unread_fault l)
unfolding read_edition fault_of
unread-edition l e = rw e

pub unread-strange : (l : List ℕ) → body l ≡ none → strange_fault l ≡ unread_fault l
unfolding fault_of
unread-strange l e = rw e

-- ---- where it ends
pub end-open : (l : List ℕ) → (get_or l (length l - 1) 0 ≡ line_feed → ⊥) → end_of l ≡ min (length l) longest_line
unfolding end_of
end-open l n = rw (ne_eqb (get_or l (length l - 1) 0) line_feed n)

pub end-fed : (w : List ℕ) → end_of (w ++ (line_feed ∷ [])) ≡ min (length w) longest_line
unfolding end_of
end-fed w =
    let n : length (w ++ (line_feed ∷ [])) - 1 ≡ length w = omega (arith, length-append w (line_feed ∷ [])) in
    let q : get_or (w ++ (line_feed ∷ [])) (length (w ++ (line_feed ∷ [])) - 1) 0 ≡ line_feed = get_or_at w line_feed [] 0 (length (w ++ (line_feed ∷ [])) - 1) (sym n) in
    rw (eq-eqb (get_or (w ++ (line_feed ∷ [])) (length (w ++ (line_feed ∷ [])) - 1) 0) line_feed q) (ap (λ (k : ℕ). min k longest_line) n)
