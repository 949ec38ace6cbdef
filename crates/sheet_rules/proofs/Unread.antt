-- A line that is too long or is left open is refused for its length, and of it the rules see no more than its first 200 bytes. Assumes nothing.
use Prim.Native.Nat.{ℕ, ◌-◌, ◌≤◌, min}
use mathlib.Core.Path.{◌≡◌, refl, sym, ap, ◌∙◌}
use mathlib.Core.Bool.{Bool, true, false}
use mathlib.Core.List.{List, [], ◌∷◌, ◌++◌}
use mathlib.Core.Option.{none}
use lib.Dec.{eqb}
use lib.ListN.{length, get_or, take, length-append, length-take, get_or-append}
use lib.Seq.{get_or-take}
use native.Mathlib.Omega.{arith}
use Rattle.refusal.specs.Numbers as refusal
use Rattle.line.specs.Answers.{Malformed}
use Rattle.refusal.specs.Order.{pick}
use Rattle.line.specs.Bytes.{line_feed, letter_s, letter_p, letter_e}
use Rattle.line.specs.Fields.{longest_line, body}
use Rattle.line.specs.Malformed.{fault, end_of}
use Rattle.line.proofs.NotRead.{NoFeed, no-feed-in, no-feed-last, no_body, long-body, unread_fault, unread-step, unread-point, unread-edition, unread-strange, end-open, end-fed}
use Rattle.sheet_rules.specs.declared.Reply.TheVariants as reply
use Rattle.sheet_rules.specs.Sheet.{Sheet, malformed, without_step, after_point, passed, reply_of, next_of}

unread-length : (s : Sheet) (l : List ℕ) → body l ≡ none → reply_of s l ≡ malformed s (unread_fault l)
unfolding reply_of
unread-length s l e =
    rw (unread-step s.profile l e, unread-point s.profile l e, unread-edition l e, unread-strange l e)
    (go (eqb (get_or l 0 0) letter_s) (eqb (get_or l 0 0) letter_p) (eqb (get_or l 0 0) letter_e))
  where
    go : (a b c : Bool) → pick a (malformed s (unread_fault l)) (pick b (malformed s (unread_fault l)) (pick c (malformed s (unread_fault l)) (malformed s (unread_fault l)))) ≡ malformed s (unread_fault l)
    go true b c = refl
    go false true c = refl
    go false false true = refl
    go false false false = refl

-- after it the rules go by its first byte
unread-after : (s : Sheet) (l : List ℕ) → body l ≡ none → next_of s l ≡ pick (eqb (get_or l 0 0) letter_s) (without_step s) (pick (eqb (get_or l 0 0) letter_p) (after_point s (Malformed (unread_fault l))) (pick (eqb (get_or l 0 0) letter_e) (without_step s) (passed s)))
unfolding next_of
unread-after s l e = rw (unread-step s.profile l e, unread-point s.profile l e, unread-edition l e)

module _ (s : Sheet) (k l : List ℕ) (e : body k ≡ none) (f : body l ≡ none) where
  unread-reply : end_of k ≡ end_of l → reply_of s k ≡ reply_of s l
  unread-reply g = unread-length s k e ∙ ap (λ (n : ℕ). malformed s (fault refusal.length n)) g ∙ sym (unread-length s l f)

  unread-next : get_or k 0 0 ≡ get_or l 0 0 → next_of s k ≡ next_of s l
  unread-next g = unread-after s k e ∙ rw g (sym (unread-after s l f))

-- a line that no line feed ends
pub open-length : (s : Sheet) (w : List ℕ) → (get_or w (length w - 1) 0 ≡ line_feed → ⊥) → reply_of s w ≡ reply.Refused s.line refusal.length (min (length w) longest_line)
open-length s w n = unread-length s w (no_body w n) ∙ ap (reply.Refused s.line refusal.length) (end-open w n)

-- ---- of a line over 200 bytes, or left open past 200, the rules see no more than its first 200
module _ (s : Sheet) (w : List ℕ) (n : NoFeed w) (h : longest_line ≤ length w) where
  size : length (take longest_line w) ≡ longest_line
  size = length-take longest_line w ∙ omega arith

  cut-last : get_or (take longest_line w) (length (take longest_line w) - 1) 0 ≡ line_feed → ⊥
  cut-last = no-feed-last (take longest_line w) (no-feed-in longest_line w n)

  cut-body : body (take longest_line w) ≡ none
  cut-body = no_body (take longest_line w) cut-last

  cut-end : end_of (take longest_line w) ≡ min (length w) longest_line
  cut-end = end-open (take longest_line w) cut-last ∙ omega (arith, size)

  head : get_or (take longest_line w) 0 0 ≡ get_or w 0 0
  head = get_or-take longest_line w 0 0 (omega arith)

  over : body (w ++ (line_feed ∷ [])) ≡ none
  over = long-body (w ++ (line_feed ∷ [])) (omega (arith, length-append w (line_feed ∷ [])))

  over-head : get_or (take longest_line w) 0 0 ≡ get_or (w ++ (line_feed ∷ [])) 0 0
  over-head = head ∙ sym (get_or-append w (line_feed ∷ []) 0 0 (omega arith))

  left_open : body w ≡ none
  left_open = no_body w (no-feed-last w n)

  pub cut-reply : reply_of s (take longest_line w) ≡ reply_of s (w ++ (line_feed ∷ []))
  cut-reply = unread-reply s (take longest_line w) (w ++ (line_feed ∷ [])) cut-body over (cut-end ∙ sym (end-fed w))

  pub cut-next : next_of s (take longest_line w) ≡ next_of s (w ++ (line_feed ∷ []))
  cut-next = unread-next s (take longest_line w) (w ++ (line_feed ∷ [])) cut-body over over-head

  pub open-reply : reply_of s (take longest_line w) ≡ reply_of s w
  open-reply = unread-reply s (take longest_line w) w cut-body left_open (cut-end ∙ sym (end-open w (no-feed-last w n)))

  pub open_next : next_of s (take longest_line w) ≡ next_of s w
  open_next = unread-next s (take longest_line w) w cut-body left_open head
