-- What is promised of a pile holds of its definition. Assumes nothing.
use Prim.Native.Nat.{ℕ, suc}
use mathlib.Core.Path.{◌≡◌, refl, ap, ◌∙◌}
use mathlib.Core.Bool.{Bool, true, false, ◌||◌}
use mathlib.Core.List.{List, [], ◌∷◌}
use lib.Dec.{eqb}
use borrow.Author.Tests.{eqb-true}
use Rattle.refusal.specs.Numbers as refusal
use Rattle.refusal.specs.Order.{pick}
use Rattle.chain.specs.declared.Point.{Point}
use Rattle.chain.specs.Faults.{latest}
use Rattle.line.specs.Answers.{Line}
use Rattle.line.specs.Answers as P
use Rattle.line.specs.Readers.{read_point}
use Rattle.line.specs.Text.{refusal_text}
use Rattle.latest.specs.Pile.{Row, row_of, if_good, goods, is_bad, any_bad, verdict_in, line_text, reply_of}
use Rattle.latest.specs.Promises.{Told, silent, refused, itself, Perm, done, keep, swap, then, Promises}
use Rattle.latest.proofs.Orders.{handed-perm, refused-perm}
use Rattle.latest.proofs.Laws.{no-higher, one-or-refused}

-- ---- what a line prints
reply-is : (ls : List (List ℕ)) (i : ℕ) (l : List ℕ) (r : Line Point) → read_point latest l ≡ r → reply_of ls i l ≡ line_text (any_bad ls) (suc i) (verdict_in ls i l r) l r
unfolding reply_of
reply-is ls i l r e = ap (λ (k : Line Point). line_text (any_bad ls) (suc i) (verdict_in ls i l k) l k) e

told-good : (ls : List (List ℕ)) (i : ℕ) (l : List ℕ) (p : Point) → read_point latest l ≡ P.Good p → (v : ℕ) → verdict_in ls i l (P.Good p) ≡ v
    → (a b c : Bool) → eqb v refusal.same ≡ a → eqb v 1 ≡ b → any_bad ls ≡ c → reply_of ls i l ≡ pick a (refusal_text (suc i) refusal.same 0) (pick b (pick c [] l) []) → Told ls i l
told-good ls i l p e v ev true b c ea eb ec r = refused refusal.same 0 r
told-good ls i l p e v ev false true true ea eb ec r = silent r
told-good ls i l p e v ev false true false ea eb ec r = itself p e ec (ev ∙ eqb-true v 1 eb) r
told-good ls i l p e v ev false false c ea eb ec r = silent r

told-by : (ls : List (List ℕ)) (i : ℕ) (l : List ℕ) (r : Line Point) → read_point latest l ≡ r → Told ls i l
told-by ls i l (P.Malformed f) e = refused f.number f.place (reply-is ls i l (P.Malformed f) e)
told-by ls i l (P.Refused n) e = refused n 0 (reply-is ls i l (P.Refused n) e)
told-by ls i l (P.Good p) e =
    told-good ls i l p e (verdict_in ls i l (P.Good p)) refl (eqb (verdict_in ls i l (P.Good p)) refusal.same) (eqb (verdict_in ls i l (P.Good p)) 1) (any_bad ls) refl refl refl (reply-is ls i l (P.Good p) e)

-- ---- another order of the lines
keep-good : {a b : List Row} (l : List ℕ) (r : Line Point) → Perm a b → Perm (if_good l r a) (if_good l r b)
keep-good l (P.Good p) s = keep (row_of l p) s
keep-good l (P.Malformed f) s = s
keep-good l (P.Refused n) s = s

same_perm : (a : List Row) → Perm a a
same_perm [] = done
same_perm (r ∷ a) = keep r (same_perm a)

swap-good : (l m : List ℕ) (r q : Line Point) (a : List Row) → Perm (if_good l r (if_good m q a)) (if_good m q (if_good l r a))
swap-good l m (P.Good p) (P.Good o) a = swap (row_of l p) (row_of m o)
swap-good l m (P.Good p) (P.Malformed f) a = same_perm (row_of l p ∷ a)
swap-good l m (P.Good p) (P.Refused n) a = same_perm (row_of l p ∷ a)
swap-good l m (P.Malformed f) q a = same_perm (if_good m q a)
swap-good l m (P.Refused n) q a = same_perm (if_good m q a)

goods-perm : {a b : List (List ℕ)} → Perm a b → Perm (goods a) (goods b)
unfolding goods
goods-perm done = done
goods-perm (keep l s) = keep-good l (read_point latest l) (goods-perm s)
goods-perm (swap {a = a} l m) = swap-good l m (read_point latest l) (read_point latest m) (goods a)
goods-perm (then s t) = then (goods-perm s) (goods-perm t)

or_swap : (a b c : Bool) → (a || (b || c)) ≡ (b || (a || c))
or_swap true true c = refl
or_swap true false c = refl
or_swap false true c = refl
or_swap false false c = refl

bad-perm : {a b : List (List ℕ)} → Perm a b → any_bad a ≡ any_bad b
unfolding any_bad
bad-perm done = refl
bad-perm (keep l s) = ap (λ (t : Bool). is_bad (read_point latest l) || t) (bad-perm s)
bad-perm (swap {a = a} l m) = or_swap (is_bad (read_point latest l)) (is_bad (read_point latest m)) (any_bad a)
bad-perm (then s t) = bad-perm s ∙ bad-perm t

pub promises : Promises
promises = record {
  told = λ ls i l. told-by ls i l (read_point latest l) refl;
  none-higher = λ ls i j hi hj e a. no-higher (goods ls) i j hi hj e a;
  one-or-refused = λ ls i h. one-or-refused (goods ls) i h;
  another-order = λ s. record { handed = λ r. handed-perm (goods-perm s) r; refused = λ r. refused-perm (goods-perm s) r; stops = bad-perm s };
}
