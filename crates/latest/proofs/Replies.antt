-- What the code prints by its columns is what the definition says over all lines. Assumes nothing.
use Prim.Native.Nat.{ℕ, suc, ◌+◌, ◌<◌}
use mathlib.Core.Path.{◌≡◌, refl, sym, ap, ap₂, ◌∙◌}
use mathlib.Core.Bool.{Bool}
use mathlib.Core.List.{List, [], ◌∷◌, ◌++◌, append_assoc}
use native.Mathlib.Omega.{arith}
use lib.ListN.{length, get_or, take, length-append}
use lib.Seq.{take-append_seam}
use Rattle.chain.specs.Faults.{latest}
use Rattle.chain.specs.declared.Point.{Point}
use Rattle.line.specs.Answers.{Line}
use Rattle.line.specs.Answers as P
use Rattle.line.specs.Readers.{read_point}
use Rattle.latest.specs.Pile.{Row, row_of, goods, if_good, any_bad, verdict, good_text, line_text, verdict_in, reply_of, replies_from}
use Rattle.latest.specs.Columns.{row_after, prints_from}
use Rattle.latest.specs.Promises.{no_row}

good-append : (l : List ℕ) (r : Line Point) (a b : List Row) → if_good l r (a ++ b) ≡ if_good l r a ++ b
good-append l (P.Good p) a b = refl
good-append l (P.Malformed f) a b = refl
good-append l (P.Refused n) a b = refl

pub goods-append : (a b : List (List ℕ)) → goods (a ++ b) ≡ goods a ++ goods b
unfolding goods
goods-append [] b = refl
goods-append (l ∷ a) b = ap (if_good l (read_point latest l)) (goods-append a b) ∙ good-append l (read_point latest l) (goods a) (goods b)

pub goods-one : (l : List ℕ) → goods (l ∷ []) ≡ if_good l (read_point latest l) []
unfolding goods
goods-one l = refl

row_more : (l : List ℕ) (r : Line Point) (n : ℕ) → n + length (if_good l r []) ≡ row_after r n
row_more l (P.Good p) n = omega arith
row_more l (P.Malformed f) n = omega arith
row_more l (P.Refused k) n = omega arith

-- what stands at the seam
at-seam : (a : List Row) (r : Row) (b : List Row) → get_or (a ++ r ∷ b) (length a) no_row ≡ r
at-seam [] r b = refl
at-seam (x ∷ a) r b = at-seam a r b

none-good : 0 ≡ length (goods [])
unfolding goods
none-good = refl

module _ (ls : List (List ℕ)) (stop : Bool) (v : List ℕ) (bad : stop ≡ any_bad ls) (told : (i : ℕ) → i < length (goods ls) → get_or v i 0 ≡ verdict (goods ls) i (get_or (goods ls) i no_row)) where
  -- one line: its verdict stands in the row of the good lines before it
  one : (pre rest : List (List ℕ)) (l : List ℕ) → ls ≡ pre ++ l ∷ rest → (r : Line Point) → read_point latest l ≡ r
      → line_text stop (suc (length pre)) (get_or v (length (goods pre)) 0) l r ≡ line_text (any_bad ls) (suc (length pre)) (verdict_in ls (length pre) l r) l r
  one pre rest l e (P.Malformed f) h = refl
  one pre rest l e (P.Refused n) h = refl
  one pre rest l e (P.Good p) h = ap₂ (λ (b : Bool) (k : ℕ). good_text b (suc (length pre)) k l) bad same
    where
      split : goods ls ≡ goods pre ++ row_of l p ∷ goods rest
      split = ap goods e ∙ goods-append pre (l ∷ rest) ∙ ap (λ (rows : List Row). goods pre ++ rows) (goods-append (l ∷ []) rest ∙ ap (λ (rows : List Row). rows ++ goods rest) (goods-one l ∙ ap (λ (r : Line Point). if_good l r []) h))

      before : take (length pre) ls ≡ pre
      before = ap (take (length pre)) e ∙ take-append_seam pre (l ∷ rest)

      here : get_or (goods ls) (length (goods pre)) no_row ≡ row_of l p
      here = ap (λ (rows : List Row). get_or rows (length (goods pre)) no_row) split ∙ at-seam (goods pre) (row_of l p) (goods rest)

      inside : length (goods pre) < length (goods ls)
      inside = omega (arith, ap length split, length-append (goods pre) (row_of l p ∷ goods rest))

      same : get_or v (length (goods pre)) 0 ≡ verdict (goods ls) (length (goods (take (length pre) ls))) (row_of l p)
      same = told (length (goods pre)) inside ∙ ap₂ (λ (i : ℕ) (r : Row). verdict (goods ls) i r) (ap (λ (k : List (List ℕ)). length (goods k)) (sym before)) here

  rest-replies : (pre rest : List (List ℕ)) → ls ≡ pre ++ rest → prints_from stop v (suc (length pre)) (length (goods pre)) rest ≡ replies_from ls (length pre) rest
  unfolding prints_from replies_from reply_of
  rest-replies pre [] e = refl
  rest-replies pre (l ∷ rest) e =
      let long : length (pre ++ l ∷ []) ≡ suc (length pre) = length-append pre (l ∷ []) ∙ (let z : length pre + 1 ≡ suc (length pre) = omega arith in z) in
      let many : length (goods (pre ++ l ∷ [])) ≡ row_after (read_point latest l) (length (goods pre)) =
      ap length (goods-append pre (l ∷ []) ∙ ap (λ (rows : List Row). goods pre ++ rows) (goods-one l)) ∙ length-append (goods pre) (if_good l (read_point latest l) []) ∙ row_more l (read_point latest l) (length (goods pre)) in
      let ih = rest-replies (pre ++ l ∷ []) rest (e ∙ sym (append_assoc pre (l ∷ []) rest)) in
      let on : prints_from stop v (suc (suc (length pre))) (row_after (read_point latest l) (length (goods pre))) rest ≡ replies_from ls (suc (length pre)) rest =
      ap₂ (λ (n k : ℕ). prints_from stop v (suc n) k rest) (sym long) (sym many) ∙ ih ∙ ap (λ (n : ℕ). replies_from ls n rest) long in
      ap₂ (λ (a b : List ℕ). a ++ b) (one pre rest l e (read_point latest l) refl) on

  pub replies : prints_from stop v 1 0 ls ≡ replies_from ls 0 ls
  replies = ap (λ (k : ℕ). prints_from stop v 1 k ls) none-good ∙ rest-replies [] ls refl
