-- The pass that prints: where it stands between two lines, how it goes on and ends. Assumes nothing.
use Prim.Native.Nat.{ℕ, suc, ◌+◌, ◌≤◌, ◌<◌}
use mathlib.Core.Path.{◌≡◌, refl, sym, ap, subst, ◌∙◌}
use mathlib.Core.Bool.{Bool}
use mathlib.Core.List.{List, [], ◌∷◌, ◌++◌}
use native.Mathlib.Omega.{arith}
use lib.ListN.{length, get_or, drop}
use Rattle.chain.specs.Faults.{latest}
use Rattle.line.specs.Answers.{Line}
use Rattle.line.specs.Answers as P
use Rattle.line.specs.Lines.{lines, line_end, line_at}
use Rattle.line.specs.Readers.{read_point}
use Rattle.chain.specs.declared.Point.{Point}
use Rattle.line.specs.Answers.{Fault}
use Rattle.line.proofs.AsWritten.{point-text}
use Rattle.line.specs.Text.{Wrote, point_text, refusal_text}
use Rattle.line.proofs.Lines.{piece, lines_none}
use Rattle.line.proofs.Texts.{«then», nothing, same_size}
use Rattle.latest.specs.Pile.{Row, goods, if_good, good_text, line_text}
use Rattle.latest.specs.Columns.{row_after, prints_from}
use Rattle.latest.proofs.Gathering.{next-line}

-- once what is left from byte `from` on is written, the whole is
pub record Printing (x v : List ℕ) (stop : Bool) (out₀ out : List ℕ) (at from number row : ℕ) : Type 0 where
  pub inside : from ≤ length x
  pub counted : number ≤ from + 1
  pub rows : row + length (goods (lines (drop from x))) ≤ length v
  pub size : length out ≡ length out₀
  pub left : (m : List ℕ) (t : ℕ) → Wrote out at (prints_from stop v number row (lines (drop from x))) m t → Wrote out₀ 0 (prints_from stop v 1 0 (lines x)) m t

module _ (x v : List ℕ) (stop : Bool) (out₀ : List ℕ) where
  pub printing-none : length (goods (lines x)) ≤ length v → Printing x v stop out₀ out₀ 0 0 1 0
  printing-none h = record { inside = omega arith; counted = omega arith; rows = omega arith; size = refl; left = λ m t w. w }

  prints-on : (n r : ℕ) (l : List ℕ) (ls : List (List ℕ)) → prints_from stop v n r (l ∷ ls) ≡ line_text stop n (get_or v r 0) l (read_point latest l) ++ prints_from stop v (suc n) (row_after (read_point latest l) r) ls
  unfolding prints_from
  prints-on n r l ls = refl

  good-count : (l : List ℕ) (r : Line Point) (row : ℕ) (rows : List Row) → row_after r row + length rows ≡ row + length (if_good l r rows)
  good-count l (P.Good p) row rows = omega arith
  good-count l (P.Malformed f) row rows = refl
  good-count l (P.Refused n) row rows = refl

  goods-on : (l : List ℕ) (ls : List (List ℕ)) → goods (l ∷ ls) ≡ if_good l (read_point latest l) (goods ls)
  unfolding goods
  goods-on l ls = refl

  module _ (out : List ℕ) (at from number row e : ℕ) (q : e ≡ line_end x from) (some : from < length x) (g : Printing x v stop out₀ out at from number row) where
    -- past a line whose text was written
    pub printing-on : (out' : List ℕ) (at' row' : ℕ) → row' ≡ row_after (read_point latest (line_at x from)) row
        → Wrote out at (line_text stop number (get_or v row 0) (line_at x from) (read_point latest (line_at x from))) out' at' → Printing x v stop out₀ out' at' e (number + 1) row'
    printing-on out' at' row' er w =
        let i = piece x from e q some in
        let n = next-line x from e q some in
        let one : suc number ≡ number + 1 = omega arith in
        let c = good-count (line_at x from) (read_point latest (line_at x from)) row (goods (lines (drop e x))) in
        let d : length (goods (lines (drop from x))) ≡ length (if_good (line_at x from) (read_point latest (line_at x from)) (goods (lines (drop e x)))) = ap (λ (ls : List (List ℕ)). length (goods ls)) n ∙ ap length (goods-on (line_at x from) (lines (drop e x))) in
        record {
          inside = i.inside;
          counted = omega (arith, g.counted, i.some);
          rows = omega (arith, c, d, er, g.rows);
          size = same_size w ∙ g.size;
          left = λ m t y.
              let z : Wrote out' at' (prints_from stop v (suc number) (row_after (read_point latest (line_at x from)) row) (lines (drop e x))) m t =
              subst (λ (k : ℕ). Wrote out' at' (prints_from stop v k (row_after (read_point latest (line_at x from)) row) (lines (drop e x))) m t) (sym one)
              (subst (λ (k : ℕ). Wrote out' at' (prints_from stop v (number + 1) k (lines (drop e x))) m t) er y) in
              g.left m t (subst (λ (text : List ℕ). Wrote out at text m t)
              (sym (ap (prints_from stop v number row) n ∙ prints-on number row (line_at x from) (lines (drop e x)))) («then» w z));
        }

    -- a good line that was written from its point, and the two kinds of bad ones
    pub printing-good : (p : Point) → read_point latest (line_at x from) ≡ P.Good p → (out' : List ℕ) (at' : ℕ)
        → Wrote out at (good_text stop number (get_or v row 0) (point_text p)) out' at' → Printing x v stop out₀ out' at' e (number + 1) (row + 1)
    printing-good p r out' at' w =
        let one : row + 1 ≡ suc row = omega arith in
        printing-on out' at' (row + 1) (one ∙ sym (ap (λ (k : Line Point). row_after k row) r))
        (subst (λ (k : Line Point). Wrote out at (line_text stop number (get_or v row 0) (line_at x from) k) out' at') (sym r)
        (subst (λ (l : List ℕ). Wrote out at (good_text stop number (get_or v row 0) l) out' at') (sym (point-text latest (line_at x from) p r)) w))

    pub printing-malformed : (f : Fault) → read_point latest (line_at x from) ≡ P.Malformed f → (out' : List ℕ) (at' : ℕ)
        → Wrote out at (refusal_text number f.number f.place) out' at' → Printing x v stop out₀ out' at' e (number + 1) row
    printing-malformed f r out' at' w =
        printing-on out' at' row (sym (ap (λ (k : Line Point). row_after k row) r))
        (subst (λ (k : Line Point). Wrote out at (line_text stop number (get_or v row 0) (line_at x from) k) out' at') (sym r) w)

    pub printing-refused : (n : ℕ) → read_point latest (line_at x from) ≡ P.Refused n → (out' : List ℕ) (at' : ℕ)
        → Wrote out at (refusal_text number n 0) out' at' → Printing x v stop out₀ out' at' e (number + 1) row
    printing-refused n r out' at' w =
        printing-on out' at' row (sym (ap (λ (k : Line Point). row_after k row) r))
        (subst (λ (k : Line Point). Wrote out at (line_text stop number (get_or v row 0) (line_at x from) k) out' at') (sym r) w)

    -- a good line has its verdict
    pub row_inside : row_after (read_point latest (line_at x from)) row ≡ suc row → row < length v
    row_inside er =
        let n = next-line x from e q some in
        let c = good-count (line_at x from) (read_point latest (line_at x from)) row (goods (lines (drop e x))) in
        let d : length (goods (lines (drop from x))) ≡ length (if_good (line_at x from) (read_point latest (line_at x from)) (goods (lines (drop e x)))) = ap (λ (ls : List (List ℕ)). length (goods ls)) n ∙ ap length (goods-on (line_at x from) (lines (drop e x))) in
        omega (arith, c, d, er, g.rows)

  prints-none : (n r : ℕ) → prints_from stop v n r [] ≡ []
  unfolding prints_from
  prints-none n r = refl

  pub printing-all : (out : List ℕ) (at from number row : ℕ) → length x ≤ from → Printing x v stop out₀ out at from number row → Wrote out₀ 0 (prints_from stop v 1 0 (lines x)) out at
  printing-all out at from number row end g =
      g.left out at (subst (λ (text : List ℕ). Wrote out at text out at) (sym (ap (prints_from stop v number row) (lines_none x from end) ∙ prints-none number row)) (nothing out at))
