-- The pass that collects the good lines: where it stands between two lines, how it goes on and ends. Assumes nothing.
use Prim.Native.Nat.{ℕ, suc, ◌+◌, ◌*◌, ◌≤◌, ◌<◌}
use mathlib.Core.Path.{◌≡◌, refl, sym, ap, subst, ◌∙◌}
use mathlib.Core.Bool.{Bool, true, false, ◌||◌}
use mathlib.Core.List.{List, [], ◌∷◌, ◌++◌, append_assoc, append-nil}
use native.Mathlib.Omega.{arith}
use lib.ListN.{length, get_or, take, drop, set, length-set}
use lib.Seq.{take-suc-set, length-take-le}
use Rattle.chain.specs.declared.Point.{Point}
use Rattle.chain.specs.Faults.{latest}
use Rattle.line.specs.Answers.{Line}
use Rattle.std.specs.Prelude.{Err}
use Rattle.line.specs.declared.Unread.{Unread}
use Rattle.line.specs.declared.Unread.TheVariants as unread
use Rattle.line.specs.Answers as P
use Rattle.line.specs.Answers.{line_told}
use Rattle.line.specs.Lines.{lines, line_end, line_at}
use Rattle.line.specs.Answers.{PlacedLine}
use Rattle.line.specs.Readers.{read_point, placed_point}
use Rattle.line.proofs.AsWritten.{placed-line, placed_end}
use lib.IntN.{ℤ, nat_abs}
use Rattle.line.proofs.Lines.{piece, line-at, lines_none}
use Rattle.line.proofs.Readers.{point-outcome}
use Rattle.latest.specs.Counts.{stored}
use Rattle.latest.specs.Pile.{Row, row_of, goods, any_bad, is_bad}
use Rattle.latest.specs.Columns.{rows_of, Gathered}

-- where a line that was read ends
pub ended : (y : ℤ) (x : List ℕ) (at : ℕ) {r : PlacedLine} → r ≡ placed_point y x at → r.end ≡ line_end x at
ended y x at e = ap (λ (r : PlacedLine). r.end) e ∙ placed_end y x at

-- and what it was read as
pub read_as : (y : ℤ) (x : List ℕ) (at : ℕ) {r : PlacedLine} → r ≡ placed_point y x at → r.line ≡ read_point y (line_at x at)
read_as y x at e = ap (λ (r : PlacedLine). r.line) e ∙ placed-line y x at

-- a line that is not read is a bad one
pub unread-bad : (u : Unread) → is_bad (line_told {A = Point} (Err u)) ≡ true
unread-bad (unread.Malformed f) = refl
unread-bad (unread.Refused r) = refl

-- one row more at the end of each column
pub rows_more : (x h l s b : List ℕ) (n a c d e : ℕ) → length h ≡ n → length l ≡ n → length s ≡ n → length b ≡ n
    → rows_of x (h ++ (a ∷ [])) (l ++ (c ∷ [])) (s ++ (d ∷ [])) (b ++ (e ∷ [])) ≡ rows_of x h l s b ++ (record { high = a; low = c; issue = d; text = line_at x e } ∷ [])
unfolding rows_of
rows_more x [] [] [] [] n a c d e i j k m = refl
rows_more x [] (y ∷ l) s b n a c d e i j k m = absurd (omega arith)
rows_more x [] [] (y ∷ s) b n a c d e i j k m = absurd (omega arith)
rows_more x [] [] [] (y ∷ b) n a c d e i j k m = absurd (omega arith)
rows_more x (y ∷ h) [] s b n a c d e i j k m = absurd (omega arith)
rows_more x (y ∷ h) (z ∷ l) [] b n a c d e i j k m = absurd (omega arith)
rows_more x (y ∷ h) (z ∷ l) (u ∷ s) [] n a c d e i j k m = absurd (omega arith)
rows_more x (y ∷ h) (z ∷ l) (u ∷ s) (v ∷ b) n a c d e i j k m =
    ap (λ (r : List Row). record { high = y; low = z; issue = u; text = line_at x v } ∷ r)
    (rows_more x h l s b (length h) a c d e refl (omega arith) (omega arith) (omega arith))

-- the line at a place, and those after it
pub next-line : (x : List ℕ) (at e : ℕ) → e ≡ line_end x at → at < length x → lines (drop at x) ≡ line_at x at ∷ lines (drop e x)
next-line x at e q h = (piece x at e q h).others ∙ ap (λ (l : List ℕ). l ∷ lines (drop e x)) (line-at x at e q)

pub goods-good : (l : List ℕ) (ls : List (List ℕ)) (p : Point) → read_point latest l ≡ P.Good p → goods (l ∷ ls) ≡ row_of l p ∷ goods ls
unfolding goods
goods-good l ls p e = rw e

pub goods-bad : (l : List ℕ) (ls : List (List ℕ)) → is_bad (read_point latest l) ≡ true → goods (l ∷ ls) ≡ goods ls
unfolding goods
goods-bad l ls = go (read_point latest l) refl
  where
    go : (r : Line Point) → read_point latest l ≡ r → is_bad (read_point latest l) ≡ true → goods (l ∷ ls) ≡ goods ls
    go (P.Good p) e h = absurd (let z : is_bad (P.Good p) ≡ true = ap is_bad (sym e) ∙ h in let y : ◌≡◌ {A = ℕ} 0 1 = cc in omega arith)
    go (P.Malformed f) e h = rw e
    go (P.Refused n) e h = rw e

pub bad-on : (l : List ℕ) (ls : List (List ℕ)) → any_bad (l ∷ ls) ≡ (is_bad (read_point latest l) || any_bad ls)
unfolding any_bad
bad-on l ls = refl

-- a good line has 18 bytes or more
pub good-long : (l : List ℕ) (p : Point) → read_point latest l ≡ P.Good p → 18 ≤ length l
good-long l p = point-outcome latest (λ (r : Line Point). r ≡ P.Good p → 18 ≤ length l) l (λ q f h e. h)
    (λ f h e. let z : ◌≡◌ {A = ℕ} 0 1 = cc in absurd (omega arith)) (λ n h e. let z : ◌≡◌ {A = ℕ} 0 1 = cc in absurd (omega arith))

or-true : (a b : Bool) → (a || (true || b)) ≡ (true || b)
or-true true b = refl
or-true false b = refl

-- the first `count` rows hold the good lines before place `at`
pub record Gathering (x h₀ l₀ s₀ b₀ h l s b : List ℕ) (count at : ℕ) (stop : Bool) : Type 0 where
  pub at_in : at ≤ length x
  pub few : count * 18 ≤ at
  pub high : length h ≡ length h₀
  pub low : length l ≡ length l₀
  pub issue : length s ≡ length s₀
  pub start : length b ≡ length b₀
  pub rows : goods (lines x) ≡ rows_of x (take count h) (take count l) (take count s) (take count b) ++ goods (lines (drop at x))
  pub bad : any_bad (lines x) ≡ (stop || any_bad (lines (drop at x)))
  pub inside : (i : ℕ) → i < count → get_or b i 0 < length x

pub gathering-none : (x h l s b : List ℕ) → Gathering x h l s b h l s b 0 0 false
unfolding rows_of
gathering-none x h l s b = record {
  at_in = omega arith;
  few = omega arith;
  high = refl;
  low = refl;
  issue = refl;
  start = refl;
  rows = refl;
  bad = refl;
  inside = λ i n. absurd (omega arith);
}

module _ (x h₀ l₀ s₀ b₀ h l s b : List ℕ) (count at e : ℕ) (stop : Bool) (q : e ≡ line_end x at) (some : at < length x) (g : Gathering x h₀ l₀ s₀ b₀ h l s b count at stop) where
  -- there is a row for one good line more
  pub row-left : (p : Point) → read_point latest (line_at x at) ≡ P.Good p → (count + 1) * 18 ≤ e
  row-left p r =
      let w = piece x at e q some in
      let a = good-long (line_at x at) p r in
      omega (arith, w.size, w.some, g.few, ap length (line-at x at e q))

  pub gathering-bad : is_bad (read_point latest (line_at x at)) ≡ true → Gathering x h₀ l₀ s₀ b₀ h l s b count e true
  gathering-bad r =
      let w = piece x at e q some in
      let n = next-line x at e q some in
      record {
        at_in = w.inside;
        few = omega (arith, g.few, w.some);
        high = g.high;
        low = g.low;
        issue = g.issue;
        start = g.start;
        rows = g.rows ∙ ap (λ (ls : List Row). rows_of x (take count h) (take count l) (take count s) (take count b) ++ ls) (ap goods n ∙ goods-bad (line_at x at) (lines (drop e x)) r);
        bad = g.bad ∙ ap (λ (t : Bool). stop || t) (ap any_bad n ∙ bad-on (line_at x at) (lines (drop e x)) ∙ ap (λ (t : Bool). t || any_bad (lines (drop e x))) r) ∙ or-true stop (any_bad (lines (drop e x)));
        inside = g.inside;
      }

  pub gathering-good : (p : Point) → read_point latest (line_at x at) ≡ P.Good p → count < length h → count < length l → count < length s → count < length b
      → Gathering x h₀ l₀ s₀ b₀ (set h count p.label.id.high) (set l count p.label.id.low) (set s count (nat_abs p.label.issue)) (set b count at) (count + 1) e stop
  gathering-good p r kh kl ks kb =
      let w = piece x at e q some in
      let n = next-line x at e q some in
      let one : suc count ≡ count + 1 = omega arith in
      let rest = goods (lines (drop e x)) in
      let old = rows_of x (take count h) (take count l) (take count s) (take count b) in
      let grown : rows_of x (take (suc count) (set h count p.label.id.high)) (take (suc count) (set l count p.label.id.low)) (take (suc count) (set s count (nat_abs p.label.issue))) (take (suc count) (set b count at)) ≡ old ++ (row_of (line_at x at) p ∷ []) =
      rw (take-suc-set h count p.label.id.high kh, take-suc-set l count p.label.id.low kl, take-suc-set s count (nat_abs p.label.issue) ks, take-suc-set b count at kb)
      (rows_more x (take count h) (take count l) (take count s) (take count b) count p.label.id.high p.label.id.low (nat_abs p.label.issue) at
      (length-take-le count h (omega arith)) (length-take-le count l (omega arith)) (length-take-le count s (omega arith)) (length-take-le count b (omega arith))) in
      let all : goods (lines x) ≡ rows_of x (take (suc count) (set h count p.label.id.high)) (take (suc count) (set l count p.label.id.low)) (take (suc count) (set s count (nat_abs p.label.issue))) (take (suc count) (set b count at)) ++ rest =
      g.rows ∙ ap (λ (ls : List Row). old ++ ls) (ap goods n ∙ goods-good (line_at x at) (lines (drop e x)) p r) ∙ sym (append_assoc old (row_of (line_at x at) p ∷ []) rest) ∙ ap (λ (ls : List Row). ls ++ rest) (sym grown) in
      record {
        at_in = w.inside;
        few = row-left p r;
        high = length-set h count p.label.id.high ∙ g.high;
        low = length-set l count p.label.id.low ∙ g.low;
        issue = length-set s count (nat_abs p.label.issue) ∙ g.issue;
        start = length-set b count at ∙ g.start;
        rows = subst (λ (k : ℕ). goods (lines x) ≡ rows_of x (take k (set h count p.label.id.high)) (take k (set l count p.label.id.low)) (take k (set s count (nat_abs p.label.issue))) (take k (set b count at)) ++ rest) one all;
        bad = g.bad ∙ ap (λ (t : Bool). stop || t) (ap any_bad n ∙ bad-on (line_at x at) (lines (drop e x)) ∙ ap (λ (t : Line Point). is_bad t || any_bad (lines (drop e x))) r);
        inside = λ i k. stored b count at kb (λ (y : ℕ). y < length x) i k (λ z. g.inside i z) some;
      }

  -- the same of columns that are known by equations
  pub gathering-put : (h' l' s' b' : List ℕ) (p : Point) → read_point latest (line_at x at) ≡ P.Good p → count < length h → count < length l → count < length s → count < length b
      → h' ≡ set h count p.label.id.high → l' ≡ set l count p.label.id.low → s' ≡ set s count (nat_abs p.label.issue) → b' ≡ set b count at
      → Gathering x h₀ l₀ s₀ b₀ h' l' s' b' (count + 1) e stop
  gathering-put h' l' s' b' p r kh kl ks kb eh el es eb =
      subst (λ (z : List ℕ). Gathering x h₀ l₀ s₀ b₀ z l' s' b' (count + 1) e stop) (sym eh)
      (subst (λ (z : List ℕ). Gathering x h₀ l₀ s₀ b₀ (set h count p.label.id.high) z s' b' (count + 1) e stop) (sym el)
      (subst (λ (z : List ℕ). Gathering x h₀ l₀ s₀ b₀ (set h count p.label.id.high) (set l count p.label.id.low) z b' (count + 1) e stop) (sym es)
      (subst (λ (z : List ℕ). Gathering x h₀ l₀ s₀ b₀ (set h count p.label.id.high) (set l count p.label.id.low) (set s count (nat_abs p.label.issue)) z (count + 1) e stop) (sym eb)
      (gathering-good p r kh kl ks kb))))

or_nothing : (a : Bool) → (a || false) ≡ a
or_nothing true = refl
or_nothing false = refl

none-good : goods [] ≡ []
unfolding goods
none-good = refl

none-bad : any_bad [] ≡ false
unfolding any_bad
none-bad = refl

pub gathered : (x h₀ l₀ s₀ b₀ h l s b : List ℕ) (count at : ℕ) (stop : Bool) → length x ≤ at → Gathering x h₀ l₀ s₀ b₀ h l s b count at stop → Gathered x h l s b count stop
gathered x h₀ l₀ s₀ b₀ h l s b count at stop end g =
    let n = lines_none x at end in
    record {
      rows = sym (g.rows ∙ ap (λ (ls : List (List ℕ)). rows_of x (take count h) (take count l) (take count s) (take count b) ++ goods ls) n ∙ ap (λ (ls : List Row). rows_of x (take count h) (take count l) (take count s) (take count b) ++ ls) none-good ∙ append-nil (rows_of x (take count h) (take count l) (take count s) (take count b)));
      bad = sym (g.bad ∙ ap (λ (ls : List (List ℕ)). stop || any_bad ls) n ∙ ap (λ (t : Bool). stop || t) none-bad ∙ or_nothing stop);
      few = omega (arith, g.few, g.at_in);
      inside = g.inside;
    }
