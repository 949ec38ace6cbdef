-- The whole call: enough rows for all good lines, the verdicts of the columns are those of the pile, and what is printed is all. Assumes nothing.
use Prim.Native.Nat.{ℕ, ◌+◌, ◌*◌, ◌/◌, ◌≤◌, ◌<◌, min}
use mathlib.Core.Path.{◌≡◌, refl, sym, ap, subst, ◌∙◌}
use mathlib.Core.Logic.{inl, inr}
use mathlib.Core.Bool.{Bool, true, false}
use mathlib.Core.List.{List, ◌++◌}
use native.Mathlib.Omega.{arith}
use lib.ListN.{length, get_or, take, drop, get_or-append}
use lib.Seq.{length-take-le, get_or-take, sets-eq}
use borrow.Author.Tests.{lt-ltb, le-ltb}
use Rattle.std.specs.Prelude.{Some, None}
use Rattle.refusal.specs.Numbers as refusal
use Rattle.line.specs.Lines.{lines}
use Rattle.line.specs.Text.{Wrote, refusal_text}
use Rattle.latest.specs.Pile.{goods, verdict, replies_from, longest_pile, latest_of}
use Rattle.latest.specs.Columns.{rows_of, verdicts_of, prints_from, Gathered}
use Rattle.latest.specs.Call.{rows_for, room_for, rows_in, Enough, Answered}
use Rattle.latest.specs.Promises.{no_row}
use Rattle.latest.proofs.Any.{length-latest, latest-at, length-rows}
use Rattle.latest.proofs.Replies.{replies}
use Rattle.latest.proofs.Room.{pile-fits}

rows_whole : (n : ℕ) → n ≤ longest_pile → rows_for n ≡ n / 18
unfolding rows_for
rows_whole n h = let e : min n longest_pile ≡ n = omega arith in ap (λ (k : ℕ). k / 18) e

module _ (n h l s b o w v : ℕ) (few : n ≤ longest_pile) (enough : rows_for n ≤ rows_in h l s b o w v) where
  least : n / 18 ≤ rows_in h l s b o w v
  least = omega (arith, rows_whole n few, enough)

  -- a row for every 18 bytes
  pub gather-rows : (n / 18 ≤ h) × (n / 18 ≤ l) × (n / 18 ≤ s) × (n / 18 ≤ b)
  gather-rows = (omega (arith, least), omega (arith, least), omega (arith, least), omega (arith, least))

  -- and so for every good line
  pub count-rows : (c : ℕ) → c * 18 ≤ n → (c ≤ h) × (c ≤ l) × (c ≤ s) × (c ≤ b) × (c ≤ o) × (c ≤ w) × (c ≤ v)
  count-rows c k =
      let e : c ≤ n / 18 = omega arith in
      (omega (arith, least), omega (arith, least), omega (arith, least), omega (arith, least), omega (arith, least), omega (arith, least), omega (arith, least))

-- ---- the pile's text
pub latest-long : (x : List ℕ) → longest_pile < length x → latest_of x ≡ refusal_text 0 refusal.long 0
unfolding latest_of
latest-long x h = rw (lt-ltb longest_pile (length x) h)

latest-lines : (x : List ℕ) → length x ≤ longest_pile → latest_of x ≡ replies_from (lines x) 0 (lines x)
unfolding latest_of
latest-lines x h = rw (le-ltb longest_pile (length x) h)

module _ (x h l s b : List ℕ) (count : ℕ) (stop : Bool) (g : Gathered x h l s b count stop) where
  -- how many good lines there are
  pub good-count : count ≤ length h → count ≤ length l → count ≤ length s → count ≤ length b → length (goods (lines x)) ≡ count
  good-count hh hl hs hb =
      let eh = length-take-le count h hh in
      let el = length-take-le count l hl in
      let es = length-take-le count s hs in
      let eb = length-take-le count b hb in
      sym (ap length g.rows) ∙ length-rows x (take count h) (take count l) (take count s) (take count b) (el ∙ sym eh) (es ∙ sym eh) (eb ∙ sym eh) ∙ eh

  -- the first rows of the starts lie inside the pile
  pub starts-inside : count ≤ length h → (i : ℕ) → i < length (take count h) → get_or (take count b) i 0 < length x
  starts-inside hh i k =
      let lt : i < count = omega (arith, length-take-le count h hh) in
      rw (get_or-take count b i 0 lt) (g.inside i lt)

  -- what is printed by the verdicts of the columns
  pub all-printed : (e rest out after : List ℕ) (r : ℕ) → length x ≤ longest_pile → e ≡ verdicts_of (rows_of x (take count h) (take count l) (take count s) (take count b))
      → Wrote out 0 (prints_from stop (e ++ rest) 1 0 (lines x)) after r → Wrote out 0 (latest_of x) after r
  all-printed e rest out after r few is w = rw (latest-lines x few ∙ sym (replies (lines x) stop (e ++ rest) g.bad told)) w
    where
      same : e ≡ verdicts_of (goods (lines x))
      same = is ∙ ap verdicts_of g.rows

      told : (i : ℕ) → i < length (goods (lines x)) → get_or (e ++ rest) i 0 ≡ verdict (goods (lines x)) i (get_or (goods (lines x)) i no_row)
      told i k = get_or-append e rest 0 i (omega (arith, ap length same, length-latest (goods (lines x)))) ∙ ap (λ (z : List ℕ). get_or z i 0) same ∙ latest-at (goods (lines x)) i k

-- ---- the answer
pub answered : (x before after : List ℕ) (rows r : ℕ) → rows_for (length x) ≤ rows → room_for (length x) ≤ length before → Wrote before 0 (latest_of x) after r → Answered x rows before (Some r) after
answered x before after rows r work space w =
    let e : 0 + length (latest_of x) ≡ length (latest_of x) = omega arith in
    let f = pile-fits x in
    inl (record { work = work; space = space }, ap Some (omega (arith, w.place)), w.list ∙ sets-eq (latest_of x) before 0 (omega arith) ∙ ap (λ (k : ℕ). latest_of x ++ drop k before) e)

pub answered-long : (x before after : List ℕ) (rows r : ℕ) → longest_pile < length x → rows_for (length x) ≤ rows → room_for (length x) ≤ length before
    → Wrote before 0 (refusal_text 0 refusal.long 0) after r → Answered x rows before (Some r) after
answered-long x before after rows r h work space w = answered x before after rows r work space (subst (λ (t : List ℕ). Wrote before 0 t after r) (sym (latest-long x h)) w)

pub too_few : (x before : List ℕ) (rows : ℕ) → rows < rows_for (length x) → Answered x rows before None before
too_few x before rows h = inr (λ (f : Enough x rows (length before)). omega (arith, f.work), refl, refl)

pub too-narrow : (x before : List ℕ) (rows : ℕ) → length before < room_for (length x) → Answered x rows before None before
too-narrow x before rows h = inr (λ (f : Enough x rows (length before)). omega (arith, f.space), refl, refl)
