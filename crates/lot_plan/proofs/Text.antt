-- The loop over the lines of a chain's text: where it stands between two lines, how it begins, goes on, stops and ends. Assumes nothing.
use Prim.Native.Nat.{ℕ, ◌-◌, ◌≤◌, ◌<◌}
use mathlib.Core.Path.{◌≡◌, refl, sym, ap, ◌∙◌}
use mathlib.Core.Bool.{Bool, true, false}
use mathlib.Core.List.{List, [], ◌∷◌}
use lib.Dec.{eqb}
use lib.IntN.{ℤ}
use lib.ListN.{length, take, drop}
use native.Mathlib.Omega.{arith}
use borrow.Author.Tests.{ne_eqb}
use Rattle.chain.specs.declared.Step.{Step}
use Rattle.chain.specs.Faults.{latest}
use Rattle.chain.specs.Prepared.{Holds}
use Rattle.line.specs.Lines.{lines, line_end}
use Rattle.line.proofs.Lines.{piece, lines_none}
use Rattle.std.proofs.Common.{Result, Ok, Err}
use Rattle.lot_plan.specs.LotPlan.{Chained, chain, refused, with_line, with_lines, chain_text}
use Rattle.lot_plan.specs.Reading.{Took}

-- the loop stands at byte `from`: the numbers hold the steps so far, and what is left of the text after them makes the whole. On line 1 there is no step yet
pub record Midway (text : List ℕ) (y : ℤ) (numbers : List ℤ) (from : ℕ) : Type 0 where
  pub steps : List Step
  pub holds : Holds y numbers steps
  pub left : with_lines (eqb from 0) y steps (lines (drop from text)) ≡ chain_text text
  pub inside : from ≤ length text
  pub none : eqb from 0 ≡ true → steps ≡ []

pub begins : (text : List ℕ) (numbers : List ℤ) → Holds latest numbers [] → Midway text latest numbers 0
unfolding chain_text
begins text numbers h = record { steps = []; holds = h; left = refl; inside = omega arith; none = λ _. refl }

-- at the end of the text
nothing_left : (text : List ℕ) (y : ℤ) (numbers : List ℤ) (from : ℕ) → length text ≤ from → (k : Midway text y numbers from)
    → chain y k.steps ≡ chain_text text
unfolding with_lines
nothing_left text y numbers from h k = ap (with_lines (eqb from 0) y k.steps) (sym (lines_none text from h)) ∙ k.left

pub ends : (text : List ℕ) (y : ℤ) (numbers : List ℤ) (from : ℕ) → length text ≤ from → Midway text y numbers from → Took (chain_text text) numbers (Ok y)
ends text y numbers from h k = rw (sym (nothing_left text y numbers from h k)) (refl, k.holds)

-- a line of the text
module _ (isFirst : Bool) (y : ℤ) (ss : List Step) (l : List ℕ) (ls : List (List ℕ)) where
  pub on : (z : ℤ) (ts : List Step) → with_line isFirst y ss l ≡ chain z ts → with_lines isFirst y ss (l ∷ ls) ≡ with_lines false z ts ls
  unfolding with_lines
  on z ts e = rw e

  pub stop : (n : ℕ) → with_line isFirst y ss l ≡ refused n → with_lines isFirst y ss (l ∷ ls) ≡ refused n
  unfolding with_lines
  stop n e = rw e

never : false ≡ true → ⊥
never e = let z : ◌≡◌ {A = ℕ} 0 1 = cc in omega arith

no_number : (n : ℕ) (y : ℤ) → (◌≡◌ {A = Result ℤ ℕ} (Err n) (Ok y)) → ⊥
no_number n y e = let z : ◌≡◌ {A = ℕ} 0 1 = cc in omega arith

-- ---- what was read, and what it says of the text
pub record Found (said : Chained) (y : ℤ) (numbers : List ℤ) : Type 0 where
  pub steps : List Step
  pub is : said ≡ chain y steps
  pub holds : Holds y numbers steps

pub found : (said : Chained) (numbers : List ℤ) (r : Result ℤ ℕ) (y : ℤ) → Took said numbers r → r ≡ Ok y → Found said y numbers
found (chain v ss) numbers r y t q =
    let e : v ≡ y = cc t.0 in
    record { steps = ss; is = rw e; holds = rw e at t.1 }
found (refused n) numbers r y t q = absurd (no_number n y (sym t ∙ q))

pub missed : (said : Chained) (numbers : List ℤ) (r : Result ℤ ℕ) (n : ℕ) → Took said numbers r → r ≡ Err n → said ≡ refused n
missed (chain v ss) numbers r n t q = absurd (no_number n v (sym q ∙ t.0))
missed (refused m) numbers r n t q = cc

-- ---- a turn of the loop
module _ (text : List ℕ) (y : ℤ) (before after : List ℤ) (from e : ℕ) (r : Result ℤ ℕ)
    (ended : e ≡ line_end text from) (more : from < length text)
    (taken : (ss : List Step) → (eqb from 0 ≡ true → ss ≡ []) → Holds y before ss
    → Took (with_line (eqb from 0) y ss (take (e - from) (drop from text))) after r)
    (k : Midway text y before from) where
  abbrev line : List ℕ
  line = take (e - from) (drop from text)

  abbrev said : Chained
  said = with_line (eqb from 0) y k.steps line

  -- what is left from this line on
  here : with_lines (eqb from 0) y k.steps (line ∷ lines (drop e text)) ≡ chain_text text
  here = ap (with_lines (eqb from 0) y k.steps) (sym (piece text from e ended more).others) ∙ k.left

  pub goes_on : (z : ℤ) → r ≡ Ok z → Midway text z after e
  goes_on z q =
      let f = found said after r z (taken k.steps k.none k.holds) q in
      let l = piece text from e ended more in
      let later = ne_eqb e 0 (λ o. omega (arith, o, l.some)) in
      record {
        steps = f.steps;
        holds = f.holds;
        left = rw later (sym (on (eqb from 0) y k.steps line (lines (drop e text)) z f.steps f.is) ∙ here);
        inside = l.inside;
        none = λ o. absurd (never (sym later ∙ o));
      }

  pub stops : (n : ℕ) → r ≡ Err n → Took (chain_text text) after (Err n)
  stops n q =
      let m = missed said after r n (taken k.steps k.none k.holds) q in
      rw (sym (sym (stop (eqb from 0) y k.steps line (lines (drop e text)) n m) ∙ here)) refl
