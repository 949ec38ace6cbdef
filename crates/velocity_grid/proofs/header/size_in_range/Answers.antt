-- `velocity_grid::header::size_in_range` meets its contract: past 2,000 a count leaves no room for the other's 2. Assumes nothing.
use borrow.Author.Rules.{rules}
use borrow.Author.Tests.{not-true, not-false}
use mathlib.Core.Path.{◌≡◌, sym, ◌∙◌, ap, ap₂}
use mathlib.Core.Bool.{true, ◌&&◌}
use native.Mathlib.Omega.{arith}
use lib.IntN.{ℤ, pos, ◌*ℤ◌}
use lib.Signed.{le_z}
use mir.Syntax.{w64}
use mir.Val.{SFits}
use Rattle.ranges.specs.Ranges.{within}
use Rattle.ranges.proofs.Ranges.{both, natural}
use Rattle.rounding.proofs.Zn.{mul-le}
use Rattle.rounding.proofs.Machine.{fits, rd, rd*, fit*}
use Rattle.velocity_grid.proofs.OnGrid.{size_is, sized-by, not-sized}
use Rattle.velocity_grid.proofs.header.size_in_range.Tie as tie
use Rattle.velocity_grid.proofs.header.size_in_range.Lts as lts
use Rattle.velocity_grid.proofs.header.size_in_range.Reads as reads
use Rattle.velocity_grid.proofs.header.size_in_range.Goals as goal

abbrev TheAfterWithin2 : Type 0
TheAfterWithin2 = lts.After-within2 tie.the-claims reads.Pre reads.Post

abbrev TheElse1 : Type 0
TheElse1 = lts.Else1 tie.the-claims reads.Pre reads.Post

abbrev TheStart : Type 0
TheStart = lts.Start tie.the-claims reads.Pre reads.Post

-- the two tests, of the numbers themselves
module _ (c : TheAfterWithin2) where
  abbrev start : TheStart
  start = c.before.before

  tested : (c.within.result && c.within-2.result) ≡ (within (pos 2) start.args.rows (pos 2000) && within (pos 2) start.args.columns (pos 2000))
  tested =
      ap₂ ◌&&◌ (c.within.ensures ∙ ap (λ (z : ℤ). within (pos 2) z (pos 2000)) (rd start.ranges.rows))
      (c.within-2.ensures ∙ ap (λ (z : ℤ). within (pos 2) z (pos 2000)) (rd start.ranges.columns))

pub returns-then-not-within : goal.returns-then-not-within
returns-then-not-within c = let s = start c.before in sym (not-sized s.args.rows s.args.columns (sym (tested c.before) ∙ c.if-not-within.true))

module _ (c : TheElse1) where
  abbrev begun : TheStart
  begun = start c.before

  passed : (within (pos 2) begun.args.rows (pos 2000) ≡ true) × (within (pos 2) begun.args.columns (pos 2000) ≡ true)
  passed = both (within (pos 2) begun.args.rows (pos 2000)) (within (pos 2) begun.args.columns (pos 2000)) (sym (tested c.before) ∙ c.if-not-within.false)

  product : SFits w64 (begun.args.rows *ℤ begun.args.columns)
  product =
      fits 4000000
      (mul-le begun.args.rows begun.args.columns 2000 2000 (size_is (natural 2 begun.args.rows 2000 passed.0)) (size_is (natural 2 begun.args.columns 2000 passed.1)))
      (omega arith)

pub overflow_mul-result : goal.overflow_mul-result
overflow_mul-result c = let s = begun c in fit* (rd s.ranges.rows) (rd s.ranges.columns) (product c)

pub returns : goal.returns
returns c =
    let s = begun c in
    ap (λ (z : ℤ). le_z z (pos 4000)) (rd* (rd s.ranges.rows) (rd s.ranges.columns) (product c)) ∙ sym (sized-by s.args.rows s.args.columns (passed c).0 (passed c).1)
