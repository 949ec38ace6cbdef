-- `velocity_grid::text::nodes_fault` meets its contract: between two lines what is left to find is what there was. Assumes nothing.
use borrow.Author.Rules.{rules}
use native.Mathlib.Omega.{arith}
use mathlib.Core.Path.{refl, ◌∙◌}
use Rattle.refusal.proofs.Refusals.{not-none}
use Rattle.velocity_grid.proofs.Exits.{examined-is}
use Rattle.velocity_grid.proofs.Texts as T
use Rattle.velocity_grid.proofs.text.nodes_fault.Goals as goal

pub loop-number-init : goal.loop-number-init
loop-number-init c = T.going _ _ _ c.requires.0

pub slice_bounds-awaited_fault-count : goal.slice_bounds-awaited_fault-count
slice_bounds-awaited_fault-count c = (T.ends _ _ _ c.line_end-end.ensures c.loop-number.invariant.inside).after

pub slice_bounds-awaited_fault-start : goal.slice_bounds-awaited_fault-start
slice_bounds-awaited_fault-start c = let l = T.ends _ _ _ c.line_end-end.ensures c.loop-number.invariant.inside in omega arith

pub slice_bounds-awaited_fault-end : goal.slice_bounds-awaited_fault-end
slice_bounds-awaited_fault-end c = let l = T.ends _ _ _ c.line_end-end.ensures c.loop-number.invariant.inside in omega arith

pub returns-in_err-awaited_fault : goal.returns-in_err-awaited_fault
returns-in_err-awaited_fault c =
    let f = c.in_err-awaited_fault.field-0.0 in
    examined-is c.from_residual.result f c.from_residual.ensures.1
    ∙ T.stops c.loop-number.invariant c.line_end-end.ensures (omega (arith, c.loop-number-test.true)) c.in_err-awaited_fault.ensures (not-none f.refusal)

pub loop-number-preserved : goal.loop-number-preserved
loop-number-preserved c = T.goes_on c.loop-number.invariant c.line_end-end.ensures (omega (arith, c.loop-number-test.true)) c.in_ok-awaited_fault.ensures refl

pub returns-then-from-text : goal.returns-then-from-text
returns-then-from-text c = c.miscounted.ensures ∙ T.over c.loop-number.invariant (omega (arith, c.loop-number.invariant.counted, c.loop-number-test.false)) (omega (arith, c.if-from-text.true))

pub returns : goal.returns
returns c = T.complete c.loop-number.invariant (omega (arith, c.loop-number.invariant.counted, c.loop-number-test.false)) (omega (arith, c.if-from-text.false))
