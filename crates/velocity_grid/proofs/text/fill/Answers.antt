-- `velocity_grid::text::fill` meets its contract: what is put in, with what is still to come, is the whole. Assumes nothing.
use borrow.Author.Rules.{rules}
use native.Mathlib.Omega.{arith}
use Prim.Native.Nat.{◌-◌}
use mathlib.Core.Path.{◌∙◌}
use lib.ListN.{length}
use Rattle.line.proofs.Lines.{piece}
use Rattle.velocity_grid.proofs.Texts as T
use Rattle.velocity_grid.proofs.text.fill.Goals as goal

pub loop-from-init : goal.loop-from-init
loop-from-init c = T.filling _ _ _ c.requires.0 c.requires.1

pub slice_bounds-put_node-count : goal.slice_bounds-put_node-count
slice_bounds-put_node-count c = (T.ends _ _ _ c.line_end-end.ensures c.loop-from.invariant.inside).after

pub slice_bounds-put_node-start : goal.slice_bounds-put_node-start
slice_bounds-put_node-start c = let l = T.ends _ _ _ c.line_end-end.ensures c.loop-from.invariant.inside in omega arith

pub slice_bounds-put_node-end : goal.slice_bounds-put_node-end
slice_bounds-put_node-end c = let l = T.ends _ _ _ c.line_end-end.ensures c.loop-from.invariant.inside in omega arith

pub put_node-requires : goal.put_node-requires
put_node-requires c = T.fits c.loop-from.invariant c.line_end-end.ensures (omega (arith, c.loop-from-test.true))

pub overflow_add-at : goal.overflow_add-at
overflow_add-at c = record { fits = omega (arith, T.fits c.loop-from.invariant c.line_end-end.ensures (omega (arith, c.loop-from-test.true))) }

pub loop-from-smaller : goal.loop-from-smaller
loop-from-smaller c = let p = piece _ _ _ c.line_end-end.ensures (omega (arith, c.loop-from-test.true)) in omega (arith, p.some, p.inside)

pub loop-from-preserved : goal.loop-from-preserved
loop-from-preserved c = T.filling-on c.loop-from.invariant c.line_end-end.ensures (omega (arith, c.loop-from-test.true)) c.put_node.ensures

pub returns : goal.returns
returns c = T.filled c.loop-from.invariant (omega (arith, c.loop-from-test.false))
