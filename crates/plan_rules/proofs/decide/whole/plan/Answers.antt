-- `plan_rules::decide::whole::plan` meets its contract. Assumes nothing.
use mathlib.Core.Path.{refl}
use native.Mathlib.Omega.{arith}
use Rattle.line.proofs.Lines.{piece}
use Rattle.line.proofs.BareLines.{row_inside}
use Rattle.listing.proofs.Fold.{printed-long}
use Rattle.listing.proofs.Room.{prints}
use Rattle.listing.proofs.Loop.{starts, goes_on, goes-past, ends}
use Rattle.plan_rules.specs.Plan.{fresh, rules, plan_of}
use Rattle.plan_rules.proofs.Room.{roomy}
use Rattle.plan_rules.proofs.BareLines.{bare, hold-feeds}
use Rattle.plan_rules.proofs.decide.whole.plan.Goals as goal

pub returns-then-input-gt-LONGEST_INPUT : goal.returns-then-input-gt-LONGEST_INPUT
unfolding plan_of
returns-then-input-gt-LONGEST_INPUT c = prints roomy refl (rw (printed-long rules fresh c.args.input.now (omega (arith, c.if-input-gt-LONGEST_INPUT.true))) (rw c.number.ensures at c.write_refusal.ensures))

pub loop-from-init : goal.loop-from-init
loop-from-init c = starts rules _ fresh refl _ _ c.fresh-state.ensures

pub overflow_add-from : goal.overflow_add-from
overflow_add-from c = let l = row_inside c.write_feeds-feeds.result.lines _ c.loop-from.from c.loop-from.invariant.inside c.write_feeds-feeds.ensures.each in record { fits = omega (arith, l, c.if-input-gt-LONGEST_INPUT.false) }

pub loop-from-smaller-then-input-from-eq-LINE_FEED : goal.loop-from-smaller-then-input-from-eq-LINE_FEED
loop-from-smaller-then-input-from-eq-LINE_FEED c = let h = c.write_feeds-feeds.ensures.some (record { inside = omega arith; byte = c.if-input-from-eq-LINE_FEED.true }) in omega arith

pub loop-from-preserved-then-input-from-eq-LINE_FEED : goal.loop-from-preserved-then-input-from-eq-LINE_FEED
loop-from-preserved-then-input-from-eq-LINE_FEED c = goes-past rules _ fresh refl _ _ bare _ (λ s h. (h.line, hold-feeds _ h)) c.write_feeds-feeds.ensures c.loop-from.invariant

pub slice_bounds-decide-count : goal.slice_bounds-decide-count
slice_bounds-decide-count c = let l = piece _ _ _ c.line_end-end.ensures (omega arith) in omega arith

pub slice_bounds-decide-start : goal.slice_bounds-decide-start
slice_bounds-decide-start c = let l = piece _ _ _ c.line_end-end.ensures (omega arith) in omega arith

pub slice_bounds-decide-end : goal.slice_bounds-decide-end
slice_bounds-decide-end c = let l = piece _ _ _ c.line_end-end.ensures (omega arith) in omega arith

pub decide-decided-requires : goal.decide-decided-requires
decide-decided-requires c = let l = piece _ _ _ c.line_end-end.ensures (omega arith) in let k = c.loop-from.invariant in (omega (arith, k.counted, k.held.line, k.inside, c.if-input-gt-LONGEST_INPUT.false), omega (arith, l.some, l.size))

pub loop-from-smaller : goal.loop-from-smaller
loop-from-smaller c = let l = piece _ _ _ c.line_end-end.ensures (omega arith) in omega arith

pub loop-from-preserved : goal.loop-from-preserved
loop-from-preserved c = goes_on rules _ fresh refl _ _ roomy _ _ c.line_end-end.ensures (omega (arith, c.loop-from-test.true)) c.decide-decided.ensures c.write_reply-at.ensures c.loop-from.invariant

pub shape_of-out : goal.shape_of-out
shape_of-out c = c.loop-from.invariant.size

pub returns : goal.returns
unfolding plan_of
returns c = prints roomy refl (ends rules _ fresh refl _ _ (omega (arith, c.if-input-gt-LONGEST_INPUT.false)) (omega arith) c.loop-from.invariant)
