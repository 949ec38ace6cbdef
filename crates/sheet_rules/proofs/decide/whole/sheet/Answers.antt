-- `sheet_rules::decide::whole::sheet` meets its contract. Assumes nothing.
use Prim.Native.Nat.{ℕ, ◌-◌, ◌<◌}
use mathlib.Core.Path.{◌≡◌, refl, ap, ◌∙◌}
use mathlib.Core.List.{List}
use lib.IntN.{ℤ}
use native.Mathlib.Omega.{arith}
use lib.Dec.{eqb}
use lib.ListN.{get_or, take, drop}
use lib.Seq.{get_or-take, get_or-drop}
use mathlib.Core.Bool.{true}
use mir.Syntax.{w64}
use mir.Val.{to_z, of_z}
use native.Mathlib.Nat.{add-zero}
use borrow.Author.Tests.{eq-eqb}
use Rattle.line.specs.declared.PlacedLine as placed
use Rattle.line.specs.Answers.{PlacedLine, placed_told}
use Rattle.line.specs.Lines.{line_end}
use Rattle.line.specs.Readers.{placed_point}
use Rattle.line.proofs.AsWritten.{placed-read, placed_end}
use Rattle.line.proofs.Lines.{piece}
use Rattle.line.proofs.BareLines.{row_inside}
use Rattle.listing.proofs.Fold.{printed-long}
use Rattle.listing.proofs.Room.{prints}
use Rattle.listing.proofs.Loop.{starts, goes-printed, goes_on, goes-past, ends}
use Rattle.sheet_rules.specs.Sheet.{fresh, rules, sheet_of}
use Rattle.sheet_rules.proofs.Laws.{point-line-shown}
use Rattle.sheet_rules.proofs.Room.{roomy}
use Rattle.sheet_rules.proofs.BareLines.{bare, hold-feeds}
use borrow.Author.Rules.{rules as std_rules}
use Rattle.sheet_rules.proofs.decide.whole.sheet.Goals as goal

-- where a line that was read ends
ended : (y : ℤ) (input : List ℕ) (from : ℕ) (r : placed.PlacedLine) → placed_told r ≡ placed_point y input from → r.end ≡ line_end input from
ended y input from r e = ap (λ (r : PlacedLine). r.end) e ∙ placed_end y input from

-- the first byte of a line, in the input
first_byte : (input : List ℕ) (from e : ℕ) {b : ℕ} → from < e → get_or input from 0 ≡ b → eqb (get_or (take (e - from) (drop from input)) 0 0) b ≡ true
first_byte input from e h q =
    eq-eqb _ _ (get_or-take (e - from) (drop from input) 0 0 (omega arith) ∙ get_or-drop from input 0 0 ∙ ap (λ (i : ℕ). get_or input i 0) (add-zero from) ∙ q)

pub returns-then-input-gt-LONGEST_INPUT : goal.returns-then-input-gt-LONGEST_INPUT
unfolding sheet_of
returns-then-input-gt-LONGEST_INPUT c =
    prints roomy refl (rw (printed-long rules fresh c.args.input.now (omega (arith, c.if-input-gt-LONGEST_INPUT.true))) (rw c.number.ensures at c.write_refusal.ensures))

pub loop-from-init : goal.loop-from-init
loop-from-init c = starts rules _ fresh refl _ _ c.fresh-state.ensures

pub passed-state-requires : goal.passed-state-requires
passed-state-requires c =
    let k = c.loop-from.invariant in
    let l = row_inside c.write_feeds-feeds.result.lines _ c.loop-from.from c.loop-from.invariant.inside c.write_feeds-feeds.ensures.each in
    omega (arith, l, k.counted, k.held.line, c.if-input-gt-LONGEST_INPUT.false)

pub print_point-done-requires : goal.print_point-done-requires
print_point-done-requires c =
    let k = c.loop-from.invariant in
    let r = placed-read _ _ _ c.read_placed-read.ensures in
    let profile : to_z w64 (of_z w64 c.loop-from.state.profile) ≡ c.loop-from.state.profile = search std_rules in
    (omega (arith, k.counted, k.held.line, c.if-input-gt-LONGEST_INPUT.false), rw profile at r.0, r.1)

pub decide-decided-requires : goal.decide-decided-requires
decide-decided-requires c =
    let k = c.loop-from.invariant in
    omega (arith, k.counted, k.held.line, c.if-input-gt-LONGEST_INPUT.false)

pub overflow_add-from : goal.overflow_add-from
overflow_add-from c =
    let l = row_inside c.write_feeds-feeds.result.lines _ c.loop-from.from c.loop-from.invariant.inside c.write_feeds-feeds.ensures.each in
    record { fits = omega (arith, l, c.if-input-gt-LONGEST_INPUT.false) }

pub loop-from-smaller-then-input-from-eq-LINE_FEED : goal.loop-from-smaller-then-input-from-eq-LINE_FEED
loop-from-smaller-then-input-from-eq-LINE_FEED c =
    let h = c.write_feeds-feeds.ensures.some (record { inside = omega arith; byte = c.if-input-from-eq-LINE_FEED.true }) in omega arith

pub loop-from-preserved-then-input-from-eq-LINE_FEED : goal.loop-from-preserved-then-input-from-eq-LINE_FEED
loop-from-preserved-then-input-from-eq-LINE_FEED c =
    goes-past rules _ fresh refl _ _ bare _ (λ s h. (h.line, rw c.passed-state.ensures (hold-feeds _ h))) c.write_feeds-feeds.ensures c.loop-from.invariant

pub slice_bounds-print_point-count : goal.slice_bounds-print_point-count
slice_bounds-print_point-count c = let l = piece _ _ _ (ended _ _ _ _ c.read_placed-read.ensures) (omega arith) in omega arith

pub slice_bounds-print_point-start : goal.slice_bounds-print_point-start
slice_bounds-print_point-start c = let l = piece _ _ _ (ended _ _ _ _ c.read_placed-read.ensures) (omega arith) in omega arith

pub slice_bounds-print_point-end : goal.slice_bounds-print_point-end
slice_bounds-print_point-end c = let l = piece _ _ _ (ended _ _ _ _ c.read_placed-read.ensures) (omega arith) in omega arith

pub loop-from-smaller-then-input-from-eq80 : goal.loop-from-smaller-then-input-from-eq80
loop-from-smaller-then-input-from-eq80 c = let l = piece _ _ _ (ended _ _ _ _ c.read_placed-read.ensures) (omega arith) in omega arith

pub loop-from-preserved-then-input-from-eq80 : goal.loop-from-preserved-then-input-from-eq80
loop-from-preserved-then-input-from-eq80 c =
    let c7 = c in
    let e = ended _ _ _ _ c7.read_placed-read.ensures in
    let h = c7.loop-from-test.true in
    let l = piece _ _ _ e h in
    goes-printed rules _ fresh refl _ _ roomy _ e h
    (λ s i. point-line-shown s _ (first_byte _ _ _ l.some c7.if-input-from-eq80.true) (c.print_point-done.ensures s i)) c7.loop-from.invariant

pub slice_bounds-decide-count : goal.slice_bounds-decide-count
slice_bounds-decide-count c = let l = piece _ _ _ c.line_end-end.ensures (omega arith) in omega arith

pub slice_bounds-decide-start : goal.slice_bounds-decide-start
slice_bounds-decide-start c = let l = piece _ _ _ c.line_end-end.ensures (omega arith) in omega arith

pub slice_bounds-decide-end : goal.slice_bounds-decide-end
slice_bounds-decide-end c = let l = piece _ _ _ c.line_end-end.ensures (omega arith) in omega arith

pub loop-from-smaller : goal.loop-from-smaller
loop-from-smaller c = let l = piece _ _ _ c.line_end-end.ensures (omega arith) in omega arith

pub loop-from-preserved : goal.loop-from-preserved
loop-from-preserved c =
    goes_on rules _ fresh refl _ _ roomy _ _ c.line_end-end.ensures (omega (arith, c.loop-from-test.true))
    (λ s h. let g = c.decide-decided.ensures s h in (g.reply, g.holds)) c.write_reply-at.ensures c.loop-from.invariant

pub shape_of-out : goal.shape_of-out
shape_of-out c = c.loop-from.invariant.size

pub returns : goal.returns
unfolding sheet_of
returns c = prints roomy refl (ends rules _ fresh refl _ _ (omega (arith, c.if-input-gt-LONGEST_INPUT.false)) (omega arith) c.loop-from.invariant)
