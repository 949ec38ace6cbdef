-- `lot_plan::chain_text::read_chain` meets its contract. Assumes nothing.
use Prim.Native.Nat.{◌-◌}
use mathlib.Core.Path.{◌≡◌, ap}
use native.Mathlib.Omega.{arith}
use lib.ListN.{length}
use mir.Syntax.{w64}
use mir.Val.{to_z, of_z}
use Rattle.line.proofs.Lines.{piece}
use Rattle.refusal.specs.Refusals.{told}
use Rattle.lot_plan.proofs.Laws.{handed-on}
use Rattle.lot_plan.proofs.Text.{Midway, begins, goes_on, stops, ends}
use borrow.Author.Rules.{rules}
use Rattle.lot_plan.proofs.chain_text.read_chain.Goals as goal

pub loop-from-init : goal.loop-from-init
loop-from-init c = begins _ _ c.requires

pub slice_bounds-take_line-count : goal.slice_bounds-take_line-count
slice_bounds-take_line-count c = let l = piece _ _ _ c.line_end-end.ensures (omega arith) in omega arith

pub slice_bounds-take_line-start : goal.slice_bounds-take_line-start
slice_bounds-take_line-start c = let l = piece _ _ _ c.line_end-end.ensures (omega arith) in omega arith

pub slice_bounds-take_line-end : goal.slice_bounds-take_line-end
slice_bounds-take_line-end c = let l = piece _ _ _ c.line_end-end.ensures (omega arith) in omega arith

pub take_line-requires : goal.take_line-requires
take_line-requires c = let l = piece _ _ _ c.line_end-end.ensures (omega arith) in omega (arith, l.some, l.size)

pub returns-in_err-profile : goal.returns-in_err-profile
returns-in_err-profile c =
    rw (handed-on _ _ c.from_residual.ensures.1)
    (stops _ _ _ _ _ _ _ c.line_end-end.ensures (omega (arith, c.loop-from-test.true)) c.take_line.ensures c.loop-from.invariant _
    (ap told c.in_err-profile.was))

pub loop-from-smaller : goal.loop-from-smaller
loop-from-smaller c = let l = piece _ _ _ c.line_end-end.ensures (omega arith) in omega arith

pub loop-from-preserved : goal.loop-from-preserved
loop-from-preserved c =
    let v = c.in_ok-profile.profile in
    let q : to_z w64 (of_z w64 c.in_ok-profile.profile) ≡ c.in_ok-profile.profile = search rules in
    rw q
    (goes_on _ _ _ _ _ _ _ c.line_end-end.ensures (omega (arith, c.loop-from-test.true)) c.take_line.ensures c.loop-from.invariant v
    (ap told c.in_ok-profile.was))

pub returns : goal.returns
returns c = ends _ _ _ _ (omega (arith, c.loop-from-test.false)) c.loop-from.invariant
