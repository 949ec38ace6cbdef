-- `chain::row::convert_row_numbered` meets its contract: a turn answers one point, by the ready chain, as the chain itself would. Assumes nothing.
use mathlib.Core.Path.{◌≡◌, sym, ◌∙◌, ap}
use native.Mathlib.Omega.{arith}
use borrow.Author.Rules.{rules}
use lib.ListN.{length, get_or}
use Rattle.refusal.specs.Refusals.{number, fault_number}
use Rattle.chain.specs.declared.ReadyChain.{ReadyChain}
use Rattle.chain.specs.PointRow.{convert_of, convert_ready}
use Rattle.chain.proofs.Readying.{ready-converts, ready-made}
use Rattle.chain.proofs.RowLaws.{row-too_few, row-of_bad, row-on, row-all}
use Rattle.chain.proofs.row.convert_row_numbered.Goals as goal

pub returns-then-answers-points : goal.returns-then-answers-points
returns-then-answers-points c = let s = c.args in row-too_few s.chain s.direction s.points.now s.answers.now c.if-answers-points.true

pub returns-in_err-prepare : goal.returns-in_err-prepare
returns-in_err-prepare c =
    let s = c.args in
    let e = c.in_err-prepare.field-0.0 in
    let r = row-of_bad s.chain s.direction s.points.now s.answers.now c.if-answers-points.false e c.in_err-prepare.ensures.0 in
    let told : fault_number c.from_residual.result ≡ number e = search rules in
    (told ∙ r.0, r.1)

pub loop-i-preserved : goal.loop-i-preserved
loop-i-preserved c =
    let s = c.args in
    let k = c.loop-i in
    let w = ready-made s.chain c.in_ok-prepare.ensures.0 (search rules) c.in_ok-prepare.ensures.1 in
    let p = get_or s.points.now k.i _ in
    let by = ap (λ (w : ReadyChain). convert_ready w s.direction p) w in
    let r : c.convert_ready.result ≡ convert_of s.chain s.direction p = c.convert_ready.ensures ∙ by ∙ ready-converts s.chain s.direction p in
    let room = c.if-answers-points.false in
    row-on s.chain s.direction s.points.now s.answers.now room k.i k.answers _ c.convert_ready.result k.invariant r c.loop-i-test.true (omega arith)

pub returns : goal.returns
returns c =
    let s = c.args in
    let k = c.loop-i in
    let good = sym c.in_ok-prepare.ensures.0 in
    let done : k.i ≡ length s.points.now = omega (arith, k.auto.i-end, c.loop-i-test.false) in
    row-all s.chain s.direction s.points.now s.answers.now c.if-answers-points.false k.i k.answers k.invariant done good
