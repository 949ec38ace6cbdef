-- `capi::row::swivelcrane_row` meets its contract: the lengths, what is lent, the chain, and then an answer for each point. Assumes nothing.
use mathlib.Core.Path.{sym, ◌∙◌, ap}
use native.Mathlib.Omega.{arith}
use lib.IntN.{ℤ, pos}
use mir.Syntax.{w64}
use mir.Val.{to_z, of_z}
use Rattle.rounding.proofs.Machine.{told, rd}
use Rattle.chain.specs.PointRow.{ready_chain_of}
use Rattle.chain.proofs.Readying.{ready-fault}
use Rattle.chain.specs.Numbers.{chain_from}
use Rattle.capi.specs.PointRow.{direction_from, direction_range}
use Rattle.capi.proofs.PointRows.{none-is, some-is, too_few, no-way, a-way, unsized, refused-lent, refused-chain, answered}
use Rattle.capi.proofs.row.swivelcrane_row.Goals as goal

pub returns-then-not-are_whole : goal.returns-then-not-are_whole
returns-then-not-are_whole c =
    let s = c.args in
    unsized s.profile s.direction s.chain.now s.points.now s.answers.now (sym c.are_whole.ensures ∙ c.if-not-are_whole.true)

pub returns-then-answers-points : goal.returns-then-answers-points
returns-then-answers-points c =
    let s = c.args in
    let sized = sym c.are_whole.ensures ∙ c.if-not-are_whole.false in
    let lent = too_few s.profile s.direction s.chain.now s.points.now s.answers.now c.if-answers-points.true in
    refused-lent s.profile s.direction s.chain.now s.points.now s.answers.now sized (λ z. omega (arith, lent, z))
    (told c.status.type_inv ∙ c.status.ensures ∙ ap pos (sym lent))

pub returns-in_default : goal.returns-in_default
returns-in_default c =
    let s = c.args in
    let sized = sym c.are_whole.ensures ∙ c.if-not-are_whole.false in
    let range = sym (ap direction_range (rd c.ranges.direction)) ∙ none-is (direction_range (to_z w64 (of_z w64 s.direction))) (direction_from (to_z w64 (of_z w64 s.direction))) (sym c.in_default.is ∙ c.direction_from.ensures) in
    let lent = no-way s.profile s.direction s.chain.now s.points.now s.answers.now c.if-answers-points.false range in
    refused-lent s.profile s.direction s.chain.now s.points.now s.answers.now sized (λ z. omega (arith, lent, z))
    (told c.status-in_default.type_inv ∙ c.status-in_default.ensures ∙ ap pos (sym lent))

pub returns-then-ready-ne0 : goal.returns-then-ready-ne0
returns-then-ready-ne0 c =
    let s = c.args in
    let sized = sym c.are_whole.ensures ∙ c.if-not-are_whole.false in
    let way = some-is (direction_range (to_z w64 (of_z w64 s.direction))) (direction_from (to_z w64 (of_z w64 s.direction))) c.in-Some.direction c.in-Some.ensures in
    let good = a-way s.profile s.direction s.chain.now s.points.now s.answers.now c.if-answers-points.false (sym (ap direction_range (rd c.ranges.direction)) ∙ way.0) in
    let ready = c.ready_chain-ready.ensures ∙ ap ready_chain_of (c.chain_from.ensures ∙ ap (λ (y : ℤ). chain_from y s.chain.now) (rd c.ranges.profile)) in
    refused-chain s.profile s.direction s.chain.now s.points.now s.answers.now sized good
    (ready-fault (chain_from s.profile s.chain.now) ready) c.if-ready-ne0.true (told c.from.type_inv ∙ c.from.ensures)

pub returns : goal.returns
returns c =
    let s = c.args in
    let sized = sym c.are_whole.ensures ∙ c.if-not-are_whole.false in
    let way = some-is (direction_range (to_z w64 (of_z w64 s.direction))) (direction_from (to_z w64 (of_z w64 s.direction))) c.in-Some.direction c.in-Some.ensures in
    let good = a-way s.profile s.direction s.chain.now s.points.now s.answers.now c.if-answers-points.false (sym (ap direction_range (rd c.ranges.direction)) ∙ way.0) in
    let ready = c.ready_chain-ready.ensures ∙ ap ready_chain_of (c.chain_from.ensures ∙ ap (λ (y : ℤ). chain_from y s.chain.now) (rd c.ranges.profile)) in
    answered s.profile s.direction s.chain.now s.points.now s.answers.now sized good
    (sym (ready-fault (chain_from s.profile s.chain.now) ready) ∙ c.if-ready-ne0.false)
    ready (way.1 ∙ ap direction_from (rd c.ranges.direction)) c.put_answers.ensures
