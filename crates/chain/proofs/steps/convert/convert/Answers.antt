-- `chain::steps::convert::convert` meets its contract: the chain decides first, then the point, then the walk. Assumes nothing.
use Rattle.std.proofs.Common.{rules, ◌≡◌, Ok, length, get_or, sym, ◌∙◌, ap, arith}
use mathlib.Core.Path.{ap₂}
use lib.IntN.{ℤ}
use Rattle.std.proofs.lemmas.Result.{err_from_is_err_and}
use Rattle.rounding.proofs.Machine.{told}
use Rattle.refusal.specs.Refusals.{number}
use Rattle.refusal.proofs.Refusals.{not-none}
use Rattle.chain.specs.declared.Realization.{Realization}
use Rattle.chain.specs.Faults.{steps_of}
use Rattle.chain.specs.Convert.{moved_to}
use Rattle.chain.proofs.Accepted.{chain-holds, entry}
use Rattle.chain.proofs.AtIndex.{step_past_end, sound-at}
use Rattle.chain.proofs.Answering.{chain-refuses, point-refuses, walk-leaves, walk-ends, ends-are, steps_long, steps_stand}
use Rattle.chain.proofs.steps.convert.convert.Goals as goal

pub returns-in_err-chain_fault : goal.returns-in_err-chain_fault
returns-in_err-chain_fault c =
    let s = c.args in
    let p = err_from_is_err_and c.from_residual.result c.from_residual.ensures.1 in
    rw (p.1, p.2) (chain-refuses s.chain s.direction s.point (number c.in_err-chain_fault.field-0.0) c.in_err-chain_fault.ensures (not-none _))

pub returns-in_err-entry_fault : goal.returns-in_err-entry_fault
returns-in_err-entry_fault c =
    let s = c.args in
    let p = err_from_is_err_and c.from_residual-in_err-entry_fault.result c.from_residual-in_err-entry_fault.ensures.1 in
    let own = ends-are s.direction _ _ _ _ _ c.either.ensures c.start_of-start.ensures c.end_of-end.ensures in
    rw (p.1, p.2) (
    point-refuses s.chain s.direction s.point (sym c.in_ok-chain_fault.ensures) (number c.in_err-entry_fault.field-0.0)
    (c.in_err-entry_fault.ensures ∙ ap₂ (λ (y : ℤ) (r : Realization). entry y s.point r) (told c.struct_told-1.given.1.1.0.1) own)
    (not-none _)
    )

pub walk-requires-clause-sound : goal.walk-requires-clause-sound
walk-requires-clause-sound c i s below there =
    let chain = c.args.chain in
    let holds = chain-holds chain (sym c.in_ok-chain_fault.ensures) in
    let long : length chain.steps ≡ 8 = c.well_formed.0.1.1.0.1.0.1 in
    let is : s ≡ get_or chain.steps i step_past_end = search rules in
    rw is (sound-at chain.steps chain.length i below (omega (arith, long, holds.0)) holds.1)

pub returns-in_err-p : goal.returns-in_err-p
returns-in_err-p c =
    let s = c.args in
    let p = err_from_is_err_and c.from_residual-in_err-p.result c.from_residual-in_err-p.ensures.1 in
    let own = ends-are s.direction _ _ _ _ _ c.either.ensures c.start_of-start.ensures c.end_of-end.ensures in
    let sound = sym c.in_ok-chain_fault.ensures in
    let short = (chain-holds s.chain sound).0 in
    let long : length s.chain.steps ≡ 8 = c.well_formed.0.1.1.0.1.0.1 in
    rw (p.1, p.2) (
    walk-leaves s.chain s.direction s.point sound
    (sym (c.in_ok-entry_fault.ensures ∙ ap₂ (λ (y : ℤ) (r : Realization). entry y s.point r) (told c.struct_told-1.given.1.1.0.1) own))
    (number c.in_err-p.field-0.0)
    (c.in_err-p.ensures (steps_of s.chain) (steps_long s.chain.steps s.chain.length short long) (steps_stand s.chain.steps s.chain.length _ short long (λ i t below there. search rules)))
    )

pub returns : goal.returns
returns c =
    let s = c.args in
    let own = ends-are s.direction _ _ _ _ _ c.either.ensures c.start_of-start.ensures c.end_of-end.ensures in
    let other = ends-are s.direction _ _ _ _ _ c.either-2.ensures c.end_of-end.ensures c.start_of-start.ensures in
    let sound = sym c.in_ok-chain_fault.ensures in
    let short = (chain-holds s.chain sound).0 in
    let long : length s.chain.steps ≡ 8 = c.well_formed.0.1.1.0.1.0.1 in
    ap Ok (c.moved_to.ensures ∙ ap (λ (r : Realization). moved_to s.point r c.in_ok-p.p) other)
    ∙ walk-ends s.chain s.direction s.point sound
    (sym (c.in_ok-entry_fault.ensures ∙ ap₂ (λ (y : ℤ) (r : Realization). entry y s.point r) (told c.struct_told-1.given.1.1.0.1) own))
    c.in_ok-p.p
    (c.in_ok-p.ensures (steps_of s.chain) (steps_long s.chain.steps s.chain.length short long) (steps_stand s.chain.steps s.chain.length _ short long (λ i t below there. search rules)))
