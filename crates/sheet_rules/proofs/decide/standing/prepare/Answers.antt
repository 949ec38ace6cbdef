-- `sheet_rules::decide::standing::prepare` meets its contract. The loop's invariant: the numbers hold the steps so far. Assumes nothing.
use mathlib.Core.Path.{◌≡◌, sym, ◌∙◌}
use mathlib.Core.List.{List}
use Prim.Native.Nat.{ℕ, ◌<◌}
use native.Mathlib.Omega.{arith}
use mir.Syntax.{w64}
use mir.Val.{to_z, of_z}
use lib.ListN.{length, take, length-take}
use lib.Seq.{get_or-take}
use Rattle.refusal.proofs.Refusals.{not-none}
use Rattle.chain.specs.declared.Step.{Step}
use Rattle.sheet_rules.proofs.Preparing.{profile-known, no-profile, told-bad, none-prepared, refused-step, next-step}
use borrow.Author.Rules.{rules}
use Rattle.sheet_rules.proofs.decide.standing.prepare.Goals as goal

-- an index of the chain's steps
within : (steps : List Step) (n i : ℕ) → i < length (take n steps) → i < n
within steps n i h = omega (arith, h, length-take n steps)

pub returns-in_err-profile_fault : goal.returns-in_err-profile_fault
returns-in_err-profile_fault c =
    let y : to_z w64 (of_z w64 c.args.chain.profile) ≡ c.args.chain.profile = search rules in
    told-bad _ _ _ c.from_residual.ensures.0 (no-profile c.args.chain (λ z. not-none _ ((rw y at c.in_err-profile_fault.ensures) ∙ z)) _)

pub loop-step-init : goal.loop-step-init
loop-step-init c =
    let y : to_z w64 (of_z w64 c.args.chain.profile) ≡ c.args.chain.profile = search rules in
    none-prepared c.args.chain.profile c.args.chain.steps _ (profile-known c.args.chain.profile (sym (rw y at c.in_ok-profile_fault.ensures))) c.requires

pub returns-in_err-extend : goal.returns-in_err-extend
returns-in_err-extend c =
    let k = c.loop-step in
    let n = c.args.chain.length in
    let i = within c.args.chain.steps n k.step-index c.loop-step-test.true in
    let long : length c.args.chain.steps ≡ 8 = c.well_formed.0.1.1.0.1.0.1 in
    let y : to_z w64 (of_z w64 c.args.chain.profile) ≡ c.args.chain.profile = search rules in
    told-bad _ _ _ c.from_residual-in_err-extend.ensures.0
    (refused-step c.args.chain c.if-chain-gt8.false long k.numbers k.step-index _ i k.invariant _
    (rw (y, get_or-take n c.args.chain.steps k.step-index _ i) at c.in_err-extend.ensures.0) (not-none _) _)

pub loop-step-preserved : goal.loop-step-preserved
loop-step-preserved c =
    let k = c.loop-step in
    let n = c.args.chain.length in
    let i = within c.args.chain.steps n k.step-index c.loop-step-test.true in
    let long : length c.args.chain.steps ≡ 8 = c.well_formed.0.1.1.0.1.0.1 in
    let y : to_z w64 (of_z w64 c.args.chain.profile) ≡ c.args.chain.profile = search rules in
    let g = c.in_ok-extend.ensures in
    next-step c.args.chain c.if-chain-gt8.false long k.numbers k.step-index _ i k.invariant
    (sym (rw (y, get_or-take n c.args.chain.steps k.step-index _ i) at g.0)) _ (rw (y, get_or-take n c.args.chain.steps k.step-index _ i) at g.1)
