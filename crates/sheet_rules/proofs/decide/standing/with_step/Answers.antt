-- `sheet_rules::decide::standing::with_step` meets its contract. Assumes nothing.
use mathlib.Core.Path.{◌≡◌}
use mathlib.Core.List.{List}
use Prim.Native.Nat.{ℕ, ◌<◌, ◌≤◌}
use Rattle.chain.specs.declared.Step.{Step}
use native.Mathlib.Omega.{arith}
use mir.Syntax.{w64}
use mir.Val.{to_z, of_z}
use lib.ListN.{length, take, length-take}
use Rattle.sheet_rules.proofs.OneLine.{chain_more}
use borrow.Author.Rules.{rules}
use Rattle.sheet_rules.proofs.decide.standing.with_step.Goals as goal

-- an array's length is what owning the struct tells
few : (steps : List Step) (n : ℕ) → length steps ≡ 8 → n ≤ 8 → length (take n steps) < 8 → n < 8
few steps n long short k = omega (arith, length-take n steps)

pub returns : goal.returns
returns c =
    let a = c.args in
    let e : to_z w64 (of_z w64 a.chain.profile) ≡ a.chain.profile = search rules in
    let long : length a.chain.steps ≡ 8 = c.well_formed.0.1.1.0.1.0.1 in
    rw e (chain_more a.chain a.step (omega (arith, long, few a.chain.steps a.chain.length long c.requires.0 c.requires.1)))
