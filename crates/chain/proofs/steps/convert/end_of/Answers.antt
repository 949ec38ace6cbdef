-- `chain::steps::convert::end_of` meets its contract. Assumes nothing.
use mathlib.Core.Path.{◌≡◌, sym, ◌∙◌, ap}
use Prim.Native.Nat.{ℕ, suc, ◌-◌}
use native.Mathlib.Omega.{arith}
use lib.ListN.{length, take}
use Rattle.chain.specs.Convert.{end_of}
use Rattle.chain.proofs.AtIndex.{end-at}
use Rattle.chain.proofs.steps.convert.end_of.Lts as lts
use Rattle.chain.proofs.steps.convert.end_of.Reads as reads
use Rattle.chain.proofs.steps.convert.end_of.Goals as goal

abbrev TheStart : Type 0
TheStart = lts.Start reads.Pre reads.Post

long : (s : TheStart) → length s.args.chain.steps ≡ 8
long s = s.well_formed.0.1.1.0.1.0.1

pub returns-then-n-eq0 : goal.returns-then-n-eq0
unfolding end_of
returns-then-n-eq0 c = let s = c in ap (λ (n : ℕ). end_of s.args.r (take n s.args.chain.steps)) (sym c.if-n-eq0.true)

pub returns : goal.returns
returns c =
    let s = c.before.before.before in
    let l = s.args.chain.steps in
    let i = s.args.chain.length - 1 in
    let n : suc i ≡ s.args.chain.length = omega (arith, c.if-n-eq0.false) in
    sym (end-at l i s.args.r (omega (arith, long s, c.if-n-eq0.false))) ∙ ap (λ (k : ℕ). end_of s.args.r (take k l)) n
