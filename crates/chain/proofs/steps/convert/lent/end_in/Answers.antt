-- `chain::steps::convert::lent::end_in` meets its contract. Assumes nothing.
use mathlib.Core.Path.{◌≡◌, sym, ◌∙◌, ap}
use Prim.Native.Nat.{ℕ, suc, ◌-◌, ◌/◌}
use native.Mathlib.Omega.{arith}
use lib.ListN.{length, take}
use Rattle.chain.specs.Convert.{end_of}
use Rattle.chain.specs.Numbers.{eight_from}
use Rattle.chain.proofs.LentSteps.{ends_at}
use Rattle.chain.proofs.steps.convert.lent.end_in.Goals as goal

pub returns-then-n-eq0 : goal.returns-then-n-eq0
unfolding end_of
returns-then-n-eq0 c = let s = c.args in ap (λ (n : ℕ). end_of s.r (take n (eight_from s.steps.now))) (sym c.if-n-eq0.true)

pub returns : goal.returns
returns c =
    let s = c in
    let n = length s.args.steps.now / 13 in
    let last : n ≡ suc (n - 1) = omega (arith, c.if-n-eq0.false) in
    c.after_at.ensures ∙ sym (ends_at s.args.steps.now s.args.r s.requires (n - 1) last)
