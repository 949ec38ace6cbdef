-- `line::write::feeds::of_one_ten` meets its contract. Assumes nothing.
use Rattle.std.proofs.Common.{◌≡◌, ℕ, ◌+◌, ◌-◌, ◌%◌, sym, ◌∙◌, arith}
use Rattle.line.proofs.Texts as T
use Rattle.line.proofs.BareLines.{feeds-none, ten-on}
use Rattle.line.proofs.write.feeds.of_one_ten.Goals as goal

pub refusal_of_five-place-requires : goal.refusal_of_five-place-requires
refusal_of_five-place-requires c =
    let k = c.loop-last in
    let p = c.requires in
    (omega (arith, p.1), omega arith, omega (arith, p.2, p.3, k.invariant, c.loop-last-test.true))

pub loop-last-preserved : goal.loop-last-preserved
loop-last-preserved c =
    let call = c.refusal_of_five-place in
    let k = c.loop-last in
    let t = c.loop-last-test.true in
    let first : ℕ = 48 + c.args.line % 10 in
    let left : ℕ = first + c.args.lines - k.last in
    let on = ten-on c.args.line c.args.lines left k.last c.requires.0 c.requires.1 c.requires.2 (omega (arith, t)) (omega (arith, k.invariant.1)) (omega (arith, k.invariant.1, t)) in
    let few : left - 1 ≡ first + c.args.lines - (k.last + 1) = omega (arith, t) in
    let came : c.args.lines - left ≡ k.last - first = omega (arith, k.invariant.1, t) in
    let come : c.args.lines - (first + c.args.lines - (k.last + 1)) ≡ k.last + 1 - first = omega (arith, k.invariant.1, t) in
    let next = rw (few, come, came) at on in
    (k.invariant.0, omega (arith, k.invariant.1), omega (arith, t), call.auto.out ∙ k.invariant.3, omega (arith, k.invariant.1, t, call.ensures.most, k.invariant.4), λ m r g. k.invariant.5 m r (T.says (T.«then» call.ensures.wrote g) next))

pub returns : goal.returns
returns c = let k = c.loop-last in k.invariant.5 _ _ (T.as-text (sym (feeds-none (48 + c.args.line % 10 + c.args.lines - k.last) _ (omega arith))) (T.nothing _ _))
