use Rattle.std.proofs.Common.{refl, ap, ◌≡◌, ◌∙◌, arith}
use mathlib.Core.Path.{subst⁻¹}
use lib.Dec.{lit≤}
use Rattle.chain.specs.declared.Position.{Position}
use Rattle.chain.specs.Parts.{minus}
use Rattle.chain.specs.Axes.{Small}
use Rattle.chain.proofs.StepLaws.{small-le}
use Rattle.chain.specs.Ways.{turns}
use Rattle.chain.proofs.Ways.{minus-small, forward-is, turn-is}
use Rattle.chain.proofs.steps.moved_by.Goals as goal

pub returns-in-Forward : goal.returns-in-Forward
returns-in-Forward g c t h = rw c.in-Forward.is (forward-is t c.args.p c.gain.result _ (h _ _ (small-le (lit≤ tt) c.requires.near) c.gain.ensures) c.plus.ensures)

pub loop-turn-init : goal.loop-turn-init
loop-turn-init g c = record { near = small-le (lit≤ tt) c.requires.near; same = λ t h. refl }

pub gain-requires-in-loop-turn : goal.gain-requires-in-loop-turn
gain-requires-in-loop-turn g c = c.requires.callable _ c.loop-turn.invariant.near

pub minus-candidate-requires : goal.minus-candidate-requires
minus-candidate-requires g c = (small-le (lit≤ tt) c.requires.near, c.requires.small _ _ c.loop-turn.invariant.near c.gain-in-loop-turn.ensures)

pub loop-turn-preserved : goal.loop-turn-preserved
loop-turn-preserved g c =
    let at = c.loop-turn in
    let gained = c.gain-in-loop-turn in
    let q = c.args.p in
    record {
      near = subst⁻¹ (λ (r : Position). Small 650000000000 r) {y = minus q gained.result} c.minus-candidate.ensures
          (minus-small q gained.result c.requires.near (c.requires.small _ _ at.invariant.near gained.ensures));
      same = λ t h. turn-is t q at.candidate gained.result _ at._turn _ (at.invariant.same t h) (h _ _ at.invariant.near gained.ensures) c.minus-candidate.ensures refl;
    }

pub returns : goal.returns
returns g c t h =
    let at = c.loop-turn in
    let e : at._turn ≡ c.args.turns = omega arith in
    rw c.in-Inverse.is (at.invariant.same t h ∙ ap (turns t c.args.p) e)
