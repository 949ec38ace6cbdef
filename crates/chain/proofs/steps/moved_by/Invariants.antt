use Rattle.std.proofs.Common.{◌≡◌}
use Rattle.chain.specs.Parts.{Parts}
use Rattle.chain.specs.Axes.{Small}
use Rattle.chain.specs.Ways.{GainsBy}
use Rattle.chain.specs.Ways.{turns}
use Rattle.chain.proofs.steps.moved_by.Given as goal

abbrev pub invariant-loop-turn : goal.invariant-loop-turn
invariant-loop-turn g l = record {
  near : Small 650000000000 l.candidate;
  same : (t : Parts) → GainsBy t (goal.G-post g l.gain) → l.candidate ≡ turns t l.p l._turn;
}
