-- Conversions, from the laws of their crate. Assumes nothing.
use Rattle.chain.proofs.Outcomes.{converted-faultless, refused-short}
use Rattle.chain.proofs.Keeping.{holds-none, extended-holds, extend-refuses, prepared-forward, prepared-inverse}
use Rattle.chain.proofs.Readying.{ready-converts}
use Rattle.theorems.specs.Outcomes.{Outcomes}

pub outcomes : Outcomes
outcomes = record {
  again = converted-faultless;
  number = refused-short;
  empty = holds-none;
  more = extended-holds;
  refusal = extend-refuses;
  forward = prepared-forward;
  inverse = prepared-inverse;
  ready = ready-converts;
}
