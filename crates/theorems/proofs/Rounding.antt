-- Rounding, from the laws of its crate. Assumes nothing.
use Rattle.rounding.proofs.Nearest.{near-closest}
use Rattle.rounding.proofs.Roundings.{is-rounded, only-rounded, away-symmetric, rounded-near, rounded-opposite, rounded-mono, rounded-apart}
use Rattle.rounding.proofs.Places as places
use Rattle.theorems.specs.Rounding.{Rounding}

pub rounding : Rounding
rounding = record {
  fractions = λ t d h. record { near = λ z. (rounded-near t h z).near; half = λ z. (is-rounded t h z).half; only = λ z r p. only-rounded t h p; odd = rounded-opposite t h; mono = rounded-mono t h; apart = rounded-apart t h };
  symmetric = away-symmetric;
  decimals = λ s m e p. record { answers = places.answers s m e p; only = places.only s m e p };
  closest = λ d z r q n. near-closest n q;
}
