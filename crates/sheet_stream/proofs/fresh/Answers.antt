-- `sheet_stream::fresh` meets its contract. Assumes nothing.
use mathlib.Core.Path.{refl}
use Rattle.sheet_stream.specs.Fragments.{no_bytes}
use Rattle.sheet_stream.proofs.fresh.Goals as goal

pub returns : goal.returns
unfolding no_bytes
returns c = refl
