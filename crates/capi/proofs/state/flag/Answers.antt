-- `capi::state::flag` meets its contract. Assumes nothing.
use mathlib.Core.Path.{◌∙◌, ap}
use mathlib.Core.Bool.{not}
use lib.IntN.{pos}
use Rattle.rounding.proofs.Machine.{rd}
use Rattle.ranges.specs.Ranges.{equal}
use Rattle.capi.proofs.state.flag.Goals as goal

pub returns : goal.returns
returns c = ap not (c.equal.ensures ∙ ap (equal (pos 0)) (rd c.ranges.n))
