-- `capi::state::is_flag` meets its contract. Assumes nothing.
use mathlib.Core.Path.{◌∙◌, ap}
use Rattle.rounding.proofs.Machine.{rd}
use Rattle.capi.specs.Fragments.{is_flag}
use Rattle.capi.proofs.state.is_flag.Goals as goal

pub returns : goal.returns
returns c = c.within.ensures ∙ ap is_flag (rd c.ranges.n)
