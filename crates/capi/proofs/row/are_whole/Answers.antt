-- `capi::row::are_whole` meets its contract. Assumes nothing.
use mathlib.Core.Path.{refl}
use Rattle.capi.specs.PointRow.{whole_rows}
use Rattle.capi.proofs.row.are_whole.Goals as goal

pub returns : goal.returns
unfolding whole_rows
returns c = refl
