-- `sheet_stream::end_open` meets its contract. Assumes nothing.
use mathlib.Core.Path.{sym}
use native.Mathlib.Omega.{arith}
use lib.ListN.{length-take}
use Rattle.sheet_stream.proofs.end_open.Goals as goal

pub slice_bounds-end_line-end : goal.slice_bounds-end_line-end
slice_bounds-end_line-end c = simp length-take (omega (arith, c.without_end-bytes.ensures.0, c.requires.1))

pub returns : goal.returns
returns c = rw (sym c.without_end-bytes.ensures.1) c.end_line.ensures
