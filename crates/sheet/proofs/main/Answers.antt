-- `sheet::main` meets its contract: what is read fits the space for it. Assumes nothing.
use native.Mathlib.Omega.{arith}
use Rattle.input.proofs.Laws.{held-part}
use Rattle.sheet.proofs.main.Goals as goal

pub slice_bounds-print_short-end : goal.slice_bounds-print_short-end
slice_bounds-print_short-end c = held-part _ _ _ c.in-Some.is c.read_all.ensures

pub print_short-requires : goal.print_short-requires
print_short-requires c = omega (arith, held-part _ _ c.read_all.new.buffer c.in-Some.is c.read_all.ensures)

pub slice_bounds-print_any-end : goal.slice_bounds-print_any-end
slice_bounds-print_any-end c = held-part _ _ _ c.in-Some.is c.read_all.ensures
