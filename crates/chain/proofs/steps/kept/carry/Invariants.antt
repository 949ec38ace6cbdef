use Rattle.std.proofs.Common.{◌≡◌, true}
use Rattle.chain.specs.Faults.{in_area}
use Rattle.chain.specs.Ways.{by_way, in_order}
use Rattle.chain.specs.Prepared.{rows_of, carried}
use Rattle.chain.proofs.Ways.{rest}
use Rattle.chain.proofs.steps.kept.carry.Given as goal

abbrev pub invariant-loop-gone : goal.invariant-loop-gone
invariant-loop-gone l = record {
  near : in_area l.position ≡ true;
  leads : carried (by_way l.direction) l.fn.point l.fn.end (rest l.direction (rows_of l.numbers 1 l.count) l.gone) l.position
      ≡ carried (by_way l.direction) l.fn.point l.fn.end (in_order l.direction (rows_of l.numbers 1 l.count)) l.fn.point.position;
}
