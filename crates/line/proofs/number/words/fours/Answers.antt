-- `line::number::words::fours` meets its contract. Assumes nothing.
use Rattle.std.proofs.Common.{◌+◌, ◌*◌, ◌/◌, refl, arith}
use lib.Bits.{and_le_r}
use Rattle.line.specs.Reading.{pair_sums, four_sums}
use Rattle.line.proofs.number.words.fours.Goals as goal

pub overflow_mul-result : goal.overflow_mul-result
overflow_mul-result c = let d = c.args.d in omega (arith, and_le_r (d * 10 + d / 256) 71777214294589695)

pub overflow_add-result : goal.overflow_add-result
overflow_add-result c = let d = c.args.d in omega (arith, and_le_r (d * 10 + d / 256) 71777214294589695)

pub returns : goal.returns
unfolding four_sums pair_sums
returns c = refl
