-- `line::number::words::digits_before` meets its contract. Assumes nothing.
use Rattle.std.proofs.Common.{arith}
use lib.Bits.{bit_and, bit_or}
use lib.Count.{trailing_le}
use Rattle.line.proofs.number.words.digits_before.Goals as goal

-- of 64 bits no more than 64 are zeros below the lowest that is set
pub overflow_cast-result : goal.overflow_cast-result
overflow_cast-result c = omega (arith, trailing_le 64 (bit_and (bit_or c.args.d c.wrapping_add_u64.result) 17361641481138401520))

pub returns : goal.returns
returns c = omega (arith, trailing_le 64 (bit_and (bit_or c.args.d c.wrapping_add_u64.result) 17361641481138401520))
