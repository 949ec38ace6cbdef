use Rattle.std.proofs.Common.{◌≡◌, ℕ, ◌+◌, ◌-◌, ◌*◌, ◌/◌, ◌%◌, ap, ◌∙◌, arith}
use Rattle.line.proofs.Packed as P
use lib.Bits.{bit_and}
use Rattle.line.proofs.write.roomy.packed.pairs_of.Lts as lts
use Rattle.line.proofs.write.roomy.packed.pairs_of.Reads as reads
use Rattle.line.proofs.write.roomy.packed.pairs_of.Goals as goal

abbrev TheStart : Type 0
TheStart = lts.Start reads.Pre reads.Post

hundreds : (s : TheStart) → bit_and ((s.args.n % 10000 * 4294967296 + s.args.n / 10000) * 10486 / 1048576) 545460846719 ≡ s.args.n % 10000 / 100 * 4294967296 + s.args.n / 10000 / 100
hundreds s = P.hundreds-is (s.args.n / 10000) (s.args.n % 10000) (omega (arith, s.requires)) (omega arith)

pub overflow_mul-result-2 : goal.overflow_mul-result-2
overflow_mul-result-2 c = omega (arith, hundreds c)

pub overflow_sub-result : goal.overflow_sub-result
overflow_sub-result c = omega (arith, hundreds c)

pub returns : goal.returns
returns c = let n = c.args.n in ap (λ (t : ℕ). (n % 10000 * 4294967296 + n / 10000) * 65536 - t * 6553599) (hundreds c) ∙ P.pairs_is (n / 10000) (n % 10000) (omega (arith, c.requires)) (omega arith)
