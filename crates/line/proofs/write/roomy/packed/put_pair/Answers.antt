use Rattle.std.proofs.Common.{◌/◌, ◌%◌, arith, length-set}
use Rattle.line.proofs.Texts as T
use Rattle.line.proofs.write.roomy.packed.put_pair.Goals as goal

pub bounds-out-at-2 : goal.bounds-out-at-2
bounds-out-at-2 c = rw length-set (omega arith)

pub returns : goal.returns
returns c = T.beside c.args.out.now c.args.at (c.args.w % 256) (c.args.w / 256 % 256) c.requires
