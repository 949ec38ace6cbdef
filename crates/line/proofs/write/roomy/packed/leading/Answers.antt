use Rattle.std.proofs.Common.{◌/◌, ◌%◌, arith}
use Rattle.line.proofs.Packed as P
use Rattle.line.proofs.Leading as D
use Rattle.line.proofs.write.roomy.packed.leading.Goals as goal

pub spread-w-requires : goal.spread-w-requires
spread-w-requires c = let s = c in P.two_good (s.args.n % 100) (s.args.n / 100) (omega arith) (omega (arith, s.requires.0))

pub returns : goal.returns
returns c =
    let s = c in
    let n = s.args.n in
    let h = P.two-half (n % 100) (n / 100) (omega arith) (omega (arith, s.requires.0)) c.spread-w.ensures in
    let f = c.further-more.ensures in
    D.begun c.put_half.ensures (D.lead n _ _ s.requires.0 h f) f.most

pub overflow_add-n : goal.overflow_add-n
overflow_add-n c = omega (arith, c.requires.0)

pub further-more-requires : goal.further-more-requires
further-more-requires c = c.requires.0

pub overflow_mul-more : goal.overflow_mul-more
overflow_mul-more c = omega (arith, c.further-more.ensures.most)

pub overflow_sub-more : goal.overflow_sub-more
overflow_sub-more c = omega (arith, c.further-more.ensures.most)

pub overflow_shr-w : goal.overflow_shr-w
overflow_shr-w c = omega (arith, c.further-more.ensures.most)

pub put_half-requires : goal.put_half-requires
put_half-requires c = c.requires.1

pub shape_of-out : goal.shape_of-out
shape_of-out c = c.put_half.auto.out
