-- `line::point_line::first_line` meets its contract. Assumes nothing.
use Rattle.std.proofs.Common.{arith}
use Rattle.line.proofs.FirstLine.{ahead, fewer, first}
use Rattle.line.proofs.Places.{point-told}
use Rattle.line.proofs.point_line.first_line.Goals as goal

pub returns : goal.returns
returns c =
    let n0 = c.letter-at in
    let n1 = c.name-named in
    let n2 = c.of_few-issue in
    let n3 = c.of_one-order in
    let n4 = c.of_one-datum in
    let n5 = c.of_seven-epoch in
    let n6 = c.of_minus_twelve-x in
    let n7 = c.of_twelve-y in
    let n8 = c.in_ok-z in
    let z = n8.ensures in
    let a7 = ahead n7.ensures (omega (arith, z.behind, z.inside)) in
    let a6 = ahead n6.ensures (omega (arith, a7, z.behind, z.inside)) in
    let a5 = ahead n5.ensures (omega (arith, a6, a7, z.behind, z.inside)) in
    let a4 = ahead n4.ensures (omega (arith, a5, a6, a7, z.behind, z.inside)) in
    let a3 = ahead n3.ensures (omega (arith, a4, a5, a6, a7, z.behind, z.inside)) in
    let a2 = ahead n2.ensures (omega (arith, a3, a4, a5, a6, a7, z.behind, z.inside)) in
    let a1 = ahead n1.ensures (omega (arith, a2, a3, a4, a5, a6, a7, z.behind, z.inside)) in
    let k = z.feed in
    let h = z.inside in
    let g0 = fewer n0.ensures k (omega (arith, a1, a2, a3, a4, a5, a6, a7, z.behind)) (omega (arith, h)) in
    let g1 = fewer n1.ensures k (omega (arith, a2, a3, a4, a5, a6, a7, z.behind)) (omega (arith, h)) in
    let g2 = fewer n2.ensures k (omega (arith, a3, a4, a5, a6, a7, z.behind)) (omega (arith, h)) in
    let g3 = fewer n3.ensures k (omega (arith, a4, a5, a6, a7, z.behind)) (omega (arith, h)) in
    let g4 = fewer n4.ensures k (omega (arith, a5, a6, a7, z.behind)) (omega (arith, h)) in
    let g5 = fewer n5.ensures k (omega (arith, a6, a7, z.behind)) (omega (arith, h)) in
    let g6 = fewer n6.ensures k (omega (arith, a7, z.behind)) (omega (arith, h)) in
    let g7 = fewer n7.ensures k z.behind (omega (arith, h)) in
    let t = rw z.past at (point-told g0 g1 g2 g3 g4 g5 g6 g7 z.got) in
    rw (c.told.ensures, z.past)
    (first _ k h z.short z.is t)
