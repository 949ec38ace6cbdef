-- `sheet_stream::keep_bytes` meets its contract. The loop's invariant: the first i bytes stand in the room. Assumes nothing.
use mathlib.Core.Path.{ap, ◌∙◌}
use native.Mathlib.Omega.{arith}
use Prim.Native.Nat.{◌-◌}
use lib.ListN.{length, length-set}
use lib.Seq.{sets}
use Rattle.sheet_stream.proofs.Scanning.{sets_more, take_min}
use Rattle.sheet_stream.proofs.keep_bytes.Goals as goal

pub loop-i-preserved : goal.loop-i-preserved
loop-i-preserved c =
    let k = c.loop-i in
    let a = c.args in
    let t = c.loop-i-test.true in (
      length-set k.room _ _ ∙ k.invariant.0,
      rw k.invariant.1 (sets_more a.bytes.now a.room.now a.count k.i (omega (arith, t, c.min-n.ensures))),
    )

pub returns : goal.returns
returns c =
    let k = c.loop-i in
    let a = c.args in
    let n = c.min-n.ensures in
    let l = c.if-size-count.false in (
      k.invariant.1 ∙ ap (sets a.room.now a.count) (take_min a.bytes.now k.i (length a.room.now - a.count)
          (omega (arith, n, k.auto.i-end, c.loop-i-test.false))),
      omega (arith, n, l),
    )
