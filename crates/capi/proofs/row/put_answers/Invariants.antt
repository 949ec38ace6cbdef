use mathlib.Core.Path.{◌≡◌}
use Prim.Native.Nat.{◌-◌, ◌*◌, ◌/◌}
use lib.ListN.{length, drop}
use lib.Seq.{sets}
use Rattle.chain.specs.PointRow.{convert_ready}
use Rattle.capi.specs.PointRow.{answers_of}
use Rattle.capi.proofs.row.put_answers.Given as goal

abbrev pub invariant-loop-i : goal.invariant-loop-i
invariant-loop-i l =
    (length l.out ≡ length l.initial.out)
    × (sets l.out (8 * l.i) (answers_of (convert_ready l.ready l.direction) ((length l.points / 7) - l.i) (drop (7 * l.i) l.points)) ≡ sets l.initial.out 0 (answers_of (convert_ready l.ready l.direction) (length l.points / 7) l.points))
