use mathlib.Core.Path.{◌≡◌}
use lib.ListN.{length, take}
use lib.Seq.{sets}
use Rattle.sheet_stream.proofs.keep_bytes.Given as goal

-- after i turns the first i bytes stand in the room
abbrev pub invariant-loop-i : goal.invariant-loop-i
invariant-loop-i l = (length l.room ≡ length l.initial.room) × (l.room ≡ sets l.initial.room l.count (take l.i l.bytes))
