-- `capi::printing::swivelcrane_sheet` meets its contract: the room, and then what the library writes. Assumes nothing.
use native.Mathlib.Omega.{arith}
use Rattle.capi.proofs.Texts.{no_room, printed}
use Rattle.capi.proofs.printing.swivelcrane_sheet.Goals as goal

pub returns-then-out-room_for : goal.returns-then-out-room_for
returns-then-out-room_for c = let e = c.room_for.ensures in no_room _ _ _ (omega arith)

pub returns : goal.returns
returns c = let e = c.room_for.ensures in printed _ _ _ (omega arith) (omega arith) c.sheet.ensures
