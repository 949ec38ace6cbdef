-- The two ways in which the call for a whole sheet or plan ends, for any text. Assumes nothing.
use borrow.Author.Tests.{le-leb, lt-leb}
use mathlib.Core.Path.{◌∙◌, ap}
use mathlib.Core.List.{List}
use Prim.Native.Nat.{ℕ, ◌≤◌, ◌<◌}
use native.Mathlib.Omega.{arith}
use lib.IntN.{pos, negsuc}
use lib.ListN.{length}
use mir.Syntax.{w64}
use mir.Val.{to_z}
use mir.ValLaws.{to_z_pos}
use Rattle.listing.specs.Fold.{room_for, Prints}
use Rattle.capi.specs.Printing.{Printed}

module _ (text input before : List ℕ) where
  pub no_room : length before < room_for (length input) → Printed text input before before (negsuc 254)
  no_room h = let e = lt-leb (room_for (length input)) (length before) h in record { status = rw e; out = rw e }

  pub printed : {after : List ℕ} {r : ℕ}
      → room_for (length input) ≤ length before → length before < 9223372036854775808 → Prints text input before after r → Printed text input before after (to_z w64 r)
  printed {r = r} h l p =
      let e = le-leb (room_for (length input)) (length before) h in
      let w = p.whole h in
      record { status = rw e (to_z_pos w64 r (omega (arith, p.cut.place)) ∙ ap pos w.0); out = rw e w.1 }
