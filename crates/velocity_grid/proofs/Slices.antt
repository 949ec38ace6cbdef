-- A part of a list that is written over by another list. Assumes nothing.
use mathlib.Core.Path.{◌≡◌, refl, sym, ◌∙◌, ap}
use mathlib.Core.List.{List, ◌++◌}
use Prim.Native.Nat.{ℕ, ◌+◌, ◌≤◌}
use lib.ListN.{length, take, drop}
use lib.Seq.{sets, sets-eq, take-length}
use borrow.Rule.Slice.PartMut.{put_mid}
use Rattle.std.proofs.lemmas.Slice.{put_mid-paste}

pub put-sets : {X : Type 0} (xs ys : List X) (a k : ℕ) → k ≡ length ys → a + length ys ≤ length xs → put_mid a k xs ys ≡ sets xs a ys
put-sets xs ys a k e h =
    put_mid-paste a k xs ys ys (length ys) refl (sym e) refl
    ∙ ap (λ (l : List _). take a xs ++ l ++ drop (a + length ys) xs) (take-length ys)
    ∙ sym (sets-eq ys xs a h)
