-- `capi::point_line::feed_point` meets its contract: refused, or the line answered. Assumes nothing.
use mathlib.Core.Path.{◌≡◌, ◌∙◌, ap}
use Prim.Native.Nat.{ℕ}
use lib.ListN.{replicate}
use mathlib.Core.List.{[], ◌∷◌}
use lib.IntN.{pos}
use mir.Syntax.{w64}
use mir.Val.{to_z}
use mir.ValLaws.{to_z_pos}
use Rattle.rounding.proofs.Machine.{told}
use Rattle.sheet_stream.proofs.Laws.{no-bytes-is}
use Rattle.capi.proofs.PointCalls.{point-state, point-told}
use Rattle.capi.proofs.point_line.feed_point.Goals as goal

pub returns-in_default : goal.returns-in_default
returns-in_default c =
    let s = c in
    let n = s.args in
    point-state n.numbers.now n.bytes.now s.requires.0 s.requires.1 s.requires.6 n.text.now s.requires.7 n.end n.out.now n.told.now c.print_in.ensures
    c.in_default.is (told c.minus.type_inv ∙ c.minus.ensures)

pub returns : goal.returns
returns c =
    let n = c.args in
    let r = c.requires in
    let e : to_z w64 n.end ≡ pos n.end = to_z_pos w64 n.end r.5 in
    let t : c.copy_from_slice.new.self ≡ pos n.end ∷ pos 1 ∷ [] = cc (c.copy_from_slice.ensures.after, e) in
    point-told n.numbers.now n.bytes.now r.0 r.1 r.6 n.text.now r.7 n.end n.out.now n.told.now c.print_in.ensures c.in-Some.printed c.in-Some.is r.3 c.put_passed.ensures
    (c.fill.ensures.after (λ y h. h) ∙ ap (λ (k : ℕ). replicate k 0) r.2 ∙ no-bytes-is) t
