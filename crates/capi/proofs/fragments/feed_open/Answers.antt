-- `capi::fragments::feed_open` meets its contract. Assumes nothing.
use mathlib.Core.Path.{◌≡◌, sym, ◌∙◌}
use mathlib.Core.List.{[], ◌∷◌}
use lib.IntN.{pos}
use mir.Val.{to_z}
use mathlib.Core.Bool.{true, false}
use Prim.Native.Nat.{◌<◌}
use native.Mathlib.Omega.{arith}
use lib.Dec.{lit<}
use mir.Syntax.{w64}
use mir.ValLaws.{to_z_pos}
use Rattle.rounding.proofs.Machine.{told, fits}
use Rattle.sheet_stream.proofs.Scanning.{within-line}
use Rattle.capi.proofs.OpenCalls.{answered-as, open-state, open_kept}
use Rattle.capi.proofs.fragments.feed_open.Goals as goal

pub returns-then-not-is_answered : goal.returns-then-not-is_answered
returns-then-not-is_answered c =
    let s = c in
    open-state s.args.numbers.now s.args.bytes.now s.requires.0 s.requires.1 s.args.fragment.now s.args.told.now
    (answered-as s.args.numbers.now s.args.bytes.now s.requires.0 s.requires.1 false (sym (c.if-not-is_answered.true) ∙ c.is_answered.ensures))
    (told c.minus.type_inv ∙ c.minus.ensures)

pub overflow_cast-end : goal.overflow_cast-end
overflow_cast-end c =
    let short : c.args.end < 9223372036854775808 = omega (arith, c.well_formed.1.1.0.1, within-line c.args.fragment.now c.args.end c.requires.4) in
    fits 9223372036854775807 (omega (arith, short)) (lit< tt)

pub returns : goal.returns
returns c =
    let s = c.args in
    let r = c.requires in
    let short : s.end < 9223372036854775808 = omega (arith, c.well_formed.1.1.0.1, within-line s.fragment.now s.end r.4) in
    let k = c.keep_bytes-kept in
    let n = c.kept_in.ensures in
    let e : to_z w64 s.end ≡ pos s.end = to_z_pos w64 s.end (omega (arith, short)) in
    let t : c.copy_from_slice.new.self ≡ pos s.end ∷ pos 0 ∷ [] = cc (c.copy_from_slice.ensures.after, e) in
    rw (t, to_z_pos w64 k.result (omega (arith, k.ensures.1, r.2)))
    (open_kept s.numbers.now s.bytes.now r.0 r.1 s.fragment.now s.told.now r.2 s.end r.4 r.5
    (answered-as s.numbers.now s.bytes.now r.0 r.1 true (sym c.if-not-is_answered.false ∙ c.is_answered.ensures))
    k.result _ (rw (← n) k.ensures.1) (rw (← n) k.ensures.0))
