-- `sheet_stream::feed` meets its contract. Assumes nothing.
use mathlib.Core.Path.{◌≡◌, refl, sym, ap, ◌∙◌}
use mathlib.Core.Bool.{true, false}
use mathlib.Core.List.{List}
use native.Mathlib.Omega.{arith}
use Prim.Native.Nat.{ℕ, ◌-◌}
use lib.ListN.{length, take, length-take, length-set}
use lib.Seq.{length-sets}
use Rattle.sheet_stream.specs.Fragments.{ends_with, fed_at, sound}
use Rattle.sheet_stream.proofs.Laws.{feed-state}
use Rattle.sheet_stream.proofs.Scanning as L
use Rattle.sheet_stream.proofs.feed.Goals as goal

pub returns-then-stream-count : goal.returns-then-stream-count
returns-then-stream-count c = c.refused.ensures ∙ (L.stopped c.args.stream c.args.fragment.now c.if-stream-count.true).0

pub slice_bounds-keep_bytes-count : goal.slice_bounds-keep_bytes-count
slice_bounds-keep_bytes-count c = let some = L.fed-some _ _ (sym c.is_fed.ensures ∙ c.if-is_fed.true) in omega (arith, some)

pub slice_bounds-keep_bytes-length : goal.slice_bounds-keep_bytes-length
slice_bounds-keep_bytes-length c =
    let inside = L.within-line c.args.fragment.now _ c.line_end-end.ensures in
    simp length-take (omega (arith, inside))

pub slice_bounds-kept-end : goal.slice_bounds-kept-end
slice_bounds-kept-end c =
    let s = c.args in
    let long : length s.stream.kept ≡ 200 = c.well_formed.0.1.1.1.1.0.1.0.1 in
    let room = ap length c.keep_bytes-n.ensures.0
    ∙ length-sets s.stream.kept s.stream.count (take (length s.stream.kept - s.stream.count) (take (c.line_end-end.result - 1) s.fragment.now))
    ∙ long in
    simp length-set (omega (arith, room, c.if-n-lt-ROOM.true))

pub slice_bounds-end_line-end : goal.slice_bounds-end_line-end
slice_bounds-end_line-end c =
    let s = c.args in
    let long : length s.stream.kept ≡ 200 = c.well_formed.0.1.1.1.1.0.1.0.1 in
    let room = ap length c.keep_bytes-n.ensures.0
    ∙ length-sets s.stream.kept s.stream.count (take (length s.stream.kept - s.stream.count) (take (c.line_end-end.result - 1) s.fragment.now))
    ∙ long in
    simp (length-take, length-set) (omega (arith, room, c.if-n-lt-ROOM.true))

pub returns-then-n-lt-ROOM : goal.returns-then-n-lt-ROOM
returns-then-n-lt-ROOM c =
    let s = c.args in
    let k = c.keep_bytes-n in
    let long : length s.stream.kept ≡ 200 = c.well_formed.0.1.1.1.1.0.1.0.1 in
    let room = ap length c.keep_bytes-n.ensures.0
    ∙ length-sets s.stream.kept s.stream.count (take (length s.stream.kept - s.stream.count) (take (c.line_end-end.result - 1) s.fragment.now))
    ∙ long in
    L.fed-line s.stream (L.goes_on s.stream c.if-stream-count.false) s.fragment.now _ c.line_end-end.ensures long _ k.result k.new.room k.ensures.1 k.ensures.0
    (sym c.is_fed.ensures ∙ c.if-is_fed.true) refl _
    (c.end_line.ensures ∙ ap (λ (l : List ℕ). ends_with s.stream l c.line_end-end.result false)
    (sym (L.closing-room s.stream.standing k.result k.new.room false c.if-n-lt-ROOM.true room)))

pub end_open-requires : goal.end_open-requires
end_open-requires c =
    let s = c.args in
    let long : length s.stream.kept ≡ 200 = c.well_formed.0.1.1.1.1.0.1.0.1 in
    (omega (arith, c.if-n-lt-ROOM.false), omega (arith, c.keep_bytes-n.ensures.1, long))

pub returns-then-is_fed : goal.returns-then-is_fed
returns-then-is_fed c =
    let s = c.args in
    let k = c.keep_bytes-n in
    let long : length s.stream.kept ≡ 200 = c.well_formed.0.1.1.1.1.0.1.0.1 in
    L.fed-line s.stream (L.goes_on s.stream c.if-stream-count.false) s.fragment.now _ c.line_end-end.ensures long _ k.result k.new.room k.ensures.1 k.ensures.0
    (sym c.is_fed.ensures ∙ c.if-is_fed.true) refl _
    (c.end_open.ensures ∙ ap (λ (l : List ℕ). ends_with s.stream l c.line_end-end.result false)
    (sym (L.closing-full s.stream.standing k.result k.new.room false c.if-n-lt-ROOM.false)))

pub returns-then-not-is_sound : goal.returns-then-not-is_sound
returns-then-not-is_sound c =
    let s = c.args in
    c.refused-then-not-is_sound.ensures ∙ sym (feed-state s.stream s.fragment.now
    (L.sound-as s.stream (L.goes_on s.stream c.if-stream-count.false) _ c.is_sound.ensures ∙ c.if-not-is_sound.true))

pub returns : goal.returns
returns c =
    let s = c.args in
    let g = L.goes_on s.stream c.if-stream-count.false in
    let k = c.keep_bytes-n-2.ensures in
    let long : length s.stream.kept ≡ 200 = c.well_formed.0.1.1.1.1.0.1.0.1 in
    let f : fed_at s.fragment.now c.line_end-end.result ≡ false = sym c.is_fed.ensures ∙ c.if-is_fed.false in
    let e : sound s.stream ≡ true = L.sound-as s.stream g _ c.is_sound.ensures ∙ c.if-not-is_sound.false in
    L.fed-open s.stream g s.fragment.now _ c.line_end-end.ensures long _ _ _ k.1 k.0 f refl e
