-- `capi::fragments::feed_line` meets its contract: the line that ends is put together and answered, or the call goes by value. Assumes nothing.
use mathlib.Core.Path.{◌≡◌, sym, ◌∙◌, ap}
use mathlib.Core.List.{List}
use Prim.Native.Nat.{ℕ, ◌+◌, ◌-◌, ◌<◌, ◌≤◌}
use native.Mathlib.Omega.{arith}
use lib.Dec.{eqb}
use lib.ListN.{length, get_or, take, set, length-set}
use lib.Seq.{sets, length-sets, length-take-le, get_or-take}
use Rattle.rounding.proofs.Machine.{told}
use Rattle.ranges.proofs.Ranges.{both}
use Rattle.sheet_stream.proofs.Scanning.{within-line, fed-some}
use Rattle.capi.proofs.PointCalls.{line-fed}
use Rattle.capi.proofs.fragments.feed_line.Goals as goal

pub overflow_sub-last : goal.overflow_sub-last
overflow_sub-last c =
    let s = c in
    omega (arith, fed-some s.args.fragment.now s.args.end s.requires.6)

pub slice_bounds-keep_bytes-end-2 : goal.slice_bounds-keep_bytes-end-2
slice_bounds-keep_bytes-end-2 c =
    let s = c in
    sym (length-take-le (s.args.end - 1) s.args.fragment.now (omega (arith, within-line s.args.fragment.now s.args.end s.requires.5)))

-- the bytes that are kept of the line
abbrev kept_of : List ℕ → ℕ → ℕ → List ℕ → List ℕ
kept_of room k end f = take (length room - k) (take (end - 1) f)

-- the room is as long as it was, and a line feed fits
has_room : {room bytes new : List ℕ} (k n : ℕ) (f : List ℕ) → new ≡ sets room k f → room ≡ bytes → length bytes ≡ 200 → n < 200 → n + 1 ≤ length (set new n 10)
has_room {new = new} k n f e r l h = let z = ap length e ∙ length-sets _ k f ∙ ap length r ∙ l in omega (arith, length-set new n 10, z, h)

pub slice_bounds-room-end : goal.slice_bounds-room-end
slice_bounds-room-end c =
    has_room c.kept_in.result c.keep_bytes-n.result
    (kept_of c.bytes_from-room.result c.kept_in.result c.args.end c.args.fragment.now)
    c.keep_bytes-n.ensures.0 c.bytes_from-room.ensures c.requires.2 c.if-n-lt200.true

pub slice_bounds-feed_point-end : goal.slice_bounds-feed_point-end
slice_bounds-feed_point-end c =
    sym (length-take-le _ _ (has_room c.kept_in.result c.keep_bytes-n.result
    (kept_of c.bytes_from-room.result c.kept_in.result c.args.end c.args.fragment.now)
    c.keep_bytes-n.ensures.0 c.bytes_from-room.ensures c.requires.2 c.if-n-lt200.true))

pub feed_point-requires : goal.feed_point-requires
feed_point-requires c =
    let s = c.args in
    let r = c.requires in
    let short : length s.fragment.now < 9223372036854775808 = omega (arith, c.well_formed.1.1.0.1) in
    let p = both _ _ c.if-room-can_come.true in (
      r.0,
      r.1,
      r.2,
      r.3,
      r.4,
      omega (arith, within-line s.fragment.now s.end r.5, short),
      sym c.can_come.ensures ∙ p.1,
      ap (λ (x : ℕ). eqb x 80) (get_or-take (c.keep_bytes-n.result + 1) (set c.keep_bytes-n.new.room c.keep_bytes-n.result 10) 0 0 (omega arith)) ∙ p.0,
    )

pub returns-then-room-can_come : goal.returns-then-room-can_come
returns-then-room-can_come c =
    let n = c.args in
    let r = c.requires in
    let p = both (eqb (get_or (set c.keep_bytes-n.new.room c.keep_bytes-n.result 10) 0 0) 80) c.can_come.result c.if-room-can_come.true in
    let fed = line-fed n.numbers.now n.bytes.now r.0 r.1 (sym c.can_come.ensures ∙ p.1) r.2 n.fragment.now n.end r.5 r.6 {k = c.kept_in.result}
    {c = c.keep_bytes-n.result} {room = c.bytes_from-room.result}
    {kept = c.keep_bytes-n.new.room} c.kept_in.ensures c.bytes_from-room.ensures c.keep_bytes-n.ensures.1 c.keep_bytes-n.ensures.0 c.if-n-lt200.true in
    rw (told c.feed_point.type_inv, ← fed) c.feed_point.ensures
