-- `latest::judge::judge` meets its contract. Assumes nothing.
use native.Mathlib.Omega.{arith}
use mathlib.Core.Path.{◌≡◌, sym, ◌∙◌}
use Prim.Native.Nat.{◌<◌, ◌-◌}
use lib.ListN.{length, get_or}
use Rattle.latest.specs.Rows.{size}
use Rattle.latest.proofs.Judging.{judging-none, judging-more, judged}
use Rattle.latest.proofs.judge.judge.Goals as goal

pub marks-requires : goal.marks-requires
marks-requires c =
    let q = c.requires.room in
    let d = c.requires.order in
    (q.0, λ p h. d.below p h)

pub loop-k-init : goal.loop-k-init
loop-k-init c =
    let a = c.args in
    judging-none a.rows.now a.o.now a.v.now 0 c.requires.room.1

pub offset_bounds-w-k : goal.offset_bounds-w-k
offset_bounds-w-k c =
    let v = c.loop-k in
    let a = c.args in
    let q = c.requires.room in
    let d = c.requires.order in
    let o = a.o.now in
    let k = v.k in
    let g = v.invariant in
    omega (arith, g.k-in)

pub bounds-w-k : goal.bounds-w-k
bounds-w-k c =
    let v = c.loop-k in
    let a = c.args in
    let q = c.requires.room in
    let d = c.requires.order in
    let o = a.o.now in
    let k = v.k in
    let g = v.invariant in
    let wl : length c.marks.new.w ≡ length a.w.now = c.marks.auto.w in
    omega (arith, g.k-in, q.0)

pub standing_at-standing-requires : goal.standing_at-standing-requires
standing_at-standing-requires c =
    let v = c.loop-k in
    let a = c.args in
    let q = c.requires.room in
    let d = c.requires.order in
    let o = a.o.now in
    let k = v.k in
    let g = v.invariant in
    (omega (arith, g.k-in), λ p h. d.below p h)

pub offset_bounds-o-k : goal.offset_bounds-o-k
offset_bounds-o-k c =
    let v = c.loop-k in
    let a = c.args in
    let q = c.requires.room in
    let d = c.requires.order in
    let o = a.o.now in
    let k = v.k in
    let g = v.invariant in
    omega (arith, g.k-in)

pub bounds-o-k : goal.bounds-o-k
bounds-o-k c =
    let v = c.loop-k in
    let a = c.args in
    let q = c.requires.room in
    let d = c.requires.order in
    let o = a.o.now in
    let k = v.k in
    let g = v.invariant in
    omega (arith, g.k-in)

pub offset_bounds-v-i : goal.offset_bounds-v-i
offset_bounds-v-i c =
    let v = c.loop-k in
    let a = c.args in
    let q = c.requires.room in
    let d = c.requires.order in
    let o = a.o.now in
    let k = v.k in
    let g = v.invariant in
    omega (arith, d.below (k - 1) (omega (arith, g.k-in)))

pub bounds-v-i : goal.bounds-v-i
bounds-v-i c =
    let v = c.loop-k in
    let a = c.args in
    let q = c.requires.room in
    let d = c.requires.order in
    let o = a.o.now in
    let k = v.k in
    let g = v.invariant in
    omega (arith, g.size, d.below (k - 1) (omega (arith, g.k-in)))

pub loop-k-preserved : goal.loop-k-preserved
loop-k-preserved c =
    let v = c.loop-k in
    let a = c.args in
    let q = c.requires.room in
    let d = c.requires.order in
    let o = a.o.now in
    let k = v.k in
    let g = v.invariant in
    let small : size a.rows.now < 18446744073709551616 = omega arith in
    judging-more a.rows.now small o d v.v k v.standing c.standing_at-standing.result c.settled.result
    (get_or c.marks.new.w (k - 1) 0) c.loop-k-test.true g (c.marks.ensures (k - 1) (omega (arith, g.k-in))) c.standing_at-standing.ensures
    c.settled.ensures

pub shape_of-v : goal.shape_of-v
shape_of-v c =
    let v = c.loop-k in
    let a = c.args in
    let q = c.requires.room in
    let d = c.requires.order in
    let o = a.o.now in
    let k = v.k in
    let g = v.invariant in
    g.size ∙ sym q.1

pub returns : goal.returns
returns c =
    let v = c.loop-k in
    let a = c.args in
    let q = c.requires.room in
    let d = c.requires.order in
    let o = a.o.now in
    let k = v.k in
    let g = v.invariant in
    let small : size a.rows.now < 18446744073709551616 = omega arith in
    judged a.rows.now small o d v.v k v.standing (omega arith) g
