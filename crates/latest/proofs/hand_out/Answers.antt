-- `latest::hand_out` meets its contract. Assumes nothing.
use native.Mathlib.Omega.{arith}
use mathlib.Core.Path.{◌≡◌, sym, ◌∙◌}
use mathlib.Core.List.{◌++◌}
use Prim.Native.Nat.{◌≤◌}
use lib.ListN.{length, take, drop, length-append}
use lib.Seq.{length-take-le}
use Rattle.line.specs.Lines.{lines}
use Rattle.latest.specs.Pile.{goods}
use Rattle.latest.proofs.Handing.{gather-rows, count-rows, good-count, starts-inside, all-printed}
use Rattle.latest.proofs.hand_out.Goals as goal

pub gather-found-requires : goal.gather-found-requires
gather-found-requires c =
    let d = c in
    let a = d.args in
    gather-rows (length a.x.now) (length a.h.now) (length a.l.now) (length a.s.now) (length a.b.now) (length a.o.now) (length a.w.now) (length a.v.now)
    d.requires.0 d.requires.1

pub slice_bounds-exact-end : goal.slice_bounds-exact-end
slice_bounds-exact-end c =
    let d = c in
    let a = d.args in
    let g = c.gather-found in
    let k = g.result.count in
    let n = count-rows (length a.x.now) (length a.h.now) (length a.l.now) (length a.s.now) (length a.b.now) (length a.o.now) (length a.w.now)
    (length a.v.now) d.requires.0 d.requires.1 k g.ensures.few in
    let e : length g.new.h ≡ length a.h.now = g.auto.h in
    let p : k ≤ length g.new.h = omega (arith, n.0, e) in
    p

pub slice_bounds-exact-end-2 : goal.slice_bounds-exact-end-2
slice_bounds-exact-end-2 c =
    let d = c in
    let a = d.args in
    let g = c.gather-found in
    let k = g.result.count in
    let n = count-rows (length a.x.now) (length a.h.now) (length a.l.now) (length a.s.now) (length a.b.now) (length a.o.now) (length a.w.now)
    (length a.v.now) d.requires.0 d.requires.1 k g.ensures.few in
    let e : length g.new.h ≡ length a.h.now = g.auto.h in
    let p : k ≤ length g.new.h = omega (arith, n.0, e) in
    sym (length-take-le k g.new.h p)

pub slice_bounds-exact-end-3 : goal.slice_bounds-exact-end-3
slice_bounds-exact-end-3 c =
    let d = c in
    let a = d.args in
    let g = c.gather-found in
    let k = g.result.count in
    let n = count-rows (length a.x.now) (length a.h.now) (length a.l.now) (length a.s.now) (length a.b.now) (length a.o.now) (length a.w.now)
    (length a.v.now) d.requires.0 d.requires.1 k g.ensures.few in
    let e : length g.new.l ≡ length a.l.now = g.auto.l in
    let p : k ≤ length g.new.l = omega (arith, n.1, e) in
    p

pub slice_bounds-exact-end-4 : goal.slice_bounds-exact-end-4
slice_bounds-exact-end-4 c =
    let d = c in
    let a = d.args in
    let g = c.gather-found in
    let k = g.result.count in
    let n = count-rows (length a.x.now) (length a.h.now) (length a.l.now) (length a.s.now) (length a.b.now) (length a.o.now) (length a.w.now)
    (length a.v.now) d.requires.0 d.requires.1 k g.ensures.few in
    let e : length g.new.l ≡ length a.l.now = g.auto.l in
    let p : k ≤ length g.new.l = omega (arith, n.1, e) in
    sym (length-take-le k g.new.l p)

pub slice_bounds-exact-end-5 : goal.slice_bounds-exact-end-5
slice_bounds-exact-end-5 c =
    let d = c in
    let a = d.args in
    let g = c.gather-found in
    let k = g.result.count in
    let n = count-rows (length a.x.now) (length a.h.now) (length a.l.now) (length a.s.now) (length a.b.now) (length a.o.now) (length a.w.now)
    (length a.v.now) d.requires.0 d.requires.1 k g.ensures.few in
    let e : length g.new.s ≡ length a.s.now = g.auto.s in
    let p : k ≤ length g.new.s = omega (arith, n.2, e) in
    p

pub slice_bounds-exact-end-6 : goal.slice_bounds-exact-end-6
slice_bounds-exact-end-6 c =
    let d = c in
    let a = d.args in
    let g = c.gather-found in
    let k = g.result.count in
    let n = count-rows (length a.x.now) (length a.h.now) (length a.l.now) (length a.s.now) (length a.b.now) (length a.o.now) (length a.w.now)
    (length a.v.now) d.requires.0 d.requires.1 k g.ensures.few in
    let e : length g.new.s ≡ length a.s.now = g.auto.s in
    let p : k ≤ length g.new.s = omega (arith, n.2, e) in
    sym (length-take-le k g.new.s p)

pub slice_bounds-exact-end-7 : goal.slice_bounds-exact-end-7
slice_bounds-exact-end-7 c =
    let d = c in
    let a = d.args in
    let g = c.gather-found in
    let k = g.result.count in
    let n = count-rows (length a.x.now) (length a.h.now) (length a.l.now) (length a.s.now) (length a.b.now) (length a.o.now) (length a.w.now)
    (length a.v.now) d.requires.0 d.requires.1 k g.ensures.few in
    let e : length g.new.b ≡ length a.b.now = g.auto.b in
    let p : k ≤ length g.new.b = omega (arith, n.3, e) in
    p

pub slice_bounds-exact-end-8 : goal.slice_bounds-exact-end-8
slice_bounds-exact-end-8 c =
    let d = c in
    let a = d.args in
    let g = c.gather-found in
    let k = g.result.count in
    let n = count-rows (length a.x.now) (length a.h.now) (length a.l.now) (length a.s.now) (length a.b.now) (length a.o.now) (length a.w.now)
    (length a.v.now) d.requires.0 d.requires.1 k g.ensures.few in
    let e : length g.new.b ≡ length a.b.now = g.auto.b in
    let p : k ≤ length g.new.b = omega (arith, n.3, e) in
    sym (length-take-le k g.new.b p)

pub slice_bounds-exact-end-9 : goal.slice_bounds-exact-end-9
slice_bounds-exact-end-9 c =
    let d = c in
    let a = d.args in
    let g = c.gather-found in
    let k = g.result.count in
    let n = count-rows (length a.x.now) (length a.h.now) (length a.l.now) (length a.s.now) (length a.b.now) (length a.o.now) (length a.w.now)
    (length a.v.now) d.requires.0 d.requires.1 k g.ensures.few in
    n.4

pub slice_bounds-exact-end-10 : goal.slice_bounds-exact-end-10
slice_bounds-exact-end-10 c =
    let d = c in
    let a = d.args in
    let g = c.gather-found in
    let k = g.result.count in
    let n = count-rows (length a.x.now) (length a.h.now) (length a.l.now) (length a.s.now) (length a.b.now) (length a.o.now) (length a.w.now)
    (length a.v.now) d.requires.0 d.requires.1 k g.ensures.few in
    sym (length-take-le k a.o.now n.4)

pub slice_bounds-exact-end-11 : goal.slice_bounds-exact-end-11
slice_bounds-exact-end-11 c =
    let d = c in
    let a = d.args in
    let g = c.gather-found in
    let k = g.result.count in
    let n = count-rows (length a.x.now) (length a.h.now) (length a.l.now) (length a.s.now) (length a.b.now) (length a.o.now) (length a.w.now)
    (length a.v.now) d.requires.0 d.requires.1 k g.ensures.few in
    n.5

pub slice_bounds-exact-end-12 : goal.slice_bounds-exact-end-12
slice_bounds-exact-end-12 c =
    let d = c in
    let a = d.args in
    let g = c.gather-found in
    let k = g.result.count in
    let n = count-rows (length a.x.now) (length a.h.now) (length a.l.now) (length a.s.now) (length a.b.now) (length a.o.now) (length a.w.now)
    (length a.v.now) d.requires.0 d.requires.1 k g.ensures.few in
    sym (length-take-le k a.w.now n.5)

pub slice_bounds-exact-end-13 : goal.slice_bounds-exact-end-13
slice_bounds-exact-end-13 c =
    let d = c in
    let a = d.args in
    let g = c.gather-found in
    let k = g.result.count in
    let n = count-rows (length a.x.now) (length a.h.now) (length a.l.now) (length a.s.now) (length a.b.now) (length a.o.now) (length a.w.now)
    (length a.v.now) d.requires.0 d.requires.1 k g.ensures.few in
    n.6

pub slice_bounds-exact-end-14 : goal.slice_bounds-exact-end-14
slice_bounds-exact-end-14 c =
    let d = c in
    let a = d.args in
    let g = c.gather-found in
    let k = g.result.count in
    let n = count-rows (length a.x.now) (length a.h.now) (length a.l.now) (length a.s.now) (length a.b.now) (length a.o.now) (length a.w.now)
    (length a.v.now) d.requires.0 d.requires.1 k g.ensures.few in
    sym (length-take-le k a.v.now n.6)

pub exact-requires : goal.exact-requires
exact-requires c =
    let d = c in
    let a = d.args in
    let g = c.gather-found in
    let k = g.result.count in
    let n = count-rows (length a.x.now) (length a.h.now) (length a.l.now) (length a.s.now) (length a.b.now) (length a.o.now) (length a.w.now)
    (length a.v.now) d.requires.0 d.requires.1 k g.ensures.few in
    let eh : length g.new.h ≡ length a.h.now = g.auto.h in
    let el : length g.new.l ≡ length a.l.now = g.auto.l in
    let es : length g.new.s ≡ length a.s.now = g.auto.s in
    let eb : length g.new.b ≡ length a.b.now = g.auto.b in
    let kh : k ≤ length g.new.h = omega (arith, n.0, eh) in
    let kl : k ≤ length g.new.l = omega (arith, n.1, el) in
    let ks : k ≤ length g.new.s = omega (arith, n.2, es) in
    let kb : k ≤ length g.new.b = omega (arith, n.3, eb) in
    let th = length-take-le k g.new.h kh in
    let tl = length-take-le k g.new.l kl in
    let ts = length-take-le k g.new.s ks in
    let tb = length-take-le k g.new.b kb in
    let to = length-take-le k a.o.now n.4 in
    let tw = length-take-le k a.w.now n.5 in
    let tv = length-take-le k a.v.now n.6 in
    let hw : length (take k g.new.h) ≤ length (take k a.w.now) = omega (arith, th, tw) in
    (tl ∙ sym th, ts ∙ sym th, tb ∙ sym th, to ∙ sym th, hw, tv ∙ sym th, starts-inside _ _ _ _ _ _ _ g.ensures kh)

pub print-requires : goal.print-requires
print-requires c =
    let d = c in
    let a = d.args in
    let g = c.gather-found in
    let k = g.result.count in
    let n = count-rows (length a.x.now) (length a.h.now) (length a.l.now) (length a.s.now) (length a.b.now) (length a.o.now) (length a.w.now)
    (length a.v.now) d.requires.0 d.requires.1 k g.ensures.few in
    let eh : length g.new.h ≡ length a.h.now = g.auto.h in
    let el : length g.new.l ≡ length a.l.now = g.auto.l in
    let es : length g.new.s ≡ length a.s.now = g.auto.s in
    let eb : length g.new.b ≡ length a.b.now = g.auto.b in
    let kh : k ≤ length g.new.h = omega (arith, n.0, eh) in
    let kl : k ≤ length g.new.l = omega (arith, n.1, el) in
    let ks : k ≤ length g.new.s = omega (arith, n.2, es) in
    let kb : k ≤ length g.new.b = omega (arith, n.3, eb) in
    let e = c.exact.new.v in
    let le : length e ≡ length (take k a.v.now) = c.exact.auto.v in
    let tv = length-take-le k a.v.now n.6 in
    let gc = good-count _ _ _ _ _ _ _ g.ensures kh kl ks kb in
    let z : length (goods (lines a.x.now)) ≤ length (e ++ drop k a.v.now) = omega (arith, gc, le, tv, length-append e (drop k a.v.now)) in
    z

pub returns : goal.returns
returns c =
    let d = c in
    all-printed _ _ _ _ _ _ _ c.gather-found.ensures _ _ _ _ _ d.requires.0 c.exact.ensures c.print.ensures
