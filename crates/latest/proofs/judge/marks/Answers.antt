-- `latest::judge::marks` meets its contract. Assumes nothing.
use native.Mathlib.Omega.{arith}
use mathlib.Core.Path.{◌≡◌, refl, ap₂, ◌∙◌}
use mathlib.Core.Bool.{Bool}
use Prim.Native.Nat.{◌<◌, ◌-◌}
use lib.ListN.{length, get_or, length-set}
use Rattle.latest.specs.Rows.{group, text}
use Rattle.latest.specs.Marks.{next_mark}
use Rattle.latest.proofs.Small.{marks-start, marks-more}
use Rattle.latest.proofs.judge.marks.Goals as goal

pub loop-k-init : goal.loop-k-init
loop-k-init c =
    let a = c.args in
    let q = c.requires in
    let z : 0 < length a.o.now = c.if-n-gt0.true in
    (omega arith, omega arith, refl, refl, marks-start (group a.rows.now) (text a.rows.now) a.o.now a.w.now (omega (arith, q.0)))

pub bounds-w-k : goal.bounds-w-k
bounds-w-k c =
    let v = c.loop-k in
    let a = c.args in
    let q = c.requires in
    let w = v.w in
    let k = v.k in
    let o = a.o.now in
    let f = v.invariant in
    let wl : length w ≡ length a.w.now = f.3 ∙ length-set a.w.now 0 1 in
    omega (arith, q.0)

pub same_top-requires : goal.same_top-requires
same_top-requires c =
    let v = c.loop-k in
    let a = c.args in
    let q = c.requires in
    let w = v.w in
    let k = v.k in
    let o = a.o.now in
    let f = v.invariant in
    let wl : length w ≡ length a.w.now = f.3 ∙ length-set a.w.now 0 1 in
    (q.1 (k - 1) (omega arith), q.1 k (omega arith))

pub same_line-requires : goal.same_line-requires
same_line-requires c =
    let v = c.loop-k in
    let a = c.args in
    let q = c.requires in
    let w = v.w in
    let k = v.k in
    let o = a.o.now in
    let f = v.invariant in
    let wl : length w ≡ length a.w.now = f.3 ∙ length-set a.w.now 0 1 in
    (q.1 (k - 1) (omega arith), q.1 k (omega arith))

pub bounds-w-k-in-loop-k : goal.bounds-w-k-in-loop-k
bounds-w-k-in-loop-k c =
    let v = c.loop-k in
    let a = c.args in
    let q = c.requires in
    let w = v.w in
    let k = v.k in
    let o = a.o.now in
    let f = v.invariant in
    let wl : length w ≡ length a.w.now = f.3 ∙ length-set a.w.now 0 1 in
    omega (arith, q.0)

pub loop-k-preserved : goal.loop-k-preserved
loop-k-preserved c =
    let v = c.loop-k in
    let a = c.args in
    let q = c.requires in
    let w = v.w in
    let k = v.k in
    let o = a.o.now in
    let f = v.invariant in
    let wl : length w ≡ length a.w.now = f.3 ∙ length-set a.w.now 0 1 in
    let r = c.next_mark-mark.result in
    let e = length-set w k r in (
      omega arith,
      omega arith,
      f.2,
      e ∙ f.3,
      marks-more (group a.rows.now) (text a.rows.now) o w k r f.0 (omega (arith, q.0)) f.4
          (c.next_mark-mark.ensures ∙ ap₂ (λ (b d : Bool). next_mark (get_or w (k - 1) 0) b d) c.same_top.ensures c.same_line.ensures),
    )

pub shape_of-w : goal.shape_of-w
shape_of-w c =
    let v = c.loop-k in
    let a = c.args in
    let q = c.requires in
    let w = v.w in
    let k = v.k in
    let o = a.o.now in
    let f = v.invariant in
    let wl : length w ≡ length a.w.now = f.3 ∙ length-set a.w.now 0 1 in
    wl

pub returns-after-loop-k : goal.returns-after-loop-k
returns-after-loop-k c =
    let v = c.loop-k in
    let a = c.args in
    let q = c.requires in
    let w = v.w in
    let k = v.k in
    let o = a.o.now in
    let f = v.invariant in
    let wl : length w ≡ length a.w.now = f.3 ∙ length-set a.w.now 0 1 in
    λ p h. f.4 p (omega arith)
