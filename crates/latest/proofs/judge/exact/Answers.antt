-- `latest::judge::exact` meets its contract. Assumes nothing.
use native.Mathlib.Omega.{arith}
use mathlib.Core.Path.{◌≡◌, ◌∙◌}
use Prim.Native.Nat.{◌<◌}
use lib.ListN.{length}
use Rattle.latest.proofs.Judging.{ordered}
use Rattle.latest.proofs.judge.exact.Goals as goal

pub sort-requires : goal.sort-requires
sort-requires c =
    let a = c.args in
    let q = c.requires in
    let x = c.number.new.o in
    let xl : length x ≡ length a.o.now = c.number.auto.o in
    (omega (arith, q.3, q.4), λ p h. omega (arith, q.3, c.number.ensures p (omega arith)))

pub judge-requires : goal.judge-requires
judge-requires c =
    let a = c.args in
    let q = c.requires in
    let x = c.number.new.o in
    let xl : length x ≡ length a.o.now = c.number.auto.o in
    let y = c.sort.new.o in
    let yl : length y ≡ length x = c.sort.auto.o in
    let w = c.sort.new.w in
    let wl : length w ≡ length a.w.now = c.sort.auto.w in
    let small : length a.h.now < 18446744073709551616 = omega (arith, c.well_formed.0) in
    record {
      room = (omega (arith, q.3, q.4), q.5);
      order = ordered a.h.now a.l.now a.s.now x y (length a.o.now) small q.3 xl yl c.number.ensures c.sort.ensures;
    }

pub shape_of-o : goal.shape_of-o
shape_of-o c =
    let a = c.args in
    let q = c.requires in
    let x = c.number.new.o in
    let xl : length x ≡ length a.o.now = c.number.auto.o in
    let y = c.sort.new.o in
    let yl : length y ≡ length x = c.sort.auto.o in
    let w = c.sort.new.w in
    let wl : length w ≡ length a.w.now = c.sort.auto.w in
    yl ∙ xl

pub shape_of-w : goal.shape_of-w
shape_of-w c =
    let a = c.args in
    let q = c.requires in
    let x = c.number.new.o in
    let xl : length x ≡ length a.o.now = c.number.auto.o in
    let y = c.sort.new.o in
    let yl : length y ≡ length x = c.sort.auto.o in
    let w = c.sort.new.w in
    let wl : length w ≡ length a.w.now = c.sort.auto.w in
    c.judge.auto.w ∙ wl

pub shape_of-v : goal.shape_of-v
shape_of-v c = c.judge.auto.v

pub returns : goal.returns
returns c = c.judge.ensures
