-- `latest::gather::gather` meets its contract. Assumes nothing.
use native.Mathlib.Omega.{arith}
use mathlib.Core.Path.{◌≡◌, sym, ap, ◌∙◌}
use Prim.Native.Nat.{◌<◌}
use mathlib.Core.Bool.{true}
use lib.ListN.{length}
use Rattle.chain.specs.Faults.{latest}
use Rattle.line.specs.Answers as P
use Rattle.line.specs.Answers.{line_told}
use Rattle.line.specs.Lines.{line_at}
use Rattle.line.specs.Readers.{read_point}
use Rattle.line.proofs.Lines.{piece}
use Rattle.latest.specs.Pile.{is_bad}
use Rattle.latest.proofs.Gathering.{read_as, unread-bad, ended, gathering-none, gathering-bad, gathering-put, row-left, gathered}
use Rattle.latest.proofs.gather.gather.Goals as goal

pub loop-at-init : goal.loop-at-init
loop-at-init c = gathering-none _ _ _ _ _

pub put_row-requires : goal.put_row-requires
put_row-requires c =
    let k = c.loop-at in
    let a = c.args in
    let q = ended _ _ _ c.read_placed-read.ensures in
    let some : k.at < length a.x.now = c.loop-at-test.true in
    let p = c.in-Ok.p in
    let e : read_point latest (line_at a.x.now k.at) ≡ P.Good p = sym (read_as _ _ _ c.read_placed-read.ensures) ∙ ap line_told c.in-Ok.is in
    let i = (piece _ _ _ q some).inside in
    let n = row-left _ _ _ _ _ _ _ _ _ _ _ _ _ q some k.invariant p e in
    let r = c.requires in
    let kh : k.count < length k.h = omega (arith, i, n, r.0, k.invariant.high) in
    let kl : k.count < length k.l = omega (arith, i, n, r.1, k.invariant.low) in
    let ks : k.count < length k.s = omega (arith, i, n, r.2, k.invariant.issue) in
    let kb : k.count < length k.b = omega (arith, i, n, r.3, k.invariant.start) in
    (kh, kl, ks, kb)

pub overflow_add-count : goal.overflow_add-count
overflow_add-count c =
    let k = c.loop-at in
    let a = c.args in
    let q = ended _ _ _ c.read_placed-read.ensures in
    let some : k.at < length a.x.now = c.loop-at-test.true in
    let p = c.in-Ok.p in
    let e : read_point latest (line_at a.x.now k.at) ≡ P.Good p = sym (read_as _ _ _ c.read_placed-read.ensures) ∙ ap line_told c.in-Ok.is in
    let i = (piece _ _ _ q some).inside in
    let n = row-left _ _ _ _ _ _ _ _ _ _ _ _ _ q some k.invariant p e in
    let r = c.requires in
    let kh : k.count < length k.h = omega (arith, i, n, r.0, k.invariant.high) in
    let kl : k.count < length k.l = omega (arith, i, n, r.1, k.invariant.low) in
    let ks : k.count < length k.s = omega (arith, i, n, r.2, k.invariant.issue) in
    let kb : k.count < length k.b = omega (arith, i, n, r.3, k.invariant.start) in
    record { fits = omega (arith, i, n, c.well_formed.0) }

pub loop-at-smaller-in-Ok : goal.loop-at-smaller-in-Ok
loop-at-smaller-in-Ok c =
    let l = piece _ _ _ (ended _ _ _ c.read_placed-read.ensures) c.loop-at-test.true in
    omega arith

pub loop-at-preserved-in-Ok : goal.loop-at-preserved-in-Ok
loop-at-preserved-in-Ok c =
    let k = c.loop-at in
    let a = c.args in
    let q = ended _ _ _ c.read_placed-read.ensures in
    let some : k.at < length a.x.now = c.loop-at-test.true in
    let p = c.in-Ok.p in
    let e : read_point latest (line_at a.x.now k.at) ≡ P.Good p = sym (read_as _ _ _ c.read_placed-read.ensures) ∙ ap line_told c.in-Ok.is in
    let i = (piece _ _ _ q some).inside in
    let n = row-left _ _ _ _ _ _ _ _ _ _ _ _ _ q some k.invariant p e in
    let r = c.requires in
    let kh : k.count < length k.h = omega (arith, i, n, r.0, k.invariant.high) in
    let kl : k.count < length k.l = omega (arith, i, n, r.1, k.invariant.low) in
    let ks : k.count < length k.s = omega (arith, i, n, r.2, k.invariant.issue) in
    let kb : k.count < length k.b = omega (arith, i, n, r.3, k.invariant.start) in
    let z = c.put_row.ensures in
    gathering-put _ _ _ _ _ _ _ _ _ _ _ _ _ q some k.invariant _ _ _ _ p e kh kl ks kb z.0 z.1 z.2 z.3

pub loop-at-smaller : goal.loop-at-smaller
loop-at-smaller c =
    let l = piece _ _ _ (ended _ _ _ c.read_placed-read.ensures) c.loop-at-test.true in
    omega arith

pub loop-at-preserved : goal.loop-at-preserved
loop-at-preserved c =
    let k = c.loop-at in
    let a = c.args in
    let q = ended _ _ _ c.read_placed-read.ensures in
    let some : k.at < length a.x.now = c.loop-at-test.true in
    let e : is_bad (read_point latest (line_at a.x.now k.at)) ≡ true = ap is_bad (sym (read_as _ _ _ c.read_placed-read.ensures) ∙ ap line_told c.in-Err.is) ∙ unread-bad _ in
    gathering-bad _ _ _ _ _ _ _ _ _ _ _ _ _ q some k.invariant e

pub shape_of-h : goal.shape_of-h
shape_of-h c = c.loop-at.invariant.high

pub shape_of-l : goal.shape_of-l
shape_of-l c = c.loop-at.invariant.low

pub shape_of-s : goal.shape_of-s
shape_of-s c = c.loop-at.invariant.issue

pub shape_of-b : goal.shape_of-b
shape_of-b c = c.loop-at.invariant.start

pub returns : goal.returns
returns c = gathered _ _ _ _ _ _ _ _ _ _ _ _ (omega arith) c.loop-at.invariant
