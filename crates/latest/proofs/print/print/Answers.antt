-- `latest::print::print` meets its contract. Assumes nothing.
use native.Mathlib.Omega.{arith}
use mathlib.Core.Path.{◌≡◌, sym, ap, ◌∙◌}
use Prim.Native.Nat.{◌<◌}
use lib.ListN.{length}
use Rattle.chain.specs.Faults.{latest}
use Rattle.chain.specs.declared.Point.{Point}
use Rattle.line.specs.Answers.{Line}
use Rattle.line.specs.Answers as P
use Rattle.std.specs.Prelude.{Err}
use Rattle.refusal.specs.Refusals.{number}
use Rattle.line.specs.Answers.{line_told, fault_told}
use Rattle.line.specs.Lines.{line_at}
use Rattle.line.specs.Readers.{read_point}
use Rattle.line.proofs.Lines.{piece}
use Rattle.latest.specs.Columns.{row_after}
use Rattle.latest.proofs.Gathering.{read_as, ended}
use Rattle.latest.proofs.Printing.{printing-none, printing-good, printing-malformed, printing-refused, row_inside, printing-all}
use Rattle.latest.proofs.print.print.Goals as goal

pub loop-from-init : goal.loop-from-init
loop-from-init c = printing-none _ _ _ _ c.requires

pub offset_bounds-v-row : goal.offset_bounds-v-row
offset_bounds-v-row c =
    let k = c.loop-from in
    let a = c.args in
    let q = ended _ _ _ c.read_placed-read.ensures in
    let some : k.from < length a.x.now = c.loop-from-test.true in
    let p = c.in-Ok.p in
    let e : read_point latest (line_at a.x.now k.from) ≡ P.Good p = sym (read_as _ _ _ c.read_placed-read.ensures) ∙ ap line_told c.in-Ok.is in
    let i = row_inside _ _ _ _ _ _ _ _ _ _ q some k.invariant (ap (λ (r : Line Point). row_after r k.row) e) in
    omega (arith, i, c.well_formed.1.0)

pub bounds-v-row : goal.bounds-v-row
bounds-v-row c =
    let k = c.loop-from in
    let a = c.args in
    let q = ended _ _ _ c.read_placed-read.ensures in
    let some : k.from < length a.x.now = c.loop-from-test.true in
    let p = c.in-Ok.p in
    let e : read_point latest (line_at a.x.now k.from) ≡ P.Good p = sym (read_as _ _ _ c.read_placed-read.ensures) ∙ ap line_told c.in-Ok.is in
    let i = row_inside _ _ _ _ _ _ _ _ _ _ q some k.invariant (ap (λ (r : Line Point). row_after r k.row) e) in
    i

pub overflow_add-row : goal.overflow_add-row
overflow_add-row c =
    let k = c.loop-from in
    let a = c.args in
    let q = ended _ _ _ c.read_placed-read.ensures in
    let some : k.from < length a.x.now = c.loop-from-test.true in
    let p = c.in-Ok.p in
    let e : read_point latest (line_at a.x.now k.from) ≡ P.Good p = sym (read_as _ _ _ c.read_placed-read.ensures) ∙ ap line_told c.in-Ok.is in
    let i = row_inside _ _ _ _ _ _ _ _ _ _ q some k.invariant (ap (λ (r : Line Point). row_after r k.row) e) in
    record { fits = omega (arith, i, c.well_formed.1.0) }

pub overflow_add-number : goal.overflow_add-number
overflow_add-number c =
    let k = c.loop-from in
    let a = c.args in
    let q = ended _ _ _ c.read_placed-read.ensures in
    let some : k.from < length a.x.now = c.loop-from-test.true in
    record { fits = omega (arith, some, k.invariant.counted, c.well_formed.0) }

pub loop-from-smaller-in-Ok : goal.loop-from-smaller-in-Ok
loop-from-smaller-in-Ok c =
    let l = piece _ _ _ (ended _ _ _ c.read_placed-read.ensures) c.loop-from-test.true in
    omega arith

pub loop-from-preserved-in-Ok : goal.loop-from-preserved-in-Ok
loop-from-preserved-in-Ok c =
    let k = c.loop-from in
    let a = c.args in
    let q = ended _ _ _ c.read_placed-read.ensures in
    let some : k.from < length a.x.now = c.loop-from-test.true in
    let p = c.in-Ok.p in
    let e : read_point latest (line_at a.x.now k.from) ≡ P.Good p = sym (read_as _ _ _ c.read_placed-read.ensures) ∙ ap line_told c.in-Ok.is in
    printing-good _ _ _ _ _ _ _ _ _ _ q some k.invariant p e _ _ c.print_good-at.ensures

pub overflow_add-number-in-Err-Malformed : goal.overflow_add-number-in-Err-Malformed
overflow_add-number-in-Err-Malformed c =
    let k = c.loop-from in
    let a = c.args in
    let q = ended _ _ _ c.read_placed-read.ensures in
    let some : k.from < length a.x.now = c.loop-from-test.true in
    record { fits = omega (arith, some, k.invariant.counted, c.well_formed.0) }

pub loop-from-smaller-in-Err-Malformed : goal.loop-from-smaller-in-Err-Malformed
loop-from-smaller-in-Err-Malformed c =
    let l = piece _ _ _ (ended _ _ _ c.read_placed-read.ensures) c.loop-from-test.true in
    omega arith

pub loop-from-preserved-in-Err-Malformed : goal.loop-from-preserved-in-Err-Malformed
loop-from-preserved-in-Err-Malformed c =
    let k = c.loop-from in
    let a = c.args in
    let q = ended _ _ _ c.read_placed-read.ensures in
    let some : k.from < length a.x.now = c.loop-from-test.true in
    let p = c.in-Err-Malformed.f in
    let e : read_point latest (line_at a.x.now k.from) ≡ P.Malformed (fault_told p) = sym (read_as _ _ _ c.read_placed-read.ensures) ∙ ap line_told (c.in-Err-Malformed.is ∙ ap Err (rw c.in-Err-Malformed.is at c.in-Err-Malformed.field-0-is)) in
    printing-malformed _ _ _ _ _ _ _ _ _ _ q some k.invariant (fault_told p) e _ _ (rw c.number.ensures at c.write_refusal-at.ensures)

pub overflow_add-number-in-Err-Refused : goal.overflow_add-number-in-Err-Refused
overflow_add-number-in-Err-Refused c =
    let k = c.loop-from in
    let a = c.args in
    let q = ended _ _ _ c.read_placed-read.ensures in
    let some : k.from < length a.x.now = c.loop-from-test.true in
    record { fits = omega (arith, some, k.invariant.counted, c.well_formed.0) }

pub loop-from-smaller : goal.loop-from-smaller
loop-from-smaller c =
    let l = piece _ _ _ (ended _ _ _ c.read_placed-read.ensures) c.loop-from-test.true in
    omega arith

pub loop-from-preserved : goal.loop-from-preserved
loop-from-preserved c =
    let k = c.loop-from in
    let a = c.args in
    let q = ended _ _ _ c.read_placed-read.ensures in
    let some : k.from < length a.x.now = c.loop-from-test.true in
    let p = number c.in-Err-Refused.refusal in
    let e : read_point latest (line_at a.x.now k.from) ≡ P.Refused p = sym (read_as _ _ _ c.read_placed-read.ensures) ∙ ap line_told (c.in-Err-Refused.is ∙ ap Err (rw c.in-Err-Refused.is at c.in-Err-Refused.field-0-is)) in
    printing-refused _ _ _ _ _ _ _ _ _ _ q some k.invariant p e _ _ (rw c.number-in-Err-Refused.ensures at c.write_refusal-at-in-Err-Refused.ensures)

pub shape_of-out : goal.shape_of-out
shape_of-out c = c.loop-from.invariant.size

pub returns : goal.returns
returns c = printing-all _ _ _ _ _ _ _ _ _ (omega arith) c.loop-from.invariant
