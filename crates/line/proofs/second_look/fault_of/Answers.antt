-- `line::second_look::fault_of` meets its contract. Assumes nothing.
use Rattle.std.proofs.Common.{ℕ, take, sym, ap, ◌∙◌, arith, length-take-le}
use Rattle.refusal.specs.Numbers as refusal
use Rattle.line.specs.Fields.{fields}
use Rattle.line.specs.Malformed.{fault, fields_fault, fault_of}
use Rattle.line.specs.SecondLook.{shape_of}
use Rattle.line.proofs.Malformed.{body-length, end_low}
use Rattle.line.proofs.SecondLook as L
use Rattle.line.proofs.second_look.fault_of.Goals as goal

pub slice_bounds-s-end : goal.slice_bounds-s-end
slice_bounds-s-end c = sym (length-take-le _ _ (omega arith))

pub fields_fault-requires : goal.fields_fault-requires
fields_fault-requires c =
    let line = c.args.line.now in
    let end = c.body_end-end.result in
    let b = body-length line (take end line) (L.body-some line end c.body_end-end.ensures (omega arith)) in
    record { s_len_bound = omega arith; end_bound = omega (arith, c.end_of-last.ensures, end_low line) }

pub returns-then-end-line : goal.returns-then-end-line
unfolding fault_of
returns-then-end-line c =
    let g = c.args in
    let line = g.line.now in
    let end = c.body_end-end.result in
    let fs = fields (take end line) in
    c.fields_fault.ensures
    ∙ rw (L.body-some line end c.body_end-end.ensures (omega arith))
    (ap (λ (e : ℕ). fields_fault (shape_of g.first fs) e fs) c.end_of-last.ensures)

pub found-requires : goal.found-requires
found-requires c = omega (arith, c.end_of-last.ensures, end_low c.args.line.now)

pub returns : goal.returns
unfolding fault_of
returns c =
    let line = c.args.line.now in
    c.found.ensures
    ∙ rw (L.body-none line c.body_end-end.result c.body_end-end.ensures (omega arith))
    (ap (fault refusal.length) c.end_of-last.ensures)
