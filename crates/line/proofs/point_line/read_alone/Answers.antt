-- `line::point_line::read_alone` meets its contract. Assumes nothing.
use Rattle.std.proofs.Common.{ℤ, sym, refl, ap, ◌∙◌, arith, length-take-le, to_z-of_z}
use Rattle.refusal.proofs.Refusals.{above-none}
use Rattle.chain.specs.Faults.{point_fault}
use Rattle.line.specs.Answers.{Fault, Good, Refused}
use Rattle.line.specs.Malformed.{point_shape}
use Rattle.line.specs.Readers.{judged}
use Rattle.line.proofs.AsWritten.{one}
use Rattle.line.proofs.Malformed.{body-length, fault-of-whole}
use Rattle.line.proofs.PointAnswers.{answered, bodied, faulty, whole}
use Rattle.line.proofs.point_line.read_alone.Goals as goal

pub slice_bounds-fault_of-end : goal.slice_bounds-fault_of-end
slice_bounds-fault_of-end c = sym (length-take-le _ _ (omega arith))

pub returns-in-Err : goal.returns-in-Err
returns-in-Err c =
    let l = c.args.line.now in
    one c.args.profile l (answered c.args.profile l (faulty c.args.profile l (c.in-Err.ensures ∙ fault-of-whole point_shape l) (above-none c.in-Err.fault.refusal))) refl

pub slice_bounds-point_fields-count : goal.slice_bounds-point_fields-count
slice_bounds-point_fields-count c =
    let l = c.args.line.now in
    let b = bodied c.args.profile l (ap (λ (f : Fault). f.number) (c.in_default.ensures ∙ fault-of-whole point_shape l)) in
    omega (arith, body-length l b.0 b.1)

pub returns : goal.returns
returns c =
    let y = c.args.profile in
    let l = c.args.line.now in
    let j = c.judge_point.ensures ∙ ap (λ (z : ℤ). judged (point_fault z) Good Refused c.point_fields-place.result.record.0) (to_z-of_z c.ranges.profile) in
    one y l (answered y l (whole y l (ap (λ (f : Fault). f.number) (c.in_default.ensures ∙ fault-of-whole point_shape l)) c.point_fields-place.ensures j)) refl
