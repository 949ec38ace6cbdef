-- `line::point_line::read_placed` meets its contract. Assumes nothing.
use Rattle.std.proofs.Common.{◌≡◌, ℕ, List, length, take, ℤ, sym, ap, ◌∙◌, arith, length-take-le, take_all, to_z-of_z}
use Rattle.chain.specs.Faults.{point_fault}
use Rattle.line.specs.Answers.{Good, Refused}
use Rattle.line.specs.Lines.{line_at, line_end}
use Rattle.line.specs.Readers.{judged}
use Rattle.line.proofs.AsWritten.{placed, one-read}
use Rattle.line.proofs.Lines.{rest, line-inside, line-at, line_of, line-past}
use Rattle.line.proofs.PointAnswers.{answer, answered, good}
use Rattle.line.proofs.point_line.read_placed.Goals as goal

pub returns-then-input-from : goal.returns-then-input-from
returns-then-input-from c =
    let w = line-past c.args.input.now c.args.from (omega arith) in
    placed c.args.profile c.args.input.now c.args.from (rw (← w.0) (rw (to_z-of_z c.ranges.profile) at (one-read _ _ c.read_alone-none.ensures))) w.1

pub overflow_add-result : goal.overflow_add-result
overflow_add-result c =
    let f = rw (rest c.args.input.now c.args.from) at (c.in-Some.ensures) in
    let w = line_of c.args.input.now c.args.from _ f.ends in
    let i = line-inside c.args.input.now c.args.from _ w.1 (omega arith) in
    record { fits = omega (arith, i.1) }

pub returns-in-Some : goal.returns-in-Some
returns-in-Some c =
    let f = rw (rest c.args.input.now c.args.from) at (c.in-Some.ensures) in
    let y = c.args.profile in
    let w = line_of c.args.input.now c.args.from _ f.ends in
    let l = line_at c.args.input.now c.args.from in
    let j = c.judge_point.ensures ∙ ap (λ (z : ℤ). judged (point_fault z) Good Refused c.in-Some.first.point) (to_z-of_z c.ranges.profile) in
    let says = rw w.0 at f.says in
    placed y c.args.input.now c.args.from (answered y l (good y l j f.point f.told ∙ ap (answer y l) (sym says))) w.1

-- where the line ends, of the input as it came
pub slice_bounds-line_end-end : goal.slice_bounds-line_end-end
slice_bounds-line_end-end c = sym (length-take-le _ _ (omega arith))

end_is : (s : List ℕ) (at : ℕ) → line_end (take (length s) s) at ≡ line_end s at
end_is s at = ap (λ (l : List ℕ). line_end l at) (take_all (length s) s (omega arith))

pub slice_bounds-read_alone-count : goal.slice_bounds-read_alone-count
slice_bounds-read_alone-count c = let l = line-inside _ _ _ (c.line_end-end.ensures ∙ end_is c.args.input.now c.args.from) (omega arith) in omega arith

pub slice_bounds-read_alone-end-2 : goal.slice_bounds-read_alone-end-2
slice_bounds-read_alone-end-2 c = let l = line-inside _ _ _ (c.line_end-end.ensures ∙ end_is c.args.input.now c.args.from) (omega arith) in omega arith

pub slice_bounds-read_alone-start : goal.slice_bounds-read_alone-start
slice_bounds-read_alone-start c = let l = line-inside _ _ _ (c.line_end-end.ensures ∙ end_is c.args.input.now c.args.from) (omega arith) in omega arith

pub returns : goal.returns
returns c =
    let e = c.line_end-end.ensures ∙ end_is c.args.input.now c.args.from in
    placed c.args.profile c.args.input.now c.args.from
    (rw (line-at c.args.input.now c.args.from _ e) at (rw (to_z-of_z c.ranges.profile) at (one-read _ _ c.read_alone-r.ensures))) e
