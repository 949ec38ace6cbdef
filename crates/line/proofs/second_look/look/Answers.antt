-- `line::second_look::look` meets its contract. Assumes nothing.
use Rattle.std.proofs.Common.{ℕ, eqb, ap, ◌∙◌, arith}
use mathlib.Core.Option.{Option}
use Rattle.refusal.specs.Numbers as refusal
use Rattle.line.specs.Malformed.{Class}
use Rattle.line.specs.Reading.{from}
use Rattle.line.specs.SecondLook.{classes_of, first_fault}
use Rattle.line.proofs.SecondLook as L
use Rattle.line.proofs.second_look.look.Goals as goal

pub loop-at-init : goal.loop-at-init
loop-at-init c = let g = c.args in L.looking g.s.now (classes_of g.first g.kind)

pub loop-at-preserved : goal.loop-at-preserved
loop-at-preserved c =
    let k = c in
    let fault = λ (n : ℕ) (o : Option Class). eqb (first_fault o (from k.args.s.now k.loop-at.at)) n in
    L.looking-on k.loop-at.invariant (omega arith) k.after-at.ensures (k.is_bad_id.ensures ∙ ap (fault refusal.id) k.class_at-awaited.ensures)
    (rw k.then_some.ensures at k.or-id.ensures) (k.is_bad_number.ensures ∙ ap (fault refusal.plain) k.class_at-awaited.ensures)
    (rw k.then_some-in-loop-at.ensures at k.or-plain.ensures)

pub returns : goal.returns
returns c = L.looked c.loop-at.invariant (omega arith)
