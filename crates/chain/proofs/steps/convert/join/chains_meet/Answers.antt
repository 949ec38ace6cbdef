-- `chain::steps::convert::join::chains_meet` meets its contract. Assumes nothing.
use mathlib.Core.Path.{sym, ◌∙◌, ap, ap₂}
use lib.IntN.{pos}
use Rattle.chain.specs.declared.Realization.{Realization}
use Rattle.chain.specs.Faults.{same_realization, steps_of}
use Rattle.chain.specs.Convert.{start_of, end_of}
use Rattle.chain.proofs.Joins.{met}
use Rattle.chain.proofs.Within.{one_place}
use Rattle.chain.proofs.steps.convert.join.chains_meet.Goals as goal

pub end_of-end-requires : goal.end_of-end-requires
end_of-end-requires c = c.requires

pub returns : goal.returns
returns c =
    let s = c.args in
    let anywhere : Realization = record { datum = pos 0; epoch = pos 0 } in
    let end = c.end_of-end.ensures ∙ ap (λ (r : Realization). end_of r (steps_of s.first)) c.start_of.ensures in
    let start = c.start_of-start.ensures ∙ ap (λ (r : Realization). start_of r (steps_of s.second)) end in
    sym (one_place c.end_of-end.result c.start_of-start.result c.eq.result c.eq.ensures) ∙ ap₂ same_realization end start ∙ met anywhere (steps_of s.first) (steps_of s.second)
