-- `sheet_stream::end_line` meets its contract. What the rules answered. Assumes nothing.
use mathlib.Core.Path.{◌∙◌}
use Rattle.sheet_stream.specs.Fragments.{no_bytes}
use Rattle.sheet_stream.proofs.Scanning as L
use Rattle.sheet_stream.proofs.end_line.Goals as goal

pub returns-in_default : goal.returns-in_default
returns-in_default c =
    let a = c.args in
    c.refused.ensures ∙ L.ended-unsound a.stream a.line.now a.taken a.finished _ c.answer_line-answered.ensures c.in_default.is

pub returns : goal.returns
unfolding no_bytes
returns c =
    let a = c.args in
    L.ended-replied a.stream a.line.now a.taken a.finished _ c.answer_line-answered.ensures _ c.in-Some.is
