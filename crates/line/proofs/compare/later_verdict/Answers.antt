-- `line::compare::later_verdict` meets its contract. Assumes nothing.
use Rattle.std.proofs.Common.{◌∙◌}
use Rattle.line.specs.Later.{later_of}
use Rattle.line.proofs.Compared as K
use Rattle.line.proofs.compare.later_verdict.Goals as goal

pub returns : goal.returns
unfolding later_of
returns c =
    let g = c.args in
    c.by_issue.ensures ∙ rw (c.eq-equal.ensures ∙ K.same_is g.first.now g.second.now, c.read_point-b.ensures, c.read_point-a.ensures)
