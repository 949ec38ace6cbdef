-- `line::second_look::is_counted` meets its contract. Assumes nothing.
use Rattle.std.proofs.Common.{eqb, List, length, ap, ◌∙◌}
use Rattle.line.specs.Fields.{fields}
use Rattle.line.specs.Malformed.{Class}
use Rattle.line.proofs.second_look.is_counted.Goals as goal

pub returns : goal.returns
returns c =
    let n = length (fields c.args.s.now) in
    c.has_count.ensures ∙ ap (λ (cs : List Class). eqb n (length cs)) c.kind_in.ensures
