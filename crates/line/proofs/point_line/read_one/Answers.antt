-- `line::point_line::read_one` meets its contract. Assumes nothing.
use Rattle.std.proofs.Common.{sym, ap, ◌∙◌, to_z-of_z}
use Rattle.line.specs.Answers.{PlacedLine}
use Rattle.line.proofs.AsWritten.{placed_end, one-whole}
use Rattle.line.proofs.point_line.read_one.Goals as goal

pub returns-then-r-line : goal.returns-then-r-line
returns-then-r-line c =
    let r = rw (to_z-of_z c.ranges.profile) at c.read_placed-r.ensures in
    let e = sym (ap (λ (p : PlacedLine). p.end) r ∙ placed_end c.args.profile c.args.line.now 0) ∙ c.if-r-line.true in
    r ∙ one-whole c.args.profile c.args.line.now e
