-- `oblique_mercator::making::make_projection` meets its contract: the ranges decide, and then the values. Assumes nothing.
use mathlib.Core.Path.{sym, ap, ◌∙◌}
use Rattle.oblique_mercator.specs.Projection.{projection_of}
use Rattle.std.specs.Prelude.{Ok}
use Rattle.oblique_mercator.proofs.making.make_projection.Goals as goal

pub returns-then-not-in_range : goal.returns-then-not-in_range
unfolding projection_of
returns-then-not-in_range c = let e = sym c.in_range.ensures ∙ c.if-not-in_range.true in rw e

pub made-requires : goal.made-requires
made-requires c = sym c.in_range.ensures ∙ c.if-not-in_range.false

pub returns : goal.returns
unfolding projection_of
returns c = let e = sym c.in_range.ensures ∙ c.if-not-in_range.false in rw e (ap Ok c.made.ensures)
