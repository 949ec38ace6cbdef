-- `chain::steps::kept::rows::turn_moved` meets its contract: figures that were tested are no larger than any step gives. Assumes nothing.
use Rattle.std.proofs.Common.{sym, ◌∙◌}
use Rattle.chain.specs.declared.steps.Ready.TheVariants.{Turned}
use Rattle.chain.proofs.KeptRows.{range-ok}
use Rattle.chain.proofs.steps.kept.rows.turn_moved.Goals as goal

pub turn_by-requires : goal.turn_by-requires
turn_by-requires c = (range-ok (Turned c.args.t) (sym c.turn_in_range.ensures ∙ c.if-not-turn_in_range.false), c.requires)
