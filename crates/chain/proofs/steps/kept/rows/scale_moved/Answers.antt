-- `chain::steps::kept::rows::scale_moved` meets its contract: figures that were tested are no larger than any step gives. Assumes nothing.
use Rattle.std.proofs.Common.{sym, ◌∙◌}
use Rattle.chain.specs.declared.steps.Ready.TheVariants.{Scaled}
use Rattle.chain.proofs.KeptRows.{range-ok}
use Rattle.chain.proofs.steps.kept.rows.scale_moved.Goals as goal

pub scale_by-requires : goal.scale_by-requires
scale_by-requires c = (range-ok (Scaled c.args.t) (sym c.scale_in_range.ensures ∙ c.if-not-scale_in_range.false), c.requires)
