-- `chain::steps::kept::rows::fixed_moved` meets its contract: figures that were tested are no larger than any step gives. Assumes nothing.
use Rattle.std.proofs.Common.{sym, ◌∙◌}
use Rattle.chain.specs.declared.steps.Ready.TheVariants.{Fixed}
use Rattle.chain.proofs.KeptRows.{range-ok}
use Rattle.chain.proofs.steps.kept.rows.fixed_moved.Goals as goal

pub fixed_by-requires : goal.fixed_by-requires
fixed_by-requires c = (range-ok (Fixed c.args.g) (sym c.fixed_in_range.ensures ∙ c.if-not-fixed_in_range.false), c.requires)
