-- `rounding::decimals::signed` meets its contract: `Pattern` has the sign as the machine works it out. Assumes nothing.
use mathlib.Core.Path.{sym, ap, ◌∙◌}
use mathlib.Core.Bool.{Bool}
use mir.Syntax.{w64}
use mir.ValLaws.{to_z_pos}
use Rattle.rounding.specs.Decimals.{with_sign}
use Rattle.rounding.proofs.decimals.Pattern.{neg-fits, negated}
use Rattle.rounding.proofs.decimals.signed.Goals as goal

pub overflow_sub-result : goal.overflow_sub-result
overflow_sub-result c = neg-fits c.args.n c.requires

pub returns-then-below_zero : goal.returns-then-below_zero
returns-then-below_zero c = negated c.args.n c.requires ∙ sym (ap (λ (s : Bool). with_sign s c.args.n) c.if-below_zero.true)

pub returns : goal.returns
returns c = to_z_pos w64 c.args.n c.requires ∙ sym (ap (λ (s : Bool). with_sign s c.args.n) c.if-below_zero.false)
