-- `capi::status::minus` meets its contract. Assumes nothing.
use mathlib.Core.Path.{◌∙◌, ap}
use native.Mathlib.Omega.{arith}
use lib.IntN.{pos, neg_ℤ}
use mir.Syntax.{w64}
use mir.Val.{SFits}
use Rattle.refusal.specs.Refusals.{number}
use Rattle.refusal.specs.declared.Refusal.{Refusal}
use Rattle.refusal.proofs.Refusals.{short-number}
use Rattle.rounding.proofs.Zn.{abs_neg}
use Rattle.rounding.proofs.Machine.{told, fits, rd0-}
use Rattle.capi.proofs.status.minus.Goals as goal

small : (e : Refusal) → SFits w64 (neg_ℤ (pos (number e)))
small e = fits (number e) (omega (arith, abs_neg (pos (number e)))) (omega (arith, short-number e))

pub returns : goal.returns
returns c = rd0- (told c.from.type_inv ∙ c.from.ensures ∙ ap pos c.number.ensures) (small c.args.refusal)
