-- `sheet_rules::decide::lent::is_sound_at` meets its contract. Assumes nothing.
use mathlib.Core.Path.{◌≡◌, ◌∙◌, ap, ap₂}
use mathlib.Core.Bool.{◌&&◌}
use lib.IntN.{ℤ}
use mir.Syntax.{w64}
use mir.Val.{to_z, of_z}
use borrow.Author.Rules.{rules}
use Rattle.refusal.specs.Order.{first}
use Rattle.chain.specs.Faults.{chain_tests}
use Rattle.chain.specs.Numbers.{chain_from}
use Rattle.sheet_rules.specs.OneLine.{sound_at}
use Rattle.sheet_rules.proofs.Answers.{good-fault}
use Rattle.sheet_rules.proofs.decide.lent.is_sound_at.Goals as goal

pub returns : goal.returns
unfolding sound_at
returns c =
    let a = c.args in
    let y : to_z w64 (of_z w64 a.profile) ≡ a.profile = search rules in
    ap₂ ◌&&◌ c.is_counted.ensures (c.is_ok.ensures.value ∙ good-fault _ (c.fault_in.ensures ∙ ap (λ (z : ℤ). first (chain_tests (chain_from z a.steps.now))) y))
