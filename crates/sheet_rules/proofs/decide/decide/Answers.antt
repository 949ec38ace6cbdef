-- `sheet_rules::decide::decide` meets its contract. Assumes nothing.
use mathlib.Core.Path.{◌≡◌}
use native.Mathlib.Omega.{arith}
use borrow.Author.Rules.{rules}
use mir.Syntax.{w64}
use mir.Val.{to_z, of_z}
use Rattle.sheet_rules.proofs.Laws.{holds-on, next-line}
use Rattle.sheet_rules.proofs.decide.decide.Goals as goal

pub returns : goal.returns
returns c =
    λ s h.
    let st = c.examine-examined.result.state in
    let y : to_z w64 (of_z w64 st.profile) ≡ st.profile = search rules in
    let g = c.examine-examined.ensures s h in
    record { reply = g.reply; holds = holds-on st _ _ y g.holds (omega (arith, h.line, next-line s c.args.text.now)) }
