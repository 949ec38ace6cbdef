-- `sheet_rules::decide::whole::printed::print_point` meets its contract. Assumes nothing.
use mathlib.Core.Path.{◌≡◌}
use native.Mathlib.Omega.{arith}
use borrow.Author.Rules.{rules}
use mir.Syntax.{w64}
use mir.Val.{to_z, of_z}
use Rattle.sheet_rules.proofs.Laws.{holds-on}
use Rattle.sheet_rules.proofs.decide.whole.printed.print_point.Goals as goal

pub returns : goal.returns
returns c =
    λ s h.
    let st = c.print_read-printed.result.state in
    let y : to_z w64 (of_z w64 st.profile) ≡ st.profile = search rules in
    let g = c.print_read-printed.ensures s h in
    record { wrote = g.wrote; holds = holds-on st _ _ y g.holds (omega (arith, h.line)) }
