-- `capi::state::head_of` meets its contract. Assumes nothing.
use mathlib.Core.Path.{◌∙◌}
use native.Mathlib.Omega.{arith}
use mir.Syntax.{w64}
use mir.ValLaws.{to_z_pos}
use Rattle.rounding.proofs.Machine.{told}
use Rattle.capi.proofs.Streams.{head}
use borrow.Author.Rules.{rules}
use Rattle.capi.proofs.state.head_of.Goals as goal

pub returns : goal.returns
returns c =
    let p = c.requires in
    head c.args.stream (to_z_pos w64 _ (omega (arith, p.to))) (to_z_pos w64 _ (omega (arith, p.count)))
    (told c.bit-refused.type_inv ∙ c.bit-refused.ensures) (told c.bit-closed.type_inv ∙ c.bit-closed.ensures)
    (told c.bit-finished.type_inv ∙ c.bit-finished.ensures)
    (search rules)
    (to_z_pos w64 _ (omega (arith, p.steps)))
