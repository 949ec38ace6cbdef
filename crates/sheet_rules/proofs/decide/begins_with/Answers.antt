-- `sheet_rules::decide::begins_with` meets its contract. Of no bytes the first is 0, no line's letter. Assumes nothing.
use mathlib.Core.Path.{◌≡◌, sym}
use native.Mathlib.Omega.{arith}
use borrow.Author.Tests.{ne_eqb}
use lib.ListN.{get_or}
use Rattle.sheet_rules.proofs.Laws.{first-none}
use Rattle.sheet_rules.proofs.decide.begins_with.Goals as goal

pub returns-in-None : goal.returns-in-None
returns-in-None c =
    let t = c.args.text.now in
    let z : get_or t 0 0 ≡ 0 = first-none t c.in-None.ensures.value in
    sym (ne_eqb (get_or t 0 0) c.args.letter (λ e. omega (arith, z, e, c.requires)))
