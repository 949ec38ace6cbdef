-- `velocity_grid::nodes::known` meets its contract: three numbers, each in the range. Assumes nothing.
use borrow.Author.Rules.{rules}
use mathlib.Core.Bool.{◌&&◌}
use mathlib.Core.Path.{◌≡◌, sym, ◌∙◌, ap}
use Prim.Native.Nat.{ℕ, ◌*◌}
use native.Mathlib.Nat.{add-zero}
use lib.IntN.{ℤ, pos}
use lib.ListN.{get_or}
use Rattle.rounding.proofs.Machine.{rd, of₃}
use Rattle.velocity_grid.specs.AtPoint.{part_range, known}
use Rattle.velocity_grid.proofs.nodes.known.Goals as goal

pub returns : goal.returns
unfolding known
returns c =
    let c2 = c.before.before in
    let s = c2 in
    c.three_within.ensures
    ∙ of₃ (λ (x y z : ℤ). part_range x && part_range y && part_range z)
    (rd (record { sfits = c2.number-east.type_inv }) ∙ c2.number-east.ensures ∙ ap (λ (i : ℕ). get_or s.args.nodes.now i (pos 0)) (sym (add-zero (3 * s.args.node))))
    (rd (record { sfits = c2.number-north.type_inv }) ∙ c2.number-north.ensures)
    (rd (record { sfits = c.number-up.type_inv }) ∙ c.number-up.ensures)
