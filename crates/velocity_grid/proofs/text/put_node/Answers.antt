-- `velocity_grid::text::put_node` meets its contract. Assumes nothing.
use borrow.Author.Rules.{rules}
use native.Mathlib.Omega.{arith}
use mathlib.Core.Path.{◌≡◌, refl, ◌∙◌, ap}
use mathlib.Core.List.{List, [], ◌∷◌}
use Prim.Native.Nat.{ℕ, ◌+◌, ◌≤◌}
use lib.IntN.{ℤ}
use lib.ListN.{length}
use lib.Seq.{sets}
use borrow.Rule.Slice.PartMut.{put_mid}
use mir.Syntax.{w64}
use mir.Val.{SFits}
use mir.ValLaws.{to_z-of_z}
use Rattle.line.specs.declared.VelocityParts.{VelocityParts}
use Rattle.velocity_grid.specs.Text.{values_of, three_numbers}
use Rattle.velocity_grid.proofs.Slices.{put-sets}
use Rattle.velocity_grid.proofs.text.put_node.Goals as goal

put : (l : List ℤ) (i k : ℕ) (p q : VelocityParts) {xs : List ℤ} → xs ≡ three_numbers p → p ≡ q → k ≡ 3 → i + 3 ≤ length l → put_mid i k l xs ≡ sets l i (three_numbers q)
put l i k p q a e f h = rw (a, e, f) (put-sets l (three_numbers q) i 3 refl h)

pub returns : goal.returns
returns c =
    let p = c.values-p.result in
    let x : SFits w64 p.east = search rules in
    let y : SFits w64 p.north = search rules in
    let z : SFits w64 p.up = search rules in
    put c.args.nodes.now c.args.at _ p _ (c.copy_from_slice.ensures.after ∙ rw (to_z-of_z w64 _ x, to_z-of_z w64 _ y, to_z-of_z w64 _ z)) c.values-p.ensures (omega arith)
    (omega (arith, c.requires, c.told-nodes))
