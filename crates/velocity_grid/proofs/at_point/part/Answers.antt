-- `velocity_grid::at_point::part` meets its contract: the bilinear rule over the cell's nodes. Assumes nothing.
use borrow.Author.Rules.{rules}
use mathlib.Core.Path.{sym, ◌∙◌, ap, subst}
use lib.IntN.{ℤ}
use Rattle.rounding.proofs.Machine.{rd, to₃, of₃, told}
use Rattle.velocity_grid.specs.AtPoint.{part_of}
use Rattle.velocity_grid.specs.Bilinear.{bilinear, CellOk}
use Rattle.velocity_grid.specs.declared.Corners.{Corners}
use Rattle.velocity_grid.proofs.AtPoint.{cell-ok}
use Rattle.velocity_grid.proofs.at_point.part.Goals as goal

pub bilinear-requires : goal.bilinear-requires
bilinear-requires c =
    let b = c in
    let s = c in
    let t = c.struct_told-3-1.given in
    let q = s.args.c in
    to₃ (λ (m x y : ℤ). CellOk m x y b.corners-values.result) (told {z = q.mesh} t.1.1.0.1) (told {z = q.east} t.1.1.1.0.1) (told {z = q.north} t.1.1.1.1.0.1)
    (subst (λ (w : Corners). CellOk q.mesh q.east q.north w) (sym b.corners-values.ensures) (cell-ok s.args.nodes.now q s.requires.1 s.requires.2 s.args.p s.requires.0))

pub returns : goal.returns
unfolding part_of
returns c =
    let b = c in
    let q = b.args.c in
    let t = c.struct_told-3-1.given in
    rd (record { sfits = c.bilinear.type_inv }) ∙ c.bilinear.ensures
    ∙ of₃ (λ (m x y : ℤ). bilinear m x y b.corners-values.result) (told {z = q.mesh} t.1.1.0.1) (told {z = q.east} t.1.1.1.0.1) (told {z = q.north} t.1.1.1.1.0.1)
    ∙ ap (bilinear q.mesh q.east q.north) b.corners-values.ensures
