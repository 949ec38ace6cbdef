-- `velocity_grid::at_point::grid_fault` meets its contract: the header, then the count of the numbers. Assumes nothing.
use borrow.Author.Rules.{rules}
use borrow.Author.Tests.{not-true, not-false, eq-eqb, ne_eqb}
use mathlib.Core.Bool.{true}
use mathlib.Core.Path.{◌≡◌, sym, ◌∙◌, ap₂}
use Prim.Native.Nat.{ℕ, ◌*◌}
use lib.IntN.{ℤ, nat_abs}
use lib.ListN.{length}
use Rattle.rounding.proofs.Machine.{told}
use Rattle.velocity_grid.specs.OnGrid.{size_range, grid_range, nodes_of}
use Rattle.velocity_grid.proofs.OnGrid.{header}
use Rattle.velocity_grid.proofs.at_point.grid_fault.Tie as tie
use Rattle.velocity_grid.proofs.at_point.grid_fault.Lts as lts
use Rattle.velocity_grid.proofs.at_point.grid_fault.Reads as reads
use Rattle.velocity_grid.proofs.at_point.grid_fault.Goals as goal

abbrev TheAfterCount : Type 0
TheAfterCount = lts.After-count tie.the-claims reads.Pre reads.Post

abbrev TheElse1 : Type 0
TheElse1 = lts.Else1 tie.the-claims reads.Pre reads.Post

pub returns-then-not-in_range : goal.returns-then-not-in_range
returns-then-not-in_range c = rw (sym c.in_range.ensures ∙ c.if-not-in_range.true)

ranged : (c : TheElse1) → grid_range c.args.g ≡ true
ranged c = sym c.in_range.ensures ∙ c.if-not-in_range.false

pub count-requires : goal.count-requires
count-requires c =
    let e = c.before.before.before in
    let g = e.args.g in
    let t = c.struct_told-2-1.given in
    ap₂ size_range (told {z = g.rows} t.1.1.0.1) (told {z = g.columns} t.1.1.1.0.1) ∙ (header g (ranged e)).sizes

-- how many numbers the nodes have
counted : (c : TheAfterCount) → c.count.result ≡ 3 * nodes_of c.args.g
unfolding nodes_of
counted c =
    let g = c.args.g in
    let t = c.struct_told-2-1.given in
    c.count.ensures ∙ ap₂ (λ (r n : ℤ). 3 * (nat_abs r * nat_abs n)) (told {z = g.rows} t.1.1.0.1) (told {z = g.columns} t.1.1.1.0.1)

pub returns-then-nodes-count : goal.returns-then-nodes-count
returns-then-nodes-count c =
    let b = c.before in
    let e = b.before.before.before in
    let s = e in
    rw (ranged e, ne_eqb (length s.args.nodes.now) (3 * nodes_of s.args.g) (λ z. c.if-nodes-count.true (z ∙ sym (counted b))))

pub returns : goal.returns
returns c =
    let b = c.before in
    let e = b.before.before.before in
    let s = e in
    rw (ranged e, eq-eqb (length s.args.nodes.now) (3 * nodes_of s.args.g) (c.if-nodes-count.false ∙ counted b))
