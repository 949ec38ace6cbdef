-- `velocity_grid::text::with_header` meets its contract: the header's ranges, then the nodes. Assumes nothing.
use borrow.Author.Rules.{rules}
use borrow.Author.Tests.{ne_eqb}
use mathlib.Core.Bool.{true}
use mathlib.Core.List.{List}
use lib.ListN.{drop}
use Rattle.line.specs.Lines.{lines}
use mathlib.Core.Path.{◌≡◌, sym, ◌∙◌, ap, ap₂}
use Prim.Native.Nat.{ℕ, ◌*◌}
use lib.IntN.{ℤ, nat_abs}
use mir.Syntax.{w64}
use mir.Val.{SFits, to_z, of_z}
use mir.ValLaws.{to_z-of_z}
use Rattle.std.specs.Prelude.{Result, Ok, Err}
use Rattle.refusal.proofs.Refusals.{not-none}
use Rattle.line.specs.declared.GridHeader.{GridHeader}
use Rattle.velocity_grid.specs.Answers.{GridFault, fault_told, faultless}
use Rattle.velocity_grid.proofs.Exits.{grid-is}
use Rattle.velocity_grid.specs.OnGrid.{size_range, grid_range, nodes_of}
use Rattle.velocity_grid.specs.Text.{nodes_fault, unless_grid_fault, headed}
use Rattle.velocity_grid.proofs.OnGrid.{header}
use Rattle.velocity_grid.proofs.text.with_header.Goals as goal

-- what the nodes' lines decide, of a header in its ranges
refused : (f : GridFault) (g : GridHeader) → (f.number ≡ 0 → ⊥) → ◌≡◌ {A = Result GridHeader GridFault} (Err f) (unless_grid_fault f g)
refused f g z = rw (ne_eqb f.number 0 z)

module _ (g : GridHeader) (ls : List (List ℕ)) {f : GridFault} {n : ℕ} {rows columns : ℤ}
    (q : grid_range g ≡ true) (e : f ≡ nodes_fault n 2 ls) (h : n ≡ nat_abs rows * nat_abs columns) (r : rows ≡ g.rows) (c : columns ≡ g.columns) where
  decided : unless_grid_fault f g ≡ headed (Ok g) ls
  unfolding headed nodes_of
  decided = rw q (ap (λ (x : GridFault). unless_grid_fault x g) (e ∙ ap (λ (k : ℕ). nodes_fault k 2 ls) (h ∙ ap₂ (λ (a b : ℤ). nat_abs a * nat_abs b) r c)))

pub returns-then-not-in_range : goal.returns-then-not-in_range
unfolding headed
returns-then-not-in_range c = rw (sym c.in_range.ensures ∙ c.if-not-in_range.true)

pub nodes-requires : goal.nodes-requires
nodes-requires c =
    let g = c.args.g in
    let r : SFits w64 g.rows = search rules in
    let n : SFits w64 g.columns = search rules in
    ap₂ size_range (to_z-of_z w64 g.rows r) (to_z-of_z w64 g.columns n) ∙ (header g (sym c.in_range.ensures ∙ c.if-not-in_range.false)).sizes

pub nodes_fault-requires : goal.nodes_fault-requires
nodes_fault-requires c = (c.requires, c.nodes.ensures.1)

pub returns-in_err-nodes_fault : goal.returns-in_err-nodes_fault
returns-in_err-nodes_fault c =
    let g = c.args.g in
    let f = c.in_err-nodes_fault.field-0.0 in
    let r : SFits w64 g.rows = search rules in
    let n : SFits w64 g.columns = search rules in
    grid-is c.from_residual.result f c.from_residual.ensures.1 ∙ refused (fault_told f) g (not-none f.refusal)
    ∙ decided g (lines (drop c.args.start c.args.text.now)) (sym c.in_range.ensures ∙ c.if-not-in_range.false) c.in_err-nodes_fault.ensures c.nodes.ensures.0
    (to_z-of_z w64 g.rows r) (to_z-of_z w64 g.columns n)

pub returns : goal.returns
returns c =
    let g = c.args.g in
    let r : SFits w64 g.rows = search rules in
    let n : SFits w64 g.columns = search rules in
    decided g (lines (drop c.args.start c.args.text.now)) (sym c.in_range.ensures ∙ c.if-not-in_range.false) c.in_ok-nodes_fault.ensures c.nodes.ensures.0
    (to_z-of_z w64 g.rows r) (to_z-of_z w64 g.columns n)
