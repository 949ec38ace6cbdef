-- `velocity_grid::moving::motion_at` meets its contract: the numbers of an accepted text are the room's first. Assumes nothing.
use borrow.Author.Rules.{rules}
use native.Mathlib.Omega.{arith}
use mathlib.Core.Path.{◌≡◌, sym, ◌∙◌, ap, ap₂}
use mathlib.Core.List.{List}
use Prim.Native.Nat.{ℕ, ◌*◌, ◌≤◌}
use lib.IntN.{ℤ, pos, nat_abs}
use lib.ListN.{length, take, replicate, length-replicate}
use lib.Seq.{sets, length-sets, length-take-le}
use mir.Syntax.{w64}
use mir.Val.{SFits}
use mir.ValLaws.{to_z-of_z}
use Rattle.std.specs.Prelude.{Result, Ok, Err}
use Rattle.rounding.proofs.Machine.{rd}
use Rattle.chain.specs.declared.Velocity.{Velocity}
use Rattle.line.specs.declared.GridHeader.{GridHeader}
use Rattle.line.specs.declared.VelocityParts.{VelocityParts}
use Rattle.angle.proofs.Exits.{told-is}
use Rattle.velocity_grid.specs.Answers.{GridFault}
use Rattle.velocity_grid.specs.AtPoint.{parts_at}
use Rattle.velocity_grid.specs.OnGrid.{size_range, nodes_of}
use Rattle.velocity_grid.specs.Step.{velocity_of}
use Rattle.velocity_grid.specs.Text.{grid_of, grid_numbers, room_after}
use Rattle.velocity_grid.specs.Motion.{motion_from, motion_on, motion_with, motion_of}
use Rattle.velocity_grid.proofs.OnGrid.{header}
use Rattle.velocity_grid.proofs.Motions.{same-velocity, at-start}
use Rattle.velocity_grid.proofs.Texts as T
use Rattle.velocity_grid.proofs.moving.motion_at.Goals as goal

-- the room before the text is read
abbrev fresh : List ℤ
fresh = replicate 12000 (pos 0)

-- the grid of an accepted text, and the room as the text left it
module _ (text : List ℕ) (grid : GridHeader) {held : List ℤ} (read : (Ok grid ≡ grid_of text) × (held ≡ room_after (grid_of text) (grid_numbers text) fresh))
    {n : ℕ} {rows columns : ℤ} (count : n ≡ 3 * (nat_abs rows * nat_abs columns)) (r : rows ≡ grid.rows) (s : columns ≡ grid.columns) where
  counted : n ≡ 3 * nodes_of grid
  unfolding nodes_of
  counted = count ∙ ap (λ (k : ℕ). 3 * k) (ap₂ (λ (a b : ℤ). nat_abs a * nat_abs b) r s)

  held-is : held ≡ sets fresh 0 (grid_numbers text)
  held-is = read.1 ∙ ap (λ (w : Result GridHeader GridFault). room_after w (grid_numbers text) fresh) (sym read.0)

  made : length fresh ≡ 12000
  made = length-replicate {0} {A = ℤ} 12000 (pos 0)

  few : n ≤ 12000
  few = omega (arith, counted, T.few-nodes grid (T.accepted text grid (sym read.0)).range)

  roomy : n ≤ length held
  roomy = omega (arith, few, ap length held-is, length-sets fresh 0 (grid_numbers text), made)

  first : take n held ≡ grid_numbers text
  first = ap (take n) held-is ∙ at-start (grid_numbers text) fresh n (T.numbers-many text grid (sym read.0) ∙ sym counted) (omega (arith, few, made))

-- what the velocity and the parts decide, of the numbers as the machine reads them
module _ (text : List ℕ) (g : GridHeader) {ns : List ℤ} {lat lat' lon lon' d d' b b' a a' : ℤ} (e : Ok g ≡ grid_of text) (m : ns ≡ grid_numbers text)
    (p : lat' ≡ lat) (q : lon' ≡ lon) (r : d' ≡ d) (s : b' ≡ b) (t : a' ≡ a) where
  velocity : {w : Result Velocity ℕ} → w ≡ velocity_of g ns lat' lon' d' b' a' → w ≡ velocity_of g (grid_numbers text) lat lon d b a
  velocity h = h ∙ ap (λ (l : List ℤ). velocity_of g l lat' lon' d' b' a') m ∙ same-velocity g (grid_numbers text) p q r s t

  by-velocity : {w : Result Velocity ℕ} → w ≡ velocity_of g ns lat' lon' d' b' a' → motion_from w (parts_at g (grid_numbers text) lat lon) ≡ motion_of text lat lon d b a
  unfolding motion_of motion_with motion_on
  by-velocity h =
      ap (λ (w : Result Velocity ℕ). motion_from w (parts_at g (grid_numbers text) lat lon)) (velocity h)
      ∙ ap (λ (w : Result GridHeader GridFault). motion_with w (grid_numbers text) lat lon d b a) e

  by-both : {w : Result Velocity ℕ} {x : Result VelocityParts ℕ} → w ≡ velocity_of g ns lat' lon' d' b' a' → x ≡ parts_at g ns lat' lon' → motion_from w x ≡ motion_of text lat lon d b a
  by-both {w} h k = ap (motion_from w) (k ∙ ap (λ (l : List ℤ). parts_at g l lat' lon') m ∙ ap₂ (parts_at g (grid_numbers text)) p q) ∙ by-velocity h

pub returns-in_err-g : goal.returns-in_err-g
unfolding motion_of motion_with
returns-in_err-g c =
    let a = c.args in
    told-is c.from_residual.result _ c.from_residual.ensures.1
    ∙ ap (λ (w : Result GridHeader GridFault). motion_with w (grid_numbers a.text.now) a.latitude a.longitude a.datum a.before a.after) c.in_err-g.ensures.0

pub count-requires : goal.count-requires
count-requires c =
    let g = c.in_ok-g.g in
    let r : SFits w64 g.rows = search rules in
    let n : SFits w64 g.columns = search rules in
    ap₂ size_range (to_z-of_z w64 g.rows r) (to_z-of_z w64 g.columns n) ∙ (header g (T.accepted c.args.text.now g (sym c.in_ok-g.ensures.0)).range).sizes

pub slice_bounds-nodes-end : goal.slice_bounds-nodes-end
slice_bounds-nodes-end c =
    let g = c.in_ok-g.g in
    let r : SFits w64 g.rows = search rules in
    let n : SFits w64 g.columns = search rules in
    roomy c.args.text.now g c.in_ok-g.ensures c.count.ensures (to_z-of_z w64 g.rows r) (to_z-of_z w64 g.columns n)

pub slice_bounds-known-end : goal.slice_bounds-known-end
slice_bounds-known-end c =
    let g = c.in_ok-g.g in
    let r : SFits w64 g.rows = search rules in
    let n : SFits w64 g.columns = search rules in
    sym (length-take-le _ _ (roomy c.args.text.now g c.in_ok-g.ensures c.count.ensures (to_z-of_z w64 g.rows r) (to_z-of_z w64 g.columns n)))

pub returns-in_err-velocity : goal.returns-in_err-velocity
unfolding motion_from
returns-in_err-velocity c =
    let g = c.in_ok-g.g in
    let r : SFits w64 g.rows = search rules in
    let n : SFits w64 g.columns = search rules in
    told-is c.from_residual-in_err-velocity.result _ c.from_residual-in_err-velocity.ensures.1
    ∙ by-velocity c.args.text.now g c.in_ok-g.ensures.0 (first c.args.text.now g c.in_ok-g.ensures c.count.ensures (to_z-of_z w64 g.rows r) (to_z-of_z w64 g.columns n))
    (rd c.ranges.latitude) (rd c.ranges.longitude) (rd c.ranges.datum) (rd c.ranges.before) (rd c.ranges.after) c.in_err-velocity.ensures

pub returns-in_err-parts : goal.returns-in_err-parts
unfolding motion_from
returns-in_err-parts c =
    let g = c.in_ok-g.g in
    let r : SFits w64 g.rows = search rules in
    let n : SFits w64 g.columns = search rules in
    told-is c.from_residual-in_err-parts.result _ c.from_residual-in_err-parts.ensures.1
    ∙ by-both c.args.text.now g c.in_ok-g.ensures.0 (first c.args.text.now g c.in_ok-g.ensures c.count.ensures (to_z-of_z w64 g.rows r) (to_z-of_z w64 g.columns n))
    (rd c.ranges.latitude) (rd c.ranges.longitude) (rd c.ranges.datum) (rd c.ranges.before) (rd c.ranges.after) c.in_ok-velocity.ensures c.in_err-parts.ensures

pub returns : goal.returns
unfolding motion_from
returns c =
    let g = c.in_ok-g.g in
    let r : SFits w64 g.rows = search rules in
    let n : SFits w64 g.columns = search rules in
    by-both c.args.text.now g c.in_ok-g.ensures.0 (first c.args.text.now g c.in_ok-g.ensures c.count.ensures (to_z-of_z w64 g.rows r) (to_z-of_z w64 g.columns n))
    (rd c.ranges.latitude) (rd c.ranges.longitude) (rd c.ranges.datum) (rd c.ranges.before) (rd c.ranges.after) c.in_ok-velocity.ensures c.in_ok-parts.ensures
