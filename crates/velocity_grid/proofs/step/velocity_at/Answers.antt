-- `velocity_grid::step::velocity_at` meets its contract: the parts, turned at the point, and their step's own fault. Assumes nothing.
use borrow.Author.Rules.{rules}
use mathlib.Core.Path.{◌≡◌, sym, ◌∙◌, ap, ap₂}
use mathlib.Core.List.{List}
use Prim.Native.Nat.{ℕ}
use lib.IntN.{ℤ}
use Rattle.std.specs.Prelude.{Result, Ok, Err}
use Rattle.refusal.proofs.Orders.{unless-none}
use Rattle.ranges.specs.Ranges.{latitude_range, longitude_range}
use Rattle.rounding.proofs.Machine.{rd, of₃}
use Rattle.chain.specs.Faults.{latest, step_fault}
use Rattle.chain.specs.declared.Step.{Step}
use Rattle.chain.specs.declared.Velocity.{Velocity}
use Rattle.line.specs.declared.GridHeader.{GridHeader}
use Rattle.line.specs.declared.VelocityParts.{VelocityParts}
use Rattle.angle.proofs.Exits.{told-is, refused}
use Rattle.velocity_grid.specs.AtPoint.{parts_at}
use Rattle.velocity_grid.specs.Step.{velocity_step, velocity_for, velocity_with, velocity_of}
use Rattle.velocity_grid.specs.Turn.{turned_at, in_units}
use Rattle.velocity_grid.specs.declared.Turned.{Turned}
use Rattle.velocity_grid.proofs.AtPoint.{parts-found}
use Rattle.velocity_grid.proofs.step.velocity_at.Goals as goal

-- ---- what each call gave, of the numbers as the machine reads them
module _ (g : GridHeader) (ns : List ℤ) {lat lat' lon lon' : ℤ} (p : lat' ≡ lat) (q : lon' ≡ lon) (d b a : ℤ) where
  parts : {w : Result VelocityParts ℕ} → w ≡ parts_at g ns lat' lon' → w ≡ parts_at g ns lat lon
  parts e = e ∙ ap₂ (parts_at g ns) p q

  -- refused by the parts, or by what comes of them
  by-parts : {w : Result VelocityParts ℕ} → w ≡ parts_at g ns lat' lon' → velocity_with w lat lon d b a ≡ velocity_of g ns lat lon d b a
  unfolding velocity_of
  by-parts e = ap (λ (w : Result VelocityParts ℕ). velocity_with w lat lon d b a) (parts e)

  by-velocity : {v : VelocityParts} {t : Turned} {w : Result Velocity ℕ} → Ok v ≡ parts_at g ns lat' lon' → t ≡ turned_at v lat' lon' → w ≡ in_units t
      → velocity_for w d b a ≡ velocity_of g ns lat lon d b a
  unfolding velocity_with
  by-velocity {v} e f h = ap (λ (w : Result Velocity ℕ). velocity_for w d b a) (h ∙ ap in_units (f ∙ ap₂ (turned_at v) p q)) ∙ by-parts e

pub returns-in_err-p : goal.returns-in_err-p
unfolding velocity_with
returns-in_err-p c =
    let a = c.args in
    told-is c.from_residual.result _ c.from_residual.ensures.1
    ∙ by-parts a.g a.nodes.now (rd c.ranges.latitude) (rd c.ranges.longitude) a.datum a.before a.after c.in_err-p.ensures

pub turn-requires : goal.turn-requires
turn-requires c =
    let a = c.args in
    let p = rd c.ranges.latitude in
    let q = rd c.ranges.longitude in
    let h = parts-found a.g a.nodes.now a.latitude a.longitude c.in_ok-p.p (sym (parts a.g a.nodes.now p q a.datum a.before a.after c.in_ok-p.ensures)) in
    (h.parts, ap latitude_range p ∙ h.latitude, ap longitude_range q ∙ h.longitude)

pub returns-in_err-v : goal.returns-in_err-v
unfolding velocity_for
returns-in_err-v c =
    let a = c.args in
    told-is c.from_residual-in_err-v.result _ c.from_residual-in_err-v.ensures.1
    ∙ by-velocity a.g a.nodes.now (rd c.ranges.latitude) (rd c.ranges.longitude) a.datum a.before a.after c.in_ok-p.ensures c.turn.ensures c.in_err-v.ensures

fault-is : (v : Velocity) {n : ℕ} {s : Step} {d d' b b' a a' : ℤ} → n ≡ step_fault latest s → s ≡ velocity_step v d' b' a' → d' ≡ d → b' ≡ b → a' ≡ a
    → n ≡ step_fault latest (velocity_step v d b a)
fault-is v e h p q r = e ∙ ap (step_fault latest) (h ∙ of₃ (velocity_step v) p q r)

pub returns-in_err-step_fault : goal.returns-in_err-step_fault
unfolding velocity_for
returns-in_err-step_fault c =
    let a = c.args in
    let v = c.in_ok-v.v in
    refused c.from_residual-in_err-step_fault.result _ (step_fault latest (velocity_step v a.datum a.before a.after)) (Ok v) c.from_residual-in_err-step_fault.ensures.1
    (fault-is v c.in_err-step_fault.ensures c.velocity_step.ensures (rd c.ranges.datum) (rd c.ranges.before) (rd c.ranges.after))
    ∙ by-velocity a.g a.nodes.now (rd c.ranges.latitude) (rd c.ranges.longitude) a.datum a.before a.after c.in_ok-p.ensures c.turn.ensures c.in_ok-v.ensures

pub returns : goal.returns
unfolding velocity_for
returns c =
    let a = c.args in
    let v = c.in_ok-v.v in
    let k : 0 ≡ step_fault latest (velocity_step v a.datum a.before a.after) =
    fault-is v c.in_ok-step_fault.ensures c.velocity_step.ensures (rd c.ranges.datum) (rd c.ranges.before) (rd c.ranges.after) in
    sym (unless-none (step_fault latest (velocity_step v a.datum a.before a.after)) Err (Ok v) (sym k))
    ∙ by-velocity a.g a.nodes.now (rd c.ranges.latitude) (rd c.ranges.longitude) a.datum a.before a.after c.in_ok-p.ensures c.turn.ensures c.in_ok-v.ensures
