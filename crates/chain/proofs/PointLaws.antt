-- What a point with no fault of its own keeps, and when it has none; and that a fault of a point or a step is a number of the refusal table. Assumes nothing.
use mathlib.Core.Path.{◌≡◌}
use mathlib.Core.Bool.{true}
use Prim.Native.Nat.{◌<◌}
use lib.IntN.{ℤ}
use Rattle.refusal.proofs.Orders.{head-holds, first_short}
use Rattle.ranges.specs.Ranges.{issue_range, order_range, datum_range, epoch_range, given_range}
use Rattle.ranges.proofs.Ranges.{both, all}
use Rattle.chain.specs.declared.Realization.{Realization}
use Rattle.chain.specs.declared.Point.{Point}
use Rattle.chain.specs.declared.Step.{Step}
use Rattle.chain.specs.Faults.{realization_range, agrees, has_datum, given_position, label_range, point_range, point_tests, point_fault, step_tests, step_fault}

-- a datum at an epoch, as a line under a profile may say it
pub record Dated (y : ℤ) (r : Realization) : Type 0 where
  pub range : realization_range r ≡ true
  pub agree : agrees r ≡ true
  pub had : has_datum y r ≡ true

pub record PointOk (y : ℤ) (p : Point) : Type 0 where
  pub label : label_range p.label ≡ true
  pub dated : Dated y p.realization
  pub given : given_position p.position ≡ true

-- the same by its numbers alone
pub record InRanges (p : Point) : Type 0 where
  pub issue : issue_range p.label.issue ≡ true
  pub order : order_range p.label.order ≡ true
  pub datum : datum_range p.realization.datum ≡ true
  pub epoch : epoch_range p.realization.epoch ≡ true
  pub x : given_range p.position.x ≡ true
  pub y : given_range p.position.y ≡ true
  pub z : given_range p.position.z ≡ true

module _ (y : ℤ) (p : Point) where
  pub point-ok : point_fault y p ≡ 0 → PointOk y p
  unfolding point_fault point_range
  point-ok e =
      let h = head-holds (point_range p) _ _ e in
      let r = all (label_range p.label) (realization_range p.realization) (given_position p.position) h.0 in
      let g = head-holds (agrees p.realization) _ _ h.1 in
      record { label = r.0; dated = record { range = r.1; agree = g.0; had = (head-holds (has_datum y p.realization) _ 0 g.1).0 }; given = r.2 }

  pub faultless : PointOk y p → point_fault y p ≡ 0
  unfolding point_fault point_range
  faultless o = rw (o.label, o.dated.range, o.given, o.dated.agree, o.dated.had)

  pub in-ranges : point_fault y p ≡ 0 → InRanges p
  unfolding label_range realization_range given_position
  in-ranges e =
      let o = point-ok e in
      let l = both (issue_range p.label.issue) (order_range p.label.order) o.label in
      let r = both (datum_range p.realization.datum) (epoch_range p.realization.epoch) o.dated.range in
      let g = all (given_range p.position.x) (given_range p.position.y) (given_range p.position.z) o.given in
      record { issue = l.0; order = l.1; datum = r.0; epoch = r.1; x = g.0; y = g.1; z = g.2 }

  pub point-fault-short : point_fault y p < 100
  unfolding point_fault
  point-fault-short = first_short (point_tests y p) tt

pub step-fault-short : (y : ℤ) (s : Step) → step_fault y s < 100
unfolding step_fault
step-fault-short y s = first_short (step_tests y s) tt
