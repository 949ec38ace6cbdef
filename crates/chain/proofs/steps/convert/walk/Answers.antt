-- `chain::steps::convert::walk` meets its contract. The loop's invariant: what is left to go by leads where the whole does. Assumes nothing.
use Rattle.std.proofs.Common.{◌≡◌, sym, ◌∙◌, ap, ◌<◌, true, arith}
use Rattle.chain.specs.Faults.{in_area}
use Rattle.chain.specs.Convert.{step_by, ended}
use Rattle.chain.proofs.Turns.{place_below, leads_first, leads_out, leads_on, leads_last}
use Rattle.chain.proofs.steps.convert.walk.Goals as goal

pub loop-gone-init : goal.loop-gone-init
loop-gone-init g c = record {
  near = c.requires.begins;
  leads = λ ss long stands. leads_first (step_by c.args.direction) c.args.direction _ ss stands c.args.start;
}

pub step_by-p-requires : goal.step_by-p-requires
step_by-p-requires g c =
    let below : c.place.result < c.args.count = rw c.place.ensures (place_below c.args.direction c.args.count c.loop-gone.gone c.loop-gone-test.true) in
    (c.requires.sound _ _ below c.step_at-step.ensures, c.loop-gone.invariant.near)

pub returns-then-not-in_area : goal.returns-then-not-in_area
returns-then-not-in_area g c ss long stands =
    let at = c.loop-gone in
    ap ended
    (leads_out (step_by c.args.direction) c.args.direction _ ss stands c.args.start c.args.count at.gone c.place.result long c.loop-gone-test.true c.place.ensures
    c.step_at-step.result c.step_at-step.ensures at.p c.step_by-p.result (at.invariant.leads ss long stands) c.step_by-p.ensures
    (sym c.in_area.ensures ∙ c.if-not-in_area.true))

pub loop-gone-preserved : goal.loop-gone-preserved
loop-gone-preserved g c =
    let at = c.loop-gone in
    let inside : in_area c.step_by-p.result ≡ true = sym c.in_area.ensures ∙ c.if-not-in_area.false in
    record {
      near = inside;
      leads = λ ss long stands.
          leads_on (step_by c.args.direction) c.args.direction _ ss stands c.args.start c.args.count at.gone c.place.result long c.loop-gone-test.true c.place.ensures
          c.step_at-step.result c.step_at-step.ensures at.p c.step_by-p.result (at.invariant.leads ss long stands) c.step_by-p.ensures
          inside;
    }

pub returns : goal.returns
returns g c ss long stands =
    let at = c.loop-gone in
    ap ended (leads_last (step_by c.args.direction) c.args.direction _ ss stands c.args.start c.args.count at.gone at.p long (omega arith) (at.invariant.leads ss long stands))
