-- `chain::steps::kept::carry` meets its contract. The loop's invariant: the rows left lead where the whole does. Assumes nothing.
use Rattle.std.proofs.Common.{◌≡◌, ◌<◌, true, Some, None, sym, ◌∙◌, ap, arith}
use Rattle.std.proofs.lemmas.Result.{err_from_is_err_and}
use Rattle.refusal.specs.declared.Refusal.TheVariants.{Range}
use Rattle.chain.specs.Faults.{in_area}
use Rattle.chain.specs.Ways.{by_way}
use Rattle.chain.specs.Convert.{arrival_of}
use Rattle.chain.specs.Prepared.{rows_of}
use Rattle.chain.proofs.Within.{area_small}
use Rattle.chain.proofs.Ways.{rest_all}
use Rattle.chain.proofs.Turns.{place_below}
use Rattle.chain.proofs.KeptTurns.{rows_done, turn_end, no_row, row_out, row_on}
use Rattle.chain.proofs.steps.kept.carry.Goals as goal

pub loop-gone-init : goal.loop-gone-init
loop-gone-init c =
    let x = c.args in
    record { near = c.requires.1; leads = rw (rest_all x.direction (rows_of x.numbers.now 1 x.count)) }

pub moved-requires : goal.moved-requires
moved-requires c =
    let below : c.place-row.result < c.args.count = rw c.place-row.ensures (place_below c.args.direction c.args.count c.loop-gone.gone c.loop-gone-test.true) in
    (omega arith, area_small c.loop-gone.position c.loop-gone.invariant.near)

pub returns-in_err-position : goal.returns-in_err-position
returns-in_err-position c =
    let x = c.args in
    let at = c.loop-gone in
    let p = err_from_is_err_and c.from_residual.result c.from_residual.ensures.1 in
    let none : c.moved.result ≡ None = grind arith in
    let is : c.in_err-position.field-0.0 ≡ Range = grind arith in
    rw (p.1, p.2, is) (ap arrival_of (
    no_row x.direction x.numbers.now x.point x.end x.count at.gone c.place-row.result c.loop-gone-test.true c.place-row.ensures at.position _ at.invariant.leads
    c.moved.result c.moved.ensures none))

pub returns-then-not-in_area : goal.returns-then-not-in_area
returns-then-not-in_area c =
    let x = c.args in
    let at = c.loop-gone in
    let some : c.moved.result ≡ Some c.in_ok-position.position = grind arith in
    ap arrival_of (
    row_out x.direction x.numbers.now x.point x.end x.count at.gone c.place-row.result c.loop-gone-test.true c.place-row.ensures at.position _ at.invariant.leads
    c.moved.result c.moved.ensures c.in_ok-position.position some (sym c.in_area.ensures ∙ c.if-not-in_area.true))

pub loop-gone-preserved : goal.loop-gone-preserved
loop-gone-preserved c =
    let x = c.args in
    let at = c.loop-gone in
    let some : c.moved.result ≡ Some c.in_ok-position.position = grind arith in
    let inside : in_area c.in_ok-position.position ≡ true = sym c.in_area.ensures ∙ c.if-not-in_area.false in
    record {
      near = inside;
      leads =
          row_on x.direction x.numbers.now x.point x.end x.count at.gone c.place-row.result c.loop-gone-test.true c.place-row.ensures at.position _ at.invariant.leads
          c.moved.result c.moved.ensures c.in_ok-position.position some inside;
    }

pub returns : goal.returns
returns c =
    let x = c.args in
    let at = c.loop-gone in
    let done = rows_done x.direction x.numbers.now x.count at.gone (omega arith) in
    ap arrival_of (sym (turn_end (by_way x.direction) x.point x.end at.position) ∙ (rw done at at.invariant.leads))
