-- `capi::row::put_answers` meets its contract: what is left to put, from the i-th answer on, makes the whole. Assumes nothing.
use mathlib.Core.Path.{◌≡◌, sym, ◌∙◌, ap}
use mathlib.Core.List.{List}
use Prim.Native.Nat.{ℕ, ◌+◌, ◌-◌, ◌*◌, ◌/◌, ◌≤◌}
use native.Mathlib.Omega.{arith}
use lib.IntN.{ℤ}
use lib.ListN.{length, drop, length-drop}
use lib.Seq.{sets, length-sets, take_all}
use Rattle.chain.specs.PointRow.{convert_ready}
use Rattle.capi.specs.Chains.{point_from}
use Rattle.capi.specs.PointRow.{answer_numbers, answers_of}
use Rattle.capi.proofs.PointRows.{turn, no-answers}
use Rattle.capi.proofs.row.put_answers.Goals as goal

pub loop-i-preserved : goal.loop-i-preserved
loop-i-preserved c =
    let k = c.loop-i in
    let s = c.args in
    let a = c.convert_ready-answer in
    let e = c.put_answer.ensures in
    let whole : length (drop (7 * k.i) s.points.now) ≤ length s.points.now - 7 * k.i = simp length-drop (omega arith) in
    let p : c.point_from-point.result ≡ point_from (drop (7 * k.i) s.points.now) = c.point_from-point.ensures ∙ ap point_from (take_all _ _ whole) in
    let rest = answers_of (convert_ready s.ready s.direction) (length s.points.now / 7 - (k.i + 1)) (drop (7 * (k.i + 1)) s.points.now) in (
      ap length e ∙ length-sets k.out (8 * k.i) (answer_numbers a.result) ∙ k.invariant.0,
      ap (λ (o : List ℤ). sets o (8 * (k.i + 1)) rest) e
          ∙ turn (convert_ready s.ready s.direction) s.points.now k.out (length s.points.now / 7) k.i c.loop-i-test.true
          (a.ensures ∙ ap (convert_ready s.ready s.direction) p)
          ∙ k.invariant.1,
    )

pub returns : goal.returns
returns c =
    let k = c.loop-i in
    let s = c.args in
    let f = convert_ready s.ready s.direction in
    let z : length s.points.now / 7 - k.i ≡ 0 = omega (arith, c.loop-i-test.false) in
    ap (sets k.out (8 * k.i)) (no-answers f (drop (7 * k.i) s.points.now) ∙ ap (λ (n : ℕ). answers_of f n (drop (7 * k.i) s.points.now)) (sym z))
    ∙ k.invariant.1
