-- `capi::grid::swivelcrane_grid_velocity` meets its contract: the length, and then what the library answers. Assumes nothing.
use borrow.Author.Rules.{rules}
use borrow.Author.Tests.{eq-eqb, ne_eqb}
use native.Mathlib.Omega.{arith}
use mathlib.Core.Path.{◌≡◌, sym, ◌∙◌, ap}
use mathlib.Core.List.{List, [], ◌∷◌}
use Prim.Native.Nat.{ℕ}
use lib.IntN.{ℤ, pos}
use mir.Syntax.{w64}
use mir.Val.{SFits}
use Rattle.std.specs.Prelude.{Result}
use Rattle.rounding.proofs.Machine.{rd, told}
use Rattle.velocity_grid.specs.Motion.{motion_of}
use Rattle.velocity_grid.specs.declared.Motion.{Motion}
use Rattle.capi.specs.Grids.{of_motion, grid_velocity_call}
use Rattle.capi.proofs.Laws.{declined, wrong, handed-whole}
use Rattle.capi.proofs.grid.swivelcrane_grid_velocity.Goals as goal

-- of the same five numbers
same : (text : List ℕ) {w : Result Motion ℕ} {a a' o o' d d' b b' e e' : ℤ} → w ≡ motion_of text a o d b e → a ≡ a' → o ≡ o' → d ≡ d' → b ≡ b' → e ≡ e'
    → of_motion (motion_of text a' o' d' b' e') d' b' e' ≡ of_motion w d' b' e'
same text {d' = d'} {b' = b'} {e' = e'} f p q r s t = sym (ap (λ (w : Result Motion ℕ). of_motion w d' b' e') (f ∙ rw (p, q, r, s, t)))

pub returns-then-out-ne16 : goal.returns-then-out-ne16
unfolding grid_velocity_call
returns-then-out-ne16 c = wrong (rw (ne_eqb _ _ c.if-out-ne16.true))

pub returns-in-Err : goal.returns-in-Err
unfolding grid_velocity_call
returns-in-Err c =
    declined
    (rw (eq-eqb _ _ c.if-out-ne16.false)
    (same c.args.grid.now c.in-Err.ensures (rd c.ranges.latitude) (rd c.ranges.longitude) (rd c.ranges.datum) (rd c.ranges.before) (rd c.ranges.after)))
    (told c.status.type_inv ∙ c.status.ensures)

pub returns-in-Ok : goal.returns-in-Ok
unfolding grid_velocity_call
returns-in-Ok c =
    let m = c.in-Ok.m in
    let g = c.args in
    let r = c.ranges in
    let e : SFits w64 m.parts.east = search rules in
    let n : SFits w64 m.parts.north = search rules in
    let u : SFits w64 m.parts.up = search rules in
    let x : SFits w64 m.velocity.vx = search rules in
    let y : SFits w64 m.velocity.vy = search rules in
    let z : SFits w64 m.velocity.vz = search rules in
    handed-whole {vs =
    m.parts.east
    ∷ m.parts.north
    ∷ m.parts.up
    ∷ c.from-kind.result
    ∷ pos 0
    ∷ g.datum
    ∷ g.before
    ∷ g.datum
    ∷ g.after
    ∷ m.velocity.vx
    ∷ m.velocity.vy
    ∷ m.velocity.vz
    ∷ pos 0
    ∷ pos 0
    ∷ pos 0
    ∷ pos 0
    ∷ []
    } c.give.ensures
    (rw (eq-eqb _ _ c.if-out-ne16.false, c.from-kind.ensures)
    (same c.args.grid.now c.in-Ok.ensures (rd r.latitude) (rd r.longitude) (rd r.datum) (rd r.before) (rd r.after))) (
      e.sfits,
      (
        n.sfits,
        (
          u.sfits,
          (
            c.from-kind.type_inv,
            (
              omega arith,
              (
                r.datum.sfits,
                (
                  r.before.sfits,
                  (r.datum.sfits, (r.after.sfits, (x.sfits, (y.sfits, (z.sfits, (omega arith, (omega arith, (omega arith, (omega arith, tt))))))))),
                ),
              ),
            ),
          ),
        ),
      ),
    ) (told c.give.type_inv)
