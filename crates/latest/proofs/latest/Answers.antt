-- `latest::latest` meets its contract. Assumes nothing.
use native.Mathlib.Omega.{arith}
use mathlib.Core.Path.{◌≡◌, ap, ap₂, subst, ◌∙◌}
use Prim.Native.Nat.{ℕ, ◌≤◌, ◌<◌, min}
use lib.ListN.{length}
use Rattle.latest.specs.Pile.{longest_pile}
use Rattle.latest.specs.Call.{rows_for, room_for, rows_in}
use Rattle.latest.proofs.Handing.{answered, answered-long, too_few, too-narrow}
use Rattle.latest.proofs.latest.Goals as goal

pub returns-then-rows-rows_for : goal.returns-then-rows-rows_for
returns-then-rows-rows_for c =
    let d = c in
    let a = c.args in
    let rows = rows_in (length a.h.now) (length a.l.now) (length a.s.now) (length a.b.now) (length a.o.now) (length a.w.now) (length a.v.now) in
    let e : d.min-rows.result ≡ rows =
    d.min-rows.ensures
    ∙ ap₂ (λ (i j : ℕ). min i j)
    (d.min-first.ensures ∙ ap₂ (λ (i j : ℕ). min i j) d.min.ensures d.min-2.ensures)
    (d.min-4.ensures ∙ ap (λ (i : ℕ). min i (length a.v.now)) d.min-3.ensures) in
    let f : d.min-rows.result < rows_for (length a.x.now) = omega (arith, c.if-rows-rows_for.true, c.rows_for.ensures) in
    too_few a.x.now a.out.now rows (subst (λ (k : ℕ). k < rows_for (length a.x.now)) e f)

pub returns-then-out-room_for : goal.returns-then-out-room_for
returns-then-out-room_for c =
    let a = c.args in
    let f : length a.out.now < room_for (length a.x.now) = omega (arith, c.if-out-room_for.true, c.room_for.ensures) in
    too-narrow _ _ _ f

pub returns-then-x-gt-LONGEST_PILE : goal.returns-then-x-gt-LONGEST_PILE
returns-then-x-gt-LONGEST_PILE c =
    let d = c in
    let a = c.args in
    let rows = rows_in (length a.h.now) (length a.l.now) (length a.s.now) (length a.b.now) (length a.o.now) (length a.w.now) (length a.v.now) in
    let e : d.min-rows.result ≡ rows =
    d.min-rows.ensures
    ∙ ap₂ (λ (i j : ℕ). min i j)
    (d.min-first.ensures ∙ ap₂ (λ (i j : ℕ). min i j) d.min.ensures d.min-2.ensures)
    (d.min-4.ensures ∙ ap (λ (i : ℕ). min i (length a.v.now)) d.min-3.ensures) in
    let f : rows_for (length a.x.now) ≤ d.min-rows.result = omega (arith, c.if-rows-rows_for.false, c.rows_for.ensures) in
    let work = subst (λ (k : ℕ). rows_for (length a.x.now) ≤ k) e f in
    let space : room_for (length a.x.now) ≤ length a.out.now = omega (arith, c.if-out-room_for.false, c.room_for.ensures) in
    let long : longest_pile < length a.x.now = omega (arith, c.if-x-gt-LONGEST_PILE.true) in
    answered-long a.x.now a.out.now _ rows _ long work space (rw c.number.ensures at c.write_refusal.ensures)

pub hand_out-requires : goal.hand_out-requires
hand_out-requires c =
    let d = c in
    let a = c.args in
    let rows = rows_in (length a.h.now) (length a.l.now) (length a.s.now) (length a.b.now) (length a.o.now) (length a.w.now) (length a.v.now) in
    let e : d.min-rows.result ≡ rows =
    d.min-rows.ensures
    ∙ ap₂ (λ (i j : ℕ). min i j)
    (d.min-first.ensures ∙ ap₂ (λ (i j : ℕ). min i j) d.min.ensures d.min-2.ensures)
    (d.min-4.ensures ∙ ap (λ (i : ℕ). min i (length a.v.now)) d.min-3.ensures) in
    let f : rows_for (length a.x.now) ≤ d.min-rows.result = omega (arith, c.if-rows-rows_for.false, c.rows_for.ensures) in
    let work = subst (λ (k : ℕ). rows_for (length a.x.now) ≤ k) e f in
    let few : length a.x.now ≤ longest_pile = omega (arith, c.if-x-gt-LONGEST_PILE.false) in
    (few, work)

pub returns : goal.returns
returns c =
    let d = c in
    let a = c.args in
    let rows = rows_in (length a.h.now) (length a.l.now) (length a.s.now) (length a.b.now) (length a.o.now) (length a.w.now) (length a.v.now) in
    let e : d.min-rows.result ≡ rows =
    d.min-rows.ensures
    ∙ ap₂ (λ (i j : ℕ). min i j)
    (d.min-first.ensures ∙ ap₂ (λ (i j : ℕ). min i j) d.min.ensures d.min-2.ensures)
    (d.min-4.ensures ∙ ap (λ (i : ℕ). min i (length a.v.now)) d.min-3.ensures) in
    let f : rows_for (length a.x.now) ≤ d.min-rows.result = omega (arith, c.if-rows-rows_for.false, c.rows_for.ensures) in
    let work = subst (λ (k : ℕ). rows_for (length a.x.now) ≤ k) e f in
    let space : room_for (length a.x.now) ≤ length a.out.now = omega (arith, c.if-out-room_for.false, c.room_for.ensures) in
    answered a.x.now a.out.now _ rows _ work space c.hand_out.ensures
