-- `sheet_rules::decide::whole::printed::print_converted` meets its contract. Assumes nothing.
use mathlib.Core.Path.{◌≡◌, refl, sym, subst, ◌∙◌}
use mathlib.Core.List.{List, ◌++◌}
use lib.ListN.{take}
use Prim.Native.Nat.{ℕ}
use lib.IntN.{ℤ}
use mathlib.Core.Bool.{true, false, or-true}
use mir.Syntax.{w64}
use mir.Val.{to_z, of_z}
use borrow.Author.Rules.{rules}
use Rattle.refusal.specs.Refusals.{number}
use Rattle.chain.specs.declared.Point.{Point}
use Rattle.chain.specs.declared.Position.{Position}
use Rattle.chain.specs.declared.Realization.{Realization}
use Rattle.chain.specs.Convert.{moved_to}
use Rattle.chain.proofs.Accepted.{arrival-refused}
use Rattle.chain.proofs.KeptTurns.{arrival-converted}
use Rattle.line.specs.Answers.{Good}
use Rattle.line.specs.Readers.{read_point, datum_place}
use Rattle.line.specs.Text.{point_text, moved_text, Wrote}
use Rattle.line.proofs.Moved.{moved-line}
use Rattle.line.proofs.Readers.{point-sound}
use Rattle.sheet_rules.specs.declared.Reply.TheVariants as reply
use Rattle.sheet_rules.proofs.Laws.{answered, gave-refusal, gave-point, shown}
use Rattle.sheet_rules.proofs.decide.whole.printed.print_converted.Goals as goal

pub returns-then-state : goal.returns-then-state
returns-then-state c =
    λ s h.
    let q : s.refused ≡ true = sym h.refused ∙ c.if-state.true in
    rw q (shown (gave-refusal h _ _ _ _ c.if-state.true (sym (or-true s.closed)) _ _ _ refl) (rw c.closing-closed.ensures at c.print_refusal.ensures))

pub returns-in-Err : goal.returns-in-Err
returns-in-Err c =
    λ s h.
    let y : to_z w64 (of_z w64 c.args.state.profile) ≡ c.args.state.profile = search rules in
    let q : s.refused ≡ false = sym h.refused ∙ c.if-state.false in
    let e = answered h c.args.point (point-sound _ _ _ c.requires.0) (sym (arrival-refused _ c.in-Err.ensures)) in
    rw (q, e) (shown (gave-refusal h _ _ _ _ c.if-state.false (sym (or-true s.closed)) (number c.in-Err.refusal) 0 _ refl) (rw c.closing-closed.ensures at c.print_refusal-in-Err.ensures))

-- a conversion keeps the label, which stands in the line as it is written
relabel : (y : ℤ) (p : Point) (line : List ℕ) (r : Realization) (q : Position) → read_point y line ≡ Good p
    → {before after : List ℕ} {at past : ℕ} → Wrote before at (take (datum_place line) line ++ moved_text r q) after past
    → Wrote before at (point_text (moved_to p r q)) after past
relabel y p line r q read {before} {after} {at} {past} w =
    subst (λ (t : List ℕ). Wrote before at t after past) (moved-line y line p (moved_to p r q) read refl) w

pub returns-in-Ok : goal.returns-in-Ok
returns-in-Ok c =
    λ s h.
    let a = c.args in
    let q : s.refused ≡ false = sym h.refused ∙ c.if-state.false in
    let e = answered h a.point (point-sound _ _ _ c.requires.0) (sym (arrival-converted a.numbers.now a.point c.in-Ok.ensures)) in
    rw (q, e)
    (shown (gave-point h _ _ _ _ c.if-state.false (sym (or-true s.closed)) _ (record { reply = reply.Point _; state = _ }) refl c.closing-closed.ensures)
    (relabel a.state.profile a.point a.text.now _ _ c.requires.0 (rw c.requires.1 at c.write_moved.ensures), refl))
