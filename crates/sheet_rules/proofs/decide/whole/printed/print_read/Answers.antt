-- `sheet_rules::decide::whole::printed::print_read` meets its contract. Assumes nothing.
use mathlib.Core.Path.{◌≡◌, refl, sym, ap, ◌∙◌}
use mathlib.Core.Bool.{or-true, or-false}
use mathlib.Core.List.{List}
use Prim.Native.Nat.{ℕ}
use lib.IntN.{ℤ}
use Rattle.refusal.specs.Refusals.{number}
use Rattle.chain.specs.declared.Point.{Point}
use Rattle.line.specs.Answers.{Line, line_told}
use Rattle.line.specs.Readers.{read_point}
use Rattle.sheet_rules.proofs.Answers.{as-malformed, as-refused}
use Rattle.sheet_rules.proofs.Laws.{gave-refusal, shown}
use Rattle.sheet_rules.proofs.decide.whole.printed.print_read.Goals as goal

-- what a line was read as, which the state's profile decides
line_read : (p : ℤ) (text : List ℕ) {l : Line Point} {y : ℤ} → l ≡ read_point p text → p ≡ y → read_point y text ≡ l
line_read p text h q = rw (← q) (sym h)

pub print_converted-requires : goal.print_converted-requires
print_converted-requires c = (sym c.requires.0 ∙ ap line_told c.in-Ok.is, c.requires.1)

pub returns-in-Err-Malformed : goal.returns-in-Err-Malformed
returns-in-Err-Malformed c =
    λ s h.
    let m = c.in-Err-Malformed in
    let e = line_read c.args.state.profile c.args.text.now c.requires.0 h.profile ∙ as-malformed _ _ _ m.is (rw m.is at m.field-0-is) in
    rw e (shown (gave-refusal h _ _ _ _ h.refused (h.closed ∙ sym (or-false s.closed)) (number m.fault.refusal) m.fault.place _ refl) c.print_refusal.ensures)

pub returns-in-Err-Refused : goal.returns-in-Err-Refused
returns-in-Err-Refused c =
    λ s h.
    let m = c.in-Err-Refused in
    let e = line_read c.args.state.profile c.args.text.now c.requires.0 h.profile ∙ as-refused _ _ _ m.is (rw m.is at m.field-0-is) in
    rw e (shown (gave-refusal h _ _ _ _ h.refused (sym (or-true s.closed)) (number m.refusal) 0 _ refl) (rw c.closing.ensures at c.print_refusal-in-Err-Refused.ensures))

pub returns-in-Ok : goal.returns-in-Ok
returns-in-Ok c =
    λ s h.
    let e = line_read c.args.state.profile c.args.text.now c.requires.0 h.profile ∙ ap line_told c.in-Ok.is in
    rw e (c.print_converted.ensures s h)
