-- What the answer to a line says: whether a sheet can stand where it stood, and where it can, the rules' reply and what comes after. Assumes nothing.
use Prim.Native.Nat.{ℕ, suc, ◌<◌, ◌≤◌}
use mathlib.Core.Path.{◌≡◌, refl, sym, ap, ◌∙◌}
use mathlib.Core.Bool.{Bool, true, false}
use mathlib.Core.List.{List}
use native.Mathlib.Omega.{arith}
use borrow.Author.Tests.{lt-ltb, le-leb, ne_eqb}
use lib.Dec.{eqb}
use Rattle.std.specs.Prelude.{Some, None, Result, Ok, Err, is_ok}
use Rattle.refusal.specs.declared.Refusal.{Refusal}
use Rattle.refusal.specs.Refusals.{number, fault_number}
use Rattle.refusal.proofs.Refusals.{not-none}
use Rattle.chain.specs.declared.Point.{Point}
use Rattle.line.specs.declared.Fault as declared
use Rattle.line.specs.declared.Unread.{Unread}
use Rattle.line.specs.declared.Unread.TheVariants as unread
use Rattle.line.specs.Answers.{Malformed, Refused, fault_told, line_told}
use Rattle.refusal.specs.Order.{pick}
use Rattle.sheet_rules.specs.declared.Standing.{Standing}
use Rattle.sheet_rules.specs.declared.Answered.{Answered}
use Rattle.sheet_rules.specs.declared.Reply.{Reply}
use Rattle.sheet_rules.specs.OneLine.{most_lines, counted, sound_at, sound_standing, reply_to, after_line, answered, line_answered, answered_to}

-- a line's number with no more steps before it than lines, within the limit
pub counted-holds : (line steps : ℕ) → steps < line → line ≤ suc most_lines → counted line steps ≡ true
unfolding counted
counted-holds line steps h k = rw (lt-ltb steps line h, le-leb line (suc most_lines) k)

-- a line that is not read, by its numbers
pub as-malformed : (r : Result Point Unread) (u : Unread) (f : declared.Fault) → r ≡ Err u → u ≡ unread.Malformed f → line_told r ≡ Malformed (fault_told f)
as-malformed r u f e q = rw (e, q)

pub as-refused : (r : Result Point Unread) (u : Unread) (n : Refusal) → r ≡ Err u → u ≡ unread.Refused n → line_told r ≡ Refused (number n)
as-refused r u n e q = rw (e, q)

-- an examination finds no fault, or its number
pub good-fault : (r : Result Unit Refusal) {n : ℕ} → fault_number r ≡ n → is_ok r ≡ eqb n 0
good-fault (Ok x) e = rw (← e)
good-fault (Err refusal) e = rw (← e) (sym (ne_eqb (number refusal) 0 (not-none refusal)))

-- whether a sheet can stand somewhere goes by the line and the chain alone
pub sound-is : (st : Standing) → sound_at st.line st.chain ≡ sound_standing st
unfolding sound_at sound_standing
sound-is st = refl

module _ (st : Standing) (l : List ℕ) (a : Answered) (e : a ≡ answered_to st l) where
  abbrev by : Bool → Answered
  by b = pick {A = Answered} b (answered (after_line st l) (Some (reply_to st l))) (answered st None)

  pub answered-unsound : a.response ≡ None → sound_standing st ≡ false
  unfolding answered_to line_answered
  answered-unsound q = go (sound_standing st) (sym (ap (λ (x : Answered). x.response) e) ∙ q)
    where
      go : (b : Bool) → (by b).response ≡ None → b ≡ false
      go true z = absurd (let y : ◌≡◌ {A = ℕ} 0 1 = cc in omega arith)
      go false z = refl

  pub answered-replied : (r : Reply) → a.response ≡ Some r → (sound_standing st ≡ true) × (reply_to st l ≡ r) × (a.standing ≡ after_line st l)
  unfolding answered_to line_answered
  answered-replied r q = go (sound_standing st) (sym (ap (λ (x : Answered). x.response) e) ∙ q) (ap (λ (x : Answered). x.standing) e)
    where
      go : (b : Bool) → (by b).response ≡ Some r → a.standing ≡ (by b).standing → (b ≡ true) × (reply_to st l ≡ r) × (a.standing ≡ after_line st l)
      go true z y = let x : reply_to st l ≡ r = cc in (refl, x, y)
      go false z y = absurd (let x : ◌≡◌ {A = ℕ} 0 1 = cc in omega arith)
