-- What the chain says of a step, and what a year says, is what the text says; and a lot as the buffer holds it. Assumes nothing.
use Prim.Native.Nat.{ℕ, zero, suc, ◌^◌, ◌≤◌, ◌<◌}
use mathlib.Core.Path.{◌≡◌, refl, sym, ap, ◌∙◌}
use mathlib.Core.Bool.{Bool, true, false}
use mathlib.Core.List.{List, [], ◌∷◌, ◌++◌}
use lib.IntN.{ℤ, pos, negsuc, neg_ℤ, nat_abs, ◌-ℤ◌, +ℤ_idl}
use lib.ListN.{length}
use native.Mathlib.Omega.{arith}
use mir.Syntax.{w64}
use mir.Val.{SFits, to_z, of_z}
use mir.ValLaws.{to_z_pos, to_z-of_z}
use Rattle.refusal.specs.Order.{first, unless}
use Rattle.refusal.proofs.Orders.{unless-none, unless-some}
use Rattle.chain.specs.declared.Step.{Step}
use Rattle.chain.specs.declared.Label.{Label}
use Rattle.chain.specs.Faults.{step_fault, profile_fault}
use Rattle.chain.specs.Convert.{more_tests}
use Rattle.chain.specs.Prepared.{Holds, extend_fault, extended_by}
use Rattle.chain.proofs.Keeping.{extend-joins, extend-holds, holds-under}
use Rattle.line.specs.Answers.{Good}
use Rattle.line.specs.Text.{Wrote}
use Rattle.line.specs.Lot.{lot_text}
use Rattle.line.proofs.Lots.{length-lot, wrote-whole}
use Rattle.std.proofs.Common.{Result, Ok, Err, IsErrAnd, MatchResult}
use Rattle.refusal.specs.Refusals.{number, told}
use Rattle.refusal.specs.declared.Refusal.{Refusal}
use Rattle.line.specs.declared.Unread.{Unread}
use Rattle.lot_plan.specs.LotPlan.{chain, refused, with_step, with_edition}
use Rattle.lot_plan.specs.Reading.{Took, edition_read}
use Rattle.lot_plan.specs.Drawn.{Drawn}

-- ---- a refusal that a `?` hands on, and a reading whose refusal loses its place
pub handed-on : {A : Type 0} (e : Refusal) (r : Result A Refusal) → IsErrAnd r (λ (u : Refusal). u ≡ e) → told r ≡ Err (number e)
handed-on e (Ok a) h = absurd h
handed-on e (Err u) h = rw h

pub mapped : {A : Type 0} (r : Result A Unread) (m : Result A Refusal) (Q : Unread → Refusal → Type 0) {a : A} → MatchResult r (λ (x : A). m ≡ Ok x) (λ (u : Unread). IsErrAnd m (Q u)) → m ≡ Ok a → r ≡ Ok a
mapped (Ok x) m Q {a} h q = let z : x ≡ a = cc (sym h ∙ q) in ap (λ b. Ok b) z
mapped (Err u) m Q h q = absurd (rw q at h)

-- ---- a step whose line is good by itself
module _ (y : ℤ) (l : List ℤ) (ss : List Step) (h : Holds y l ss) (s : Step) (good : step_fault y s ≡ 0) where
  tests : extend_fault y l s ≡ first (more_tests ss s)
  tests = extend-joins y l ss s h good

  pub took-no-step : (n : ℕ) → n ≡ extend_fault y l s → (n ≡ 0 → ⊥) → (m : List ℤ) → Took (with_step y ss (Good s)) m (Err n)
  took-no-step n e z m =
      rw (unless-some (first (more_tests ss s)) refused (chain y (ss ++ (s ∷ []))) (λ q. z (e ∙ tests ∙ q))) (ap Err (e ∙ tests))

  pub took-step : extend_fault y l s ≡ 0 → (m : List ℤ) → m ≡ extended_by y l s → Took (with_step y ss (Good s)) m (Ok y)
  took-step z m i =
      rw (unless-none (first (more_tests ss s)) refused (chain y (ss ++ (s ∷ []))) (sym tests ∙ z), i) (refl, extend-holds y l ss s h z)

-- ---- an edition's year, on the first line and on any other
pub took-edition : (isFirst : Bool) (v y : ℤ) (ss : List Step) (l : List ℤ) → (isFirst ≡ true → ss ≡ []) → Holds y l ss
    → Took (with_edition isFirst (Ok v)) l (edition_read isFirst v)
took-edition false v y ss l none h = refl
took-edition true v y ss l none h = go (profile_fault v) refl
  where
    go : (k : ℕ) → profile_fault v ≡ k → Took (unless k refused (chain v [])) l (unless k Err (Ok v))
    go zero e = (refl, holds-under y v l (rw (none refl) at h) e)
    go (suc k) e = refl

-- ---- an i64 has at most 19 digits
size : (z : ℤ) → SFits w64 z → nat_abs z < 10 ^ 19
size (pos n) f = omega (arith, f.sfits)
size (negsuc n) f = omega (arith, f.sfits)

-- the line in a buffer of 200 bytes or more
pub drawn : {before after : List ℕ} {r : ℕ} (l : Label) (e n : ℤ) → SFits w64 l.issue → SFits w64 l.order → SFits w64 e → SFits w64 n
    → 200 ≤ length before → Wrote before 0 (lot_text l e n) after r → Drawn (Ok (record { label = l; easting = e; northing = n })) before after (to_z w64 r)
drawn {r = r} l e n h i j k room w =
    let short = length-lot l e n (size l.issue h) (size l.order i) (size e j) (size n k) in
    let a = wrote-whole (omega (arith, short, room)) w in
    record { answer = to_z_pos w64 r (omega (arith, a.0, short)) ∙ ap pos a.0; buffer = a.1 }
