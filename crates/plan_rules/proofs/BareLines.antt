-- A bare line feed is refused by its letter, and changes nothing but the number of the line to come. Assumes nothing.
use Prim.Native.Nat.{ℕ, suc, ◌+◌}
use mathlib.Core.Path.{◌≡◌, refl, ap}
use mathlib.Core.List.{[], ◌∷◌}
use native.Mathlib.Nat.{add-zero}
use native.Mathlib.Omega.{arith}
use Rattle.line.specs.Answers.{Fault}
use Rattle.line.specs.Bytes.{line_feed}
use Rattle.line.specs.Text.{refusal_text}
use Rattle.line.proofs.BareLines.{feed-fault}
use Rattle.listing.proofs.Fold.{Bare, after_feeds, after-feeds}
use Rattle.plan_rules.specs.declared.State.{State}
use Rattle.plan_rules.specs.Plan.{Plan, rules, reply_of, next_of}
use Rattle.plan_rules.specs.State.{Holds}

pub bare : Bare rules (λ (p : Plan). p.line)
unfolding reply_of next_of
bare = record { refused = λ p. ap (λ (f : Fault). refusal_text p.line f.number f.place) feed-fault; counted = λ p. refl }

-- only the number of the line to come moves
further : ℕ → Plan → Plan
further k p = record { line = p.line + k; origin = p.origin }

further-none : (p : Plan) → further 0 p ≡ p
unfolding further
further-none p = rw add-zero

further-one : (k : ℕ) (p : Plan) → further (suc k) p ≡ further k (rules.next p (line_feed ∷ []))
unfolding further next_of
further-one k p = let e : p.line + suc k ≡ p.line + 1 + k = omega arith in rw e

pub hold-feeds : {st : State} {p : Plan} (k : ℕ) → Holds st p → Holds (record { line = st.line + k; origin = st.origin }) (after_feeds rules k p)
unfolding further
hold-feeds {p = p} k h = rw (after-feeds rules further further-none further-one k p) (record { line = ap (λ (n : ℕ). n + k) h.line; origin = h.origin })
