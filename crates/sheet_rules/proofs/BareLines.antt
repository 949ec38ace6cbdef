-- A bare line feed is refused by its letter, and changes nothing but the number of the line to come. Assumes nothing.
use Prim.Native.Nat.{ℕ, suc, ◌+◌}
use mathlib.Core.Path.{◌≡◌, refl, ap}
use mathlib.Core.List.{List, [], ◌∷◌}
use native.Mathlib.Nat.{add-zero}
use native.Mathlib.Omega.{arith}
use lib.IntN.{ℤ}
use Rattle.line.specs.Bytes.{line_feed}
use Rattle.line.specs.Text.{refusal_text}
use Rattle.line.proofs.BareLines.{feed-fault}
use Rattle.listing.proofs.Fold.{Bare, after_feeds, after-feeds}
use Rattle.sheet_rules.specs.declared.State.{State}
use Rattle.sheet_rules.specs.Sheet.{Sheet, rules, reply_of, next_of}
use Rattle.line.specs.Answers.{Fault}
use Rattle.sheet_rules.specs.State.{Holds, passed_in}

pub bare : Bare rules (λ (s : Sheet). s.line)
unfolding reply_of next_of
bare = record { refused = λ s. ap (λ (f : Fault). refusal_text s.line f.number f.place) feed-fault; counted = λ s. refl }

-- only the number of the line to come moves
further : ℕ → Sheet → Sheet
further k s = record { line = s.line + k; profile = s.profile; steps = s.steps; refused = s.refused; closed = s.closed }

further-none : (s : Sheet) → further 0 s ≡ s
unfolding further
further-none s = rw add-zero

further-one : (k : ℕ) (s : Sheet) → further (suc k) s ≡ further k (rules.next s (line_feed ∷ []))
unfolding further next_of
further-one k s = let e : s.line + suc k ≡ s.line + 1 + k = omega arith in rw e

pub hold-feeds : {st : State} {l : List ℤ} {s : Sheet} (k : ℕ) → Holds st l s → Holds (passed_in st k) l (after_feeds rules k s)
unfolding passed_in further
hold-feeds {s = s} k h = rw (after-feeds rules further further-none further-one k s) (record { line = ap (λ (n : ℕ). n + k) h.line; profile = h.profile; refused = h.refused; closed = h.closed; chain = h.chain; counted = omega (arith, h.counted) })
