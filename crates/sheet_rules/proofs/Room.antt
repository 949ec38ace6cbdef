-- The room that a sheet asks for holds all that it prints. Assumes nothing.
use mathlib.Core.Path.{◌≡◌, refl, sym}
use mathlib.Core.Bool.{Bool, true, false}
use mathlib.Core.List.{List}
use Prim.Native.Nat.{ℕ, zero, suc, ◌*◌, ◌<◌, ◌≤◌}
use native.Mathlib.Omega.{arith}
use lib.IntN.{ℤ}
use lib.ListN.{length, length-append}
use Rattle.refusal.specs.Numbers as refusal
use Rattle.refusal.specs.Order.{pick, first, unless}
use Rattle.std.specs.Prelude.{Result}
use Rattle.line.specs.Answers.{Fault, Line, Good}
use Rattle.refusal.proofs.Orders.{first_short}
use Rattle.chain.specs.declared.Point.{Point}
use Rattle.chain.specs.declared.Step.{Step}
use Rattle.chain.specs.Faults.{point_fault}
use Rattle.chain.specs.Convert.{Answer, forward_of}
use Rattle.chain.specs.Prepared.{chain_of}
use Rattle.chain.proofs.Outcomes as conversion
use Rattle.line.specs.Bytes.{letter_s, letter_p, letter_e}
use Rattle.line.specs.Readers.{strange_fault, read_point, read_step, read_edition}
use Rattle.line.specs.Text.{decimal, refusal_text}
use Rattle.line.proofs.Lengths.{length-decimal, length-point}
use Rattle.line.proofs.Texts.{refusal_is}
use Rattle.line.proofs.Readers.{Small, strange-small, point-outcome, step-outcome, edition-outcome}
use Rattle.listing.proofs.Fold.{by-letters, printed-lines}
use Rattle.line.specs.Lines.{lines}
use Rattle.listing.specs.Fold.{run, longest_input, room_for}
use Rattle.listing.proofs.Room.{Roomy, refusal-fits, printed-fits}
use Rattle.sheet_rules.specs.declared.Reply.{Reply}
use Rattle.sheet_rules.specs.declared.Reply.TheVariants as reply
use Rattle.sheet_rules.specs.Sheet.{Sheet, fresh, rules, reply_text, refuse, malformed, step_line_tests, step_reply, conversion_reply, point_reply, edition_tests, edition_reply, reply_of, sheet_of}
use Rattle.sheet_rules.specs.declared.Standing.{Standing}
use Rattle.sheet_rules.specs.OneLine.{most_lines, sheet_at, past_lines, reply_to}
use Rattle.sheet_rules.proofs.Laws.{next-line}

-- a reply has at most n bytes
abbrev Fits : ℕ → Reply → Type 0
Fits n r = length (reply_text r) ≤ n

-- a good point line has 18 bytes or more, and the point's new line at most 80
module _ (s : Sheet) (l : List ℕ) (n : ℕ) (refused : (k : ℕ) → k < 100 → Fits n (refuse s k)) (bad-form : (f : Fault) → Small l f → Fits n (malformed s f)) (wide : 18 ≤ length l → 80 ≤ n) where
  -- what is accepted prints nothing
  unless-refused : (k : ℕ) → k < 100 → Fits n (unless k (refuse s) reply.Nothing)
  unless-refused zero h = omega arith
  unless-refused (suc k) h = refused (suc k) h

  step : Fits n (step_reply s (read_step s.profile l))
  step = step-outcome s.profile (λ (r : Line Step). Fits n (step_reply s r)) l (λ t f. unless-refused (first (step_line_tests s t)) (first_short (step_line_tests s t) tt)) bad-form refused

  edition : Fits n (edition_reply s (read_edition l))
  edition = edition-outcome (λ (r : Result ℤ Fault). Fits n (edition_reply s r)) l (λ y. unless-refused (first (edition_tests s y)) (first_short (edition_tests s y) tt)) bad-form

  point : Fits n (point_reply s (read_point s.profile l))
  point = point-outcome s.profile (λ (r : Line Point). Fits n (point_reply s r)) l good bad-form refused
    where
      good : (p : Point) → point_fault s.profile p ≡ 0 → 18 ≤ length l → Fits n (point_reply s (Good p))
      good p f h = go s.refused
        where
          go : (b : Bool) → Fits n (pick b (refuse s refusal.earlier) (conversion_reply s (forward_of (chain_of s.profile s.steps) p)))
          go true = refused refusal.earlier (omega arith)
          go false =
              conversion.outcome (chain_of s.profile s.steps) p (λ (a : Answer). Fits n (conversion_reply s a)) f (λ q k. omega (arith, length-point s.profile q k, wide h)) refused

  reply-fits : Fits n (reply_of s l)
  unfolding reply_of
  reply-fits = by-letters (Fits n) letter_s letter_p letter_e l _ _ _ _ step point edition (bad-form (strange_fault l) (strange-small l))

-- within 13 bytes for each of the line's own
short : (s : Sheet) (l : List ℕ) → 0 < length l → s.line < 100000 → Fits (13 * length l) (reply_of s l)
short s l some few =
    reply-fits s l (13 * length l) (λ k h. refusal-fits l s.line k 0 some few h (omega arith) (omega arith))
    (λ f h. refusal-fits l s.line f.number f.place some few h.number h.inside h.low)
    (λ h. omega arith)

-- ---- one answer, up to the line past the limit: 100 bytes are enough
seven-digits : (n : ℕ) → n < 10000000 → length (decimal n) ≤ 7
seven-digits n h = length-decimal 6 n h

pub refusal-short : (line number place : ℕ) → line ≤ suc most_lines → number < 100 → place ≤ 200 → length (refusal_text line number place) ≤ 100
refusal-short line number place h k m =
    rw (sym (refusal_is line number place)) (simp length-append (omega (arith, seven-digits line (omega arith), seven-digits number (omega arith), seven-digits place (omega arith))))

pub reply-short : (s : Sheet) (l : List ℕ) → s.line ≤ suc most_lines → length (reply_text (reply_of s l)) ≤ 100
reply-short s l h =
    reply-fits s l 100 (λ k m. refusal-short s.line k 0 h m (omega arith)) (λ f m. refusal-short s.line f.number f.place h m.number m.low) (λ _. omega arith)

pub answer-short : (st : Standing) (l : List ℕ) → st.line ≤ suc most_lines → length (reply_text (reply_to st l)) ≤ 100
unfolding reply_to
answer-short st l h = go (past_lines st)
  where
    go : (b : Bool) → length (reply_text (pick b (reply.Refused (suc most_lines) refusal.limit 0) (reply_of (sheet_at st) l))) ≤ 100
    go true = refusal-short (suc most_lines) refusal.limit 0 (omega arith) (omega arith) (omega arith)
    go false = reply-short (sheet_at st) l h

pub roomy : Roomy rules (λ (s : Sheet). s.line)
roomy = record { counts = next-line; short = short }

-- what a sheet prints that is not too long
pub sheet-lines : (input : List ℕ) → length input ≤ longest_input → sheet_of input ≡ run rules fresh (lines input)
unfolding sheet_of
sheet-lines input h = printed-lines rules fresh input h

pub sheet-fits : (input : List ℕ) → length (sheet_of input) ≤ room_for (length input)
unfolding sheet_of
sheet-fits input = printed-fits roomy fresh refl input
