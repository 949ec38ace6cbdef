-- Where a sheet stands between two lines, by value, for a sheet that arrives in fragments: its chain is steps, as a caller keeps them and hands them back.
use Rattle.std.specs.Prelude.{◌≡◌, Bool, true, false, ◌&&◌, List, [], ◌∷◌, ◌++◌, ℕ, suc, eqb, leb, ltb, ℤ, length, drop, Option, Some, None, IsSomeAnd}
use Rattle.refusal.specs.Numbers as refusal
use Rattle.line.specs.Answers.{Line, Good, Malformed, Refused}
use Rattle.refusal.specs.Order.{pick, first}
use Rattle.chain.specs.declared.Step.{Step}
use Rattle.chain.specs.declared.Chain.{Chain}
use Rattle.chain.specs.Faults.{latest, chain_tests, steps_of}
use Rattle.chain.specs.Prepared as prepared
use Rattle.line.specs.Readers.{read_point}
use Rattle.line.specs.Text.{Wrote}
use Rattle.sheet_rules.specs.declared.Standing.{Standing}
use Rattle.sheet_rules.specs.declared.Answered.{Answered}
use Rattle.sheet_rules.specs.declared.Reply.{Reply}
use Rattle.sheet_rules.specs.declared.Reply.TheVariants as reply
use Rattle.sheet_rules.specs.declared.LentPoint.{LentPoint}
use Rattle.sheet_rules.specs.Sheet.{Sheet, reply_text, point_reply, closes, reply_of, next_of}

-- at most so many lines of a sheet are answered by its rules
abbrev pub most_lines : ℕ
most_lines = 1000000

-- ---- the sheet that stands here
abbrev pub sheet_at : Standing → Sheet
sheet_at s = record { line = s.line; profile = s.chain.profile; steps = steps_of s.chain; refused = s.refused; closed = s.closed }

-- these steps in a chain, under a profile; what stands past them stays as it was
abbrev pub chain_with : Chain → ℤ → List Step → Chain
chain_with c y ss = record { steps = ss ++ drop (length ss) c.steps; length = length ss; profile = y }

-- where a sheet stands, its steps in a chain
abbrev pub standing_at : Chain → Sheet → Standing
standing_at c s = record { line = s.line; chain = chain_with c s.profile s.steps; refused = s.refused; closed = s.closed }

-- nothing read yet, whatever steps the chain has to spare
abbrev pub fresh_at : List Step → Standing
fresh_at spare = record { line = 1; chain = record { steps = spare; length = 0; profile = latest }; refused = false; closed = false }

-- ---- a sheet can stand here: its counts are in range, and its chain is good by value
-- the line to come has at most one line past the limit as its number, and no line before it gave more than one step
unfoldable pub counted : ℕ → ℕ → Bool
counted line steps = ltb steps line && leb line (suc most_lines)

unfoldable pub sound_standing : Standing → Bool
sound_standing s = counted s.line s.chain.length && eqb (first (chain_tests s.chain)) 0

-- ---- one line: 28 past the limit, before all others, which is not read and moves nothing; else as the sheet's rules say
unfoldable pub past_lines : Standing → Bool
past_lines s = ltb most_lines s.line

unfoldable pub reply_to : Standing → List ℕ → Reply
reply_to s l = pick (past_lines s) (reply.Refused (suc most_lines) refusal.limit 0) (reply_of (sheet_at s) l)

unfoldable pub after_line : Standing → List ℕ → Standing
after_line s l = pick (past_lines s) s (standing_at s.chain (next_of (sheet_at s) l))

abbrev pub answered : Standing → Option Reply → Answered
answered s r = record { standing = s; response = r }

unfoldable pub line_answered : Standing → List ℕ → Answered
line_answered s l = answered (after_line s l) (Some (reply_to s l))

unfoldable pub answered_to : Standing → List ℕ → Answered
answered_to s l = pick (sound_standing s) (line_answered s l) (answered s None)

-- ---- over a chain by itself, for a caller that keeps the rest
-- a sheet can stand before this line, with this chain
unfoldable pub sound_at : ℕ → Chain → Bool
sound_at line c = counted line c.length && eqb (first (chain_tests c)) 0

-- what a point line is answered, if a sheet can stand there, and whether it closes the chain
pub record PointAnswer : Type 0 where
  pub response : Option Reply
  pub closes : Bool

-- what is answered where the chain is good, and whether the line closes it; no sheet stands at a bad one
abbrev pub where_good : Chain → Reply → Bool → PointAnswer
where_good c r b = pick (eqb (first (chain_tests c)) 0) (record { response = Some r; closes = b }) (record { response = None; closes = false })

-- a line of this number, read as a point line, after a refused step or none
unfoldable pub point_answered : Chain → ℕ → Bool → List ℕ → PointAnswer
point_answered c line refused l =
    where_good c
    (point_reply (record { line = line; profile = c.profile; steps = steps_of c; refused = refused; closed = false }) (read_point c.profile l))
    (closes (read_point c.profile l))

-- a response printed from a place on: where no sheet stands, nothing is written
abbrev pub PrintedAs : Option Reply → Bool → List ℕ → ℕ → List ℕ → Option LentPoint → Type 0
PrintedAs None closes before at after r = (r ≡ None) × (after ≡ before)
PrintedAs (Some p) closes before at after r = IsSomeAnd r (λ q. (q.closes ≡ closes) × Wrote before at (reply_text p) after q.at)

-- what a point line is answered, printed
pub record PointPrinted (a : PointAnswer) (before : List ℕ) (at : ℕ) (after : List ℕ) (r : Option LentPoint) : Type 0 where
  pub printed : PrintedAs a.response a.closes before at after r

-- ---- how the code gets there
-- a chain prepared step by step: whether it is good, and the numbers that hold it
pub record PreparesChain (c : Chain) (numbers : List ℤ) (good : Bool) : Type 0 where
  pub told : good ≡ eqb (first (chain_tests c)) 0
  pub holds : good ≡ true → prepared.Holds c.profile numbers (steps_of c)

-- the steps after a line: one that begins with S and prints nothing is an accepted step
abbrev pub steps_after : List Step → Bool → Reply → Line Step → List Step
steps_after ss false r l = ss
steps_after ss true reply.Nothing (Good t) = ss ++ (t ∷ [])
steps_after ss true reply.Nothing (Malformed f) = ss
steps_after ss true reply.Nothing (Refused n) = ss
steps_after ss true (reply.Point p) l = ss
steps_after ss true (reply.Refused line number place) l = ss
