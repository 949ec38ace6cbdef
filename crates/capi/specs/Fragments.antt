-- A sheet in fragments: its state out of numbers and bytes and back, in the order that include/swivelcrane.h gives, and what the two calls answer.
use Rattle.std.specs.Prelude.{ℕ, ◌+◌, ◌-◌, ◌*◌, ◌≡◌, Bool, true, false, not, ◌&&◌, ◌||◌, List, [], ◌∷◌, ◌++◌, eqb, leb, ltb, ℤ, pos, neg_ℤ, nat_abs, length, get_or, take, drop, replicate, Some, None, Ok, Err}
use Rattle.std.proofs.lemmas.List.Edits.{sets}
use Rattle.refusal.specs.Numbers as refusal
use Rattle.refusal.specs.Order.{pick}
use Rattle.refusal.specs.Refusals as refusals
use Rattle.ranges.specs.Ranges.{within, equal}
use Rattle.chain.specs.declared.Convention.{Convention}
use Rattle.chain.specs.declared.Convention.TheVariants.{PositionVector, CoordinateFrame}
use Rattle.chain.specs.declared.Kind.{Kind}
use Rattle.chain.specs.declared.Kind.TheVariants.{Shift, Velocity, BursaWolf, Frame}
use Rattle.chain.specs.declared.Step.{Step}
use Rattle.chain.specs.declared.Chain.{Chain}
use Rattle.chain.specs.Faults.{latest}
use Rattle.chain.specs.Join.{past_steps}
use Rattle.line.specs.Bytes.{letter_b, letter_c, letter_f, letter_p, letter_t, letter_v}
use Rattle.sheet_rules.specs.declared.Standing.{Standing}
use Rattle.sheet_rules.specs.Sheet.{reply_text}
use Rattle.sheet_stream.specs.declared.Stream.{Stream}
use Rattle.sheet_stream.specs.declared.Fed.{Fed}
use Rattle.sheet_stream.specs.Fragments.{Outcome, no_bytes, fresh, feed_of, finish_of}
use Rattle.chain.specs.Numbers.{number, chain_from}
use Rattle.chain.specs.Numbers.{no_step}

-- ---- the lengths: seven numbers and 13 to each of eight steps; the open line's bytes; room for an answer
unfoldable pub sized_state : ℕ → ℕ → ℕ → Bool
sized_state numbers bytes out = eqb numbers 111 && eqb bytes 200 && leb 200 out

-- ---- the state out of numbers: lines answered, bytes kept, refused, closed, finished, profile, steps; then the steps
abbrev pub is_flag : ℤ → Bool
is_flag n = within (pos 0) n (pos 1)

-- the counts and the flags; a profile that is none is the chain's fault
unfoldable pub state_range : List ℤ → Bool
state_range ns =
    (within (pos 0) (number ns 0) (pos 1000000) && within (pos 0) (number ns 1) (pos 200) && within (pos 0) (number ns 6) (pos 8))
    && (is_flag (number ns 2) && is_flag (number ns 3) && is_flag (number ns 4))

abbrev pub flag : ℤ → Bool
flag n = not (equal (pos 0) n)

-- so many steps, from the eighth number on; the numbers past them are not looked at
unfoldable pub chain_in : List ℤ → Chain
chain_in ns = chain_from (number ns 5) (take (13 * nat_abs (number ns 6)) (drop 7 ns))

abbrev pub standing_in : List ℤ → Standing
standing_in ns = record { line = nat_abs (number ns 0) + 1; chain = chain_in ns; refused = flag (number ns 2); closed = flag (number ns 3) }

unfoldable pub stream_from : List ℤ → List ℕ → Stream
stream_from ns bytes = record {
  standing = standing_in ns;
  count = nat_abs (number ns 1);
  kept = bytes;
  finished = flag (number ns 4);
}

-- a fresh state: all 0 but the profile. It is one that the library's theorem is about
abbrev pub fresh_numbers : List ℤ
fresh_numbers = replicate 5 (pos 0) ++ (latest ∷ replicate 105 (pos 0))

abbrev pub FreshFromC : Type 0
FreshFromC = stream_from fresh_numbers no_bytes ≡ fresh (replicate 8 no_step)

-- ---- and back
abbrev pub bit : Bool → ℤ
bit true = pos 1
bit false = pos 0

unfoldable pub head_of : Stream → List ℤ
head_of s =
    pos (s.standing.line - 1)
    ∷ pos s.count
    ∷ bit s.standing.refused
    ∷ bit s.standing.closed
    ∷ bit s.finished
    ∷ s.standing.chain.profile
    ∷ pos s.standing.chain.length
    ∷ []

-- a step: kind, convention, datum and epoch before and after, and the numbers of its kind; 0 where it has none
abbrev pub convention_number : Convention → ℤ
convention_number PositionVector = pos letter_p
convention_number CoordinateFrame = pos letter_c

abbrev pub step_row : ℤ → ℤ → Step → ℤ → ℤ → ℤ → ℤ → ℤ → ℤ → ℤ → List ℤ
step_row kind convention s a b c d e f g =
    kind
    ∷ convention
    ∷ s.before.datum
    ∷ s.before.epoch
    ∷ s.after.datum
    ∷ s.after.epoch
    ∷ a ∷ b ∷ c ∷ d ∷ e ∷ f ∷ g
    ∷ []

abbrev pub kind_row : Kind → Step → List ℤ
kind_row (Shift t) s = step_row (pos letter_t) (pos 0) s t.dx t.dy t.dz (pos 0) (pos 0) (pos 0) (pos 0)
kind_row (Velocity t) s = step_row (pos letter_v) (pos 0) s t.vx t.vy t.vz (pos 0) (pos 0) (pos 0) (pos 0)
kind_row (BursaWolf t) s = step_row (pos letter_b) (convention_number t.convention) s t.dx t.dy t.dz t.rx t.ry t.rz t.s
kind_row Frame s = step_row (pos letter_f) (pos 0) s (pos 0) (pos 0) (pos 0) (pos 0) (pos 0) (pos 0) (pos 0)

unfoldable pub step_numbers : Step → List ℤ
step_numbers s = kind_row s.kind s

-- a step that was taken in stands past those that were there
unfoldable pub with_new_step : List ℤ → Chain → List ℤ
with_new_step ns c =
    pick (ltb (nat_abs (number ns 6)) c.length) (sets ns (7 + 13 * nat_abs (number ns 6)) (step_numbers (get_or c.steps (nat_abs (number ns 6)) past_steps))) ns

-- the state's numbers after a call, from those before it
unfoldable pub numbers_with : List ℤ → Stream → List ℤ
numbers_with ns s = sets (with_new_step ns s.standing.chain) 0 (head_of s)

-- ---- a call: arrays of a wrong length; refused; or the state after it, and what the line that ended prints, nothing where none ended
pub data Called : Type 0 where
  wrong_length : Called
  refused : ℕ → Called
  answers : Stream → List ℕ → Called

abbrev pub of_outcome : Stream → Outcome → Called
of_outcome s (Ok None) = answers s []
of_outcome s (Ok (Some r)) = answers s (reply_text r)
of_outcome s (Err refusal) = refused (refusals.number refusal)

abbrev pub called : Fed → Called
called r = of_outcome r.stream r.outcome

unfoldable pub state_call : (Stream → Fed) → List ℤ → List ℕ → Bool → Called
state_call f numbers bytes sized =
    pick sized (pick (state_range numbers) (called (f (stream_from numbers bytes))) (refused refusal.state)) wrong_length

-- the length of what is printed; minus the number of a refusal or of a wrong length
abbrev pub length_of : Called → ℤ
length_of wrong_length = neg_ℤ (pos 255)
length_of (refused n) = neg_ℤ (pos n)
length_of (answers s text) = pos (length text)

abbrev pub numbers_after : Called → List ℤ → List ℤ
numbers_after wrong_length before = before
numbers_after (refused n) before = before
numbers_after (answers s text) before = numbers_with before s

abbrev pub bytes_after : Called → List ℕ → List ℕ
bytes_after wrong_length before = before
bytes_after (refused n) before = before
bytes_after (answers s text) before = s.kept

-- the bytes past what is printed are as they were
abbrev pub out_after : Called → List ℕ → List ℕ
out_after wrong_length before = before
out_after (refused n) before = before
out_after (answers s text) before = text ++ drop (length text) before

-- the three arrays, which held `numbers`, `bytes` and `out`, after the call, and what it returns
pub record Stated (c : Called) (numbers numbers' : List ℤ) (bytes bytes' out out' : List ℕ) (r : ℤ) : Type 0 where
  pub status : r ≡ length_of c
  pub state : numbers' ≡ numbers_after c numbers
  pub line : bytes' ≡ bytes_after c bytes
  pub written : out' ≡ out_after c out

-- ---- what is told of a call with a fragment: the bytes taken, and 1 where a line was answered, 0 where none ended
abbrev pub told_of : ℕ → Outcome → List ℤ → List ℤ
told_of n (Ok None) before = pos n ∷ pos 0 ∷ []
told_of n (Ok (Some r)) before = pos n ∷ pos 1 ∷ []
told_of n (Err refusal) before = before

-- how the code gets there: a call whose lengths and ranges are good, and which prints nothing
pub record OpenCall (fragment : List ℕ) (numbers numbers' : List ℤ) (bytes bytes' : List ℕ) (told told' : List ℤ) (r : ℤ) : Type 0 where
  pub state : (out : List ℕ) → Stated (called (feed_of (stream_from numbers bytes) fragment)) numbers numbers' bytes bytes' out out r
  pub tells : told' ≡ told_of (feed_of (stream_from numbers bytes) fragment).taken (feed_of (stream_from numbers bytes) fragment).outcome told

-- what a call does that comes to this, its lengths and ranges being good
pub record FedCall (x : Fed) (numbers numbers' : List ℤ) (bytes bytes' out out' : List ℕ) (told told' : List ℤ) (r : ℤ) : Type 0 where
  pub state : Stated (called x) numbers numbers' bytes bytes' out out' r
  pub tells : told' ≡ told_of x.taken x.outcome told

-- a point line can come next: the sheet is not finished, the limit is far, and there are no more steps than lines
unfoldable pub point_time : List ℤ → Bool
point_time ns = not (flag (number ns 4)) && ltb (nat_abs (number ns 0)) 1000000 && leb (nat_abs (number ns 6)) (nat_abs (number ns 0))

-- where the sheet stands after it: the chain is as it was
abbrev pub point_passed : List ℤ → Bool → Standing
point_passed ns closes = record { line = nat_abs (number ns 0) + 1 + 1; chain = chain_in ns; refused = flag (number ns 2); closed = flag (number ns 3) || closes }

unfoldable pub told_after : (Stream → Fed) → List ℤ → List ℕ → Bool → List ℤ → List ℤ
told_after f numbers bytes sized before =
    pick sized (pick (state_range numbers) (told_of (f (stream_from numbers bytes)).taken (f (stream_from numbers bytes)).outcome before) before) before

-- the lengths of all that a call with a fragment is lent
abbrev pub sized_feed : List ℤ → List ℕ → List ℕ → List ℤ → Bool
sized_feed numbers bytes out told = sized_state (length numbers) (length bytes) (length out) && eqb (length told) 2

pub record Streamed (fragment : List ℕ) (numbers numbers' : List ℤ) (bytes bytes' out out' : List ℕ) (told told' : List ℤ) (r : ℤ) : Type 0 where
  pub state : Stated (state_call (λ s. feed_of s fragment) numbers bytes (sized_feed numbers bytes out told)) numbers numbers' bytes bytes' out out' r
  pub tells : told' ≡ told_after (λ s. feed_of s fragment) numbers bytes (sized_feed numbers bytes out told) told

abbrev pub Ended : List ℤ → List ℤ → List ℕ → List ℕ → List ℕ → List ℕ → ℤ → Type 0
Ended numbers numbers' bytes bytes' out out' r =
    Stated (state_call finish_of numbers bytes (sized_state (length numbers) (length bytes) (length out))) numbers numbers' bytes bytes' out out' r
