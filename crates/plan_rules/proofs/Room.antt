-- The room that a plan asks for holds all that it prints. Assumes nothing.
use mathlib.Core.Path.{refl}
use mathlib.Core.Bool.{Bool, true, false}
use mathlib.Core.List.{List}
use mathlib.Core.Option.{Option, none, some}
use Prim.Native.Nat.{ℕ, ◌*◌, ◌<◌, ◌≤◌}
use Rattle.std.proofs.Common.{Result}
use native.Mathlib.Omega.{arith}
use lib.ListN.{length}
use Rattle.refusal.specs.Numbers as refusal
use Rattle.refusal.specs.Order.{pick}
use Rattle.angle.specs.declared.OriginNumbers.{OriginNumbers}
use Rattle.angle.specs.declared.Millimetres.{Millimetres}
use Rattle.angle.proofs.Outcomes as projection
use Rattle.line.specs.Answers.{Fault, Line}
use Rattle.line.specs.declared.Geodetic.{Geodetic}
use Rattle.line.specs.Bytes.{letter_o, letter_g}
use Rattle.line.specs.Readers.{strange_fault, read_origin, read_geodetic}
use Rattle.line.proofs.Lengths.{length-projected}
use Rattle.line.proofs.Readers.{Small, strange-small, origin-outcome, geodetic-outcome}
use Rattle.listing.proofs.Fold.{by-letter}
use Rattle.listing.specs.Fold.{room_for}
use Rattle.listing.proofs.Room.{Roomy, refusal-fits, printed-fits}
use Rattle.plan_rules.specs.declared.Reply.{Reply}
use Rattle.plan_rules.specs.declared.Reply.TheVariants as reply
use Rattle.plan_rules.specs.Plan.{Plan, fresh, rules, not_first, no_origin, reply_text, refuse, malformed, origin_reply, projected_reply, laid, geodetic_reply, reply_of, plan_of}
use Rattle.plan_rules.proofs.Laws.{next-line}

-- a reply is within the room of a line of n bytes
abbrev Fits : ℕ → Reply → Type 0
Fits n r = length (reply_text r) ≤ 13 * n

either : (b : Bool) (k n : ℕ) → k < 100 → n < 100 → pick b k n < 100
either true k n h i = h
either false k n h i = i

module _ (p : Plan) (l : List ℕ) (full : 0 < length l) (few : p.line < 100000) where
  refused : (n : ℕ) → n < 100 → Fits (length l) (refuse p n)
  refused n h = refusal-fits l p.line n 0 full few h (omega arith) (omega arith)

  bad-form : (f : Fault) → Small l f → Fits (length l) (malformed p f)
  bad-form f h = refusal-fits l p.line f.number f.place full few h.number h.inside h.low

  origin : Fits (length l) (origin_reply p (read_origin l))
  origin = origin-outcome (λ (r : Line OriginNumbers). Fits (length l) (origin_reply p r)) l (λ o f. good (not_first p)) bad-form (λ n h. refused _ (either (not_first p) refusal.misplaced n (omega arith) h))
    where
      good : (b : Bool) → Fits (length l) (pick b (refuse p refusal.misplaced) reply.Nothing)
      good true = refused refusal.misplaced (omega arith)
      good false = omega arith

  -- a good position line has 8 bytes or more, and the projected line at most 60
  geodetic : Fits (length l) (geodetic_reply p (read_geodetic l))
  geodetic = geodetic-outcome (λ (r : Line Geodetic). Fits (length l) (geodetic_reply p r)) l (λ g h. good g h p.origin) bad-form (λ n h. refused _ (either (no_origin p.origin) refusal.earlier n (omega arith) h))
    where
      good : (g : Geodetic) → 8 ≤ length l → (o : Option OriginNumbers) → Fits (length l) (laid p o g)
      good g h none = refused refusal.earlier (omega arith)
      good g h (some o) =
          projection.outcome o g.latitude g.longitude (λ (r : Result Millimetres ℕ). Fits (length l) (projected_reply p g.id r))
          (λ e n i j. omega (arith, length-projected g.id e n (omega arith) (omega arith))) refused

  short : Fits (length l) (reply_of p l)
  unfolding reply_of
  short = by-letter (Fits (length l)) letter_o letter_g l _ _ _ origin geodetic (bad-form (strange_fault l) (strange-small l))

pub roomy : Roomy rules (λ (p : Plan). p.line)
roomy = record { counts = next-line; short = short }

pub plan-fits : (input : List ℕ) → length (plan_of input) ≤ room_for (length input)
unfolding plan_of
plan-fits input = printed-fits roomy fresh refl input
