-- How the code carries a plan: the accepted origin's values, made once; and what it decides on a line.
use Rattle.std.specs.Prelude.{◌≡◌, ℕ, Result, Ok, Err, Some, None}
use Rattle.std.specs.Prelude as declared
use Rattle.std.proofs.Math.Option.{Option, none, some}
use Rattle.refusal.specs.Refusals.{number}
use Rattle.angle.specs.declared.Origin.{Origin}
use Rattle.angle.specs.declared.OriginNumbers.{OriginNumbers}
use Rattle.angle.specs.Cassini.{origin_of}
use Rattle.line.specs.declared.Unread.{Unread}
use Rattle.line.specs.declared.Unread.TheVariants as unread
use Rattle.plan_rules.specs.declared.Reply.{Reply}
use Rattle.plan_rules.specs.declared.Reply.TheVariants as reply
use Rattle.plan_rules.specs.declared.State.{State}
use Rattle.plan_rules.specs.Plan.{Plan}

-- the values are those that the accepted origin's numbers give
abbrev pub Values : declared.Option Origin → Option OriginNumbers → Type 0
Values None none = Unit {0}
Values None (some o) = ⊥
Values (Some m) none = ⊥
Values (Some m) (some o) = origin_of o ≡ Ok m

-- the state holds the plan
pub record Holds (st : State) (p : Plan) : Type 0 where
  pub line : st.line ≡ p.line
  pub origin : Values st.origin p.origin

-- the reply to a line that is not read or not answered, with the line's number
abbrev pub unread_reply : ℕ → Unread → Reply
unread_reply line (unread.Malformed f) = reply.Refused line (number f.refusal) f.place
unread_reply line (unread.Refused refusal) = reply.Refused line (number refusal) 0

-- the reply to any line
abbrev pub reply_told : ℕ → Result Reply Unread → Reply
reply_told line (Ok r) = r
reply_told line (Err u) = unread_reply line u

-- what was decided on a line: the reply to it, and the origin after it
pub record Gave (p : Plan) (answer : Reply) (origin : Option OriginNumbers) (r : Result Reply Unread) (st : State) : Type 0 where
  pub reply : reply_told p.line r ≡ answer
  pub after : Values st.origin origin
