-- What is decided: a position on the origin made once is the position on the origin's numbers, and each line is counted. Assumes nothing.
use mathlib.Core.Path.{◌≡◌, refl, ap}
use mathlib.Core.List.{List}
use mathlib.Core.Option.{Option, none, some}
use Prim.Native.Nat.{ℕ, ◌+◌}
use lib.IntN.{ℤ}
use Rattle.std.proofs.Common as declared
use Rattle.std.proofs.Common.{Result, Ok, Err, Some, None, IsErrAnd}
use Rattle.angle.specs.declared.Millimetres.{Millimetres}
use Rattle.angle.specs.declared.Origin.{Origin}
use Rattle.angle.specs.declared.OriginNumbers.{OriginNumbers}
use Rattle.angle.specs.Cassini.{origin_of, cassini_millimetres_from_of, cassini_millimetres_of}
use Rattle.angle.proofs.Made.{by-origin-millimetres}
use Rattle.refusal.specs.Refusals.{number}
use Rattle.refusal.specs.declared.Refusal.{Refusal}
use Rattle.line.specs.Answers.{Line, Good, gives_refused}
use Rattle.line.specs.declared.Geodetic.{Geodetic}
use Rattle.line.specs.declared.Unread.{Unread}
use Rattle.plan_rules.specs.declared.Reply.{Reply}
use Rattle.plan_rules.specs.declared.Reply.TheVariants as reply
use Rattle.plan_rules.specs.declared.State.{State}
use Rattle.plan_rules.specs.Plan.{Plan, next_of, geodetic_reply, projected_reply}
use Rattle.plan_rules.specs.State.{Values, Holds, unread_reply, reply_told}

-- what the values made once answer, at angles as the machine reads them, the origin's numbers answer
pub on-origin : (o : OriginNumbers) (lat lon : ℤ) {m : Origin} {lat' lon' : ℤ} {g : Result Millimetres ℕ} → origin_of o ≡ Ok m → lat' ≡ lat → lon' ≡ lon → cassini_millimetres_from_of m lat' lon' ≡ g → cassini_millimetres_of o lat lon ≡ g
on-origin o lat lon {m} e a b q = rw (← by-origin-millimetres o lat lon m e, ← a, ← b) q

-- an origin that the state has made is the plan's
pub record OriginAccepted (m : Origin) (y : Option OriginNumbers) : Type 0 where
  pub numbers : OriginNumbers
  pub is : y ≡ some numbers
  pub values : origin_of numbers ≡ Ok m

pub accepted : {x : declared.Option Origin} (m : Origin) (y : Option OriginNumbers) → Values x y → x ≡ Some m → OriginAccepted m y
accepted m none h e = absurd (rw e at h)
accepted m (some o) h e = record { numbers = o; is = refl; values = rw e at h }

-- what a position line is replied on such an origin
pub on-position : (p : Plan) (st : State) → Holds st p → (m : Origin) → st.origin ≡ Some m → (g : Geodetic) {lat lon : ℤ} {at : Result Millimetres ℕ} → lat ≡ g.latitude → lon ≡ g.longitude → cassini_millimetres_from_of m lat lon ≡ at → (l : Line Geodetic) → l ≡ Good g → geodetic_reply p l ≡ projected_reply p g.id at
on-position p st h m e g a b q l k = let o = accepted m p.origin h.origin e in rw (k, o.is, on-origin o.numbers g.latitude g.longitude o.values a b q)

-- a refusal that a `?` hands on
pub handed-on : (line : ℕ) (e : Refusal) (r : Result Reply Unread) → IsErrAnd r (gives_refused e) → reply_told line r ≡ reply.Refused line (number e) 0
handed-on line e (Ok a) h = absurd h
handed-on line e (Err u) h = ap (unread_reply line) h

-- ---- each line is counted
pub next-line : (p : Plan) (line : List ℕ) → (next_of p line).line ≡ p.line + 1
unfolding next_of
next-line p line = refl
