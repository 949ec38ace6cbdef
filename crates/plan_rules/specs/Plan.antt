-- What a plan prints. The first line is the origin; each good position prints its easting and northing, each refused line prints R.
use Rattle.std.specs.Prelude.{ℕ, ◌+◌, Bool, true, false, not, List, [], eqb, Result, Ok, Err}
use Rattle.std.proofs.Math.Option.{Option, none, some}
use Rattle.refusal.specs.Numbers as refusal
use Rattle.refusal.specs.Order.{pick}
use Rattle.chain.specs.declared.Id.{Id}
use Rattle.angle.specs.declared.OriginNumbers.{OriginNumbers}
use Rattle.angle.specs.declared.Millimetres.{Millimetres}
use Rattle.angle.specs.Cassini.{cassini_millimetres_of}
use Rattle.line.specs.declared.Geodetic.{Geodetic}
use Rattle.line.specs.Answers.{Fault, Line, Good, Malformed, Refused}
use Rattle.line.specs.Bytes.{letter_o, letter_g}
use Rattle.line.specs.Readers.{strange_fault, read_origin, read_geodetic}
use Rattle.line.specs.Text.{projected_text, refusal_text}
use Rattle.listing.specs.Fold.{Rules, printed, by_letter}
use Rattle.plan_rules.specs.declared.Reply.{Reply}
use Rattle.plan_rules.specs.declared.Reply.TheVariants as reply

-- what has been read so far: the number of the line to come, and the accepted origin
pub record Plan : Type 0 where
  pub line : ℕ
  pub origin : Option OriginNumbers

abbrev pub fresh : Plan
fresh = record { line = 1; origin = none }

-- whether the line to come is not the first
abbrev pub not_first : Plan → Bool
not_first p = not (eqb p.line 1)

-- ---- the reply to a line, and how it prints
abbrev pub reply_text : Reply → List ℕ
reply_text reply.Nothing = []
reply_text (reply.Projected id e n) = projected_text id e n
reply_text (reply.Refused line number place) = refusal_text line number place

-- refused for what it says or where it stands: no place in the line
abbrev pub refuse : Plan → ℕ → Reply
refuse p number = reply.Refused p.line number 0

-- refused for its form, with the place in the line
abbrev pub malformed : Plan → Fault → Reply
malformed p f = reply.Refused p.line f.number f.place

-- the plan after a line, with the origin after it
abbrev pub with_origin : Plan → Option OriginNumbers → Plan
with_origin p origin = record { line = p.line + 1; origin = origin }

-- ---- an origin line: its form, 7, 2, 12; an accepted one prints nothing
abbrev pub origin_reply : Plan → Line OriginNumbers → Reply
origin_reply p (Malformed f) = malformed p f
origin_reply p (Refused n) = refuse p (pick (not_first p) refusal.misplaced n)
origin_reply p (Good o) = pick (not_first p) (refuse p refusal.misplaced) reply.Nothing

abbrev pub origin_after : Plan → Line OriginNumbers → Option OriginNumbers
origin_after p (Malformed f) = p.origin
origin_after p (Refused n) = p.origin
origin_after p (Good o) = pick (not_first p) p.origin (some o)

-- ---- a position line: its form, 8, 12, then 13 and 14 of the projection
abbrev pub no_origin : Option OriginNumbers → Bool
no_origin none = true
no_origin (some o) = false

abbrev pub projected_reply : Plan → Id → Result Millimetres ℕ → Reply
projected_reply p id (Ok at) = reply.Projected id at.easting at.northing
projected_reply p id (Err number) = refuse p number

abbrev pub laid : Plan → Option OriginNumbers → Geodetic → Reply
laid p none g = refuse p refusal.earlier
laid p (some o) g = projected_reply p g.id (cassini_millimetres_of o g.latitude g.longitude)

abbrev pub geodetic_reply : Plan → Line Geodetic → Reply
geodetic_reply p (Malformed f) = malformed p f
geodetic_reply p (Refused n) = refuse p (pick (no_origin p.origin) refusal.earlier n)
geodetic_reply p (Good g) = laid p p.origin g

-- ---- one line, by its first byte
unfoldable pub reply_of : Plan → List ℕ → Reply
reply_of p line = by_letter letter_o letter_g line (origin_reply p (read_origin line)) (geodetic_reply p (read_geodetic line)) (malformed p (strange_fault line))

unfoldable pub next_of : Plan → List ℕ → Plan
next_of p line = with_origin p (by_letter letter_o letter_g line (origin_after p (read_origin line)) p.origin p.origin)

abbrev pub rules : Rules Plan Reply
rules = record { reply = reply_of; next = next_of; text = reply_text }

-- the whole plan
unfoldable pub plan_of : List ℕ → List ℕ
plan_of input = printed rules fresh input
