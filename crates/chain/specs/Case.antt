-- How a worked case of a conversion is written, and what is answered in it. The cases stand in crate cases, as lists.
use Rattle.std.specs.Prelude.{ℕ, ℤ, pos, neg_ℤ, replicate, Ok}
use Rattle.chain.specs.declared.Position.{Position}
use Rattle.chain.specs.declared.Realization.{Realization}
use Rattle.chain.specs.declared.Point.{Point}
use Rattle.chain.specs.declared.Kind.{Kind}
use Rattle.chain.specs.declared.Kind.TheVariants.{Shift, Velocity}
use Rattle.chain.specs.declared.Chain.{Chain}
use Rattle.ranges.specs.Ranges.{within}
use Rattle.rounding.specs.Worked.{open_rounding}
use Rattle.chain.specs.Faults.{realization_range, agrees, same_realization, has_datum, has_kind, has_step, given_position, in_area, label_range, point_range, point_fault, kind_range, step_range, step_fault, kind_rule}
use Rattle.chain.specs.Rows.{row_index, row_of}
use Rattle.chain.specs.Parts.{step_round, linear, part, gain, shift_parts, velocity_parts, rotation11, scaled_rotation, bursa_wolf_parts, at_epoch, frame_parts, kind_parts, plus, minus, forward_by, again, inverse_by}
use Rattle.chain.specs.Convert.{Answer, walk, start_of, end_of, answer_of, convert, forward_of, inverse_of}

-- ---- how a case is written
-- −n
abbrev pub less : ℕ → ℤ
less n = neg_ℤ (pos n)

abbrev pub on : ℕ → ℕ → Realization
on datum epoch = record { datum = pos datum; epoch = pos epoch }

abbrev pub xyz : ℤ → ℤ → ℤ → Position
xyz x y z = record { x = x; y = y; z = z }

-- A1, issue 1, order 1
abbrev pub point : Realization → Position → Point
point r p = record { label = record { id = record { high = 0x4131_0000_0000_0000; low = 0 }; issue = pos 1; order = pos 1 }; realization = r; position = p }

-- a chain of one step, of the edition of 2021; the steps past its length are not examined
abbrev pub chain : Kind → Realization → Realization → Chain
chain kind r a = record { steps = replicate 8 (record { kind = kind; before = r; after = a }); length = 1; profile = pos 2021 }

abbrev pub shift : ℤ → ℤ → ℤ → Kind
shift dx dy dz = Shift (record { dx = dx; dy = dy; dz = dz })

abbrev pub velocity : ℤ → ℤ → ℤ → Kind
velocity vx vy vz = Velocity (record { vx = vx; vy = vy; vz = vz })

pub data Way : Type 0 where
  forward : Way
  inverse : Way

-- a chain, a way over it, the position there and the position it leads to
pub record Case : Type 0 where
  pub way : Way
  pub kind : Kind
  pub before : Realization
  pub after : Realization
  pub given : Position
  pub found : Position

-- what is answered. Opened, it computes: the line names all that a conversion is worked out by, so that a proof that works cases out names this alone
unfoldable pub answer : Case → Answer
unfolding open_rounding within realization_range agrees same_realization has_datum has_kind has_step given_position in_area label_range point_range point_fault kind_range step_range step_fault kind_rule row_index row_of step_round linear part gain shift_parts velocity_parts rotation11 scaled_rotation bursa_wolf_parts at_epoch frame_parts kind_parts plus minus forward_by again inverse_by walk start_of end_of answer_of convert forward_of inverse_of
answer c = over c.way
  where
    over : Way → Answer
    over forward = forward_of (chain c.kind c.before c.after) (point c.before c.given)
    over inverse = inverse_of (chain c.kind c.before c.after) (point c.after c.given)

abbrev pub expected : Case → Answer
expected c = over c.way
  where
    over : Way → Answer
    over forward = Ok (point c.after c.found)
    over inverse = Ok (point c.before c.found)

abbrev pub case : Way → Kind → Realization → Realization → Position → Position → Case
case w kind r a p q = record { way = w; kind = kind; before = r; after = a; given = p; found = q }
