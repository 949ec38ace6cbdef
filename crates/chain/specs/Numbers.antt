-- A chain as numbers, 13 to a step, in the order that include/swivelcrane.h gives: read off them, and tested on them.
use Rattle.std.specs.Prelude.{ℕ, ◌/◌, Bool, true, false, ◌&&◌, List, [], ◌∷◌, leb, eqb, ℤ, pos, negsuc, length, get_or, take, drop}
use Rattle.refusal.specs.Order.{pick}
use Rattle.chain.specs.declared.Realization.{Realization}
use Rattle.chain.specs.declared.Convention.{Convention}
use Rattle.chain.specs.declared.Convention.TheVariants.{PositionVector, CoordinateFrame}
use Rattle.chain.specs.declared.Kind.{Kind}
use Rattle.chain.specs.declared.Kind.TheVariants.{Shift, Velocity, BursaWolf, Frame}
use Rattle.chain.specs.declared.Step.{Step}
use Rattle.chain.specs.declared.Chain.{Chain}
use Rattle.chain.specs.Faults.{realization_range, agrees, same_realization, has_datum, has_kind, kind_range, kind_rule}

-- the number at an index, and whether it is that letter's
abbrev pub number : List ℤ → ℕ → ℤ
number ns i = get_or ns i (pos 0)

abbrev pub is_letter : ℤ → ℕ → Bool
is_letter (pos n) l = eqb n l
is_letter (negsuc n) l = false

-- the letters of the kinds, T, V, B and F, and of a Bursa-Wolf step's conventions, P and C
abbrev pub shift_letter : ℕ
shift_letter = 84

abbrev pub velocity_letter : ℕ
velocity_letter = 86

abbrev pub bursa_wolf_letter : ℕ
bursa_wolf_letter = 66

abbrev pub frame_letter : ℕ
frame_letter = 70

abbrev pub position_vector_letter : ℕ
position_vector_letter = 80

abbrev pub coordinate_frame_letter : ℕ
coordinate_frame_letter = 67

abbrev pub realization : ℤ → ℤ → Realization
realization datum epoch = record { datum = datum; epoch = epoch }

-- ---- a step: kind, convention, datum and epoch before, datum and epoch after, and from index 6 on the numbers of its kind

-- no known kind, or no known convention of a Bursa-Wolf step: a shift past its range, so that the chain refuses it with 2 where it stands
abbrev pub unknown : Kind
unknown = Shift (record { dx = pos 100000001; dy = pos 0; dz = pos 0 })

abbrev pub shift_from : List ℤ → Kind
shift_from ns = Shift (record { dx = number ns 6; dy = number ns 7; dz = number ns 8 })

abbrev pub velocity_from : List ℤ → Kind
velocity_from ns = Velocity (record { vx = number ns 6; vy = number ns 7; vz = number ns 8 })

unfoldable pub bursa_wolf_from : Convention → List ℤ → Kind
bursa_wolf_from convention ns = BursaWolf (record {
  convention = convention;
  dx = number ns 6;
  dy = number ns 7;
  dz = number ns 8;
  rx = number ns 9;
  ry = number ns 10;
  rz = number ns 11;
  s = number ns 12;
})

unfoldable pub turned_from : List ℤ → Kind
turned_from ns =
    pick (is_letter (number ns 1) position_vector_letter) (bursa_wolf_from PositionVector ns)
    (pick (is_letter (number ns 1) coordinate_frame_letter) (bursa_wolf_from CoordinateFrame ns)
    unknown)

unfoldable pub kind_from : List ℤ → Kind
kind_from ns =
    pick (is_letter (number ns 0) shift_letter) (shift_from ns)
    (pick (is_letter (number ns 0) velocity_letter) (velocity_from ns)
    (pick (is_letter (number ns 0) bursa_wolf_letter) (turned_from ns)
    (pick (is_letter (number ns 0) frame_letter) Frame
    unknown)))

unfoldable pub step_from : List ℤ → Step
step_from ns = record {
  kind = kind_from ns;
  before = realization (number ns 2) (number ns 3);
  after = realization (number ns 4) (number ns 5);
}

-- ---- a chain: its profile, and 13 numbers to a step, one step after the other
-- past the last step there stands a step of no known kind: no chain looks at it
unfoldable pub no_step : Step
no_step = record { kind = unknown; before = realization (pos 0) (pos 0); after = realization (pos 0) (pos 0) }

unfoldable pub step_or_none : List ℤ → Step
step_or_none ns = pick (leb 13 (length ns)) (step_from ns) no_step

unfoldable pub eight_from : List ℤ → List Step
eight_from ns =
    step_or_none ns
    ∷ step_or_none (drop 13 ns)
    ∷ step_or_none (drop 26 ns)
    ∷ step_or_none (drop 39 ns)
    ∷ step_or_none (drop 52 ns)
    ∷ step_or_none (drop 65 ns)
    ∷ step_or_none (drop 78 ns)
    ∷ step_or_none (drop 91 ns)
    ∷ []

-- past the eighth the steps are counted and not read
abbrev pub chain_from : ℤ → List ℤ → Chain
chain_from y ns = record { steps = eight_from ns; length = length ns / 13; profile = y }

-- ---- how the code tests a chain as numbers: a step begins where the one before it ended, so that only its end is looked at
-- a datum at an epoch, as a step under a profile may say it
unfoldable pub dated : ℤ → Realization → Bool
dated y r = realization_range r && agrees r && has_datum y r

-- a step's kind with its numbers, between two realizations
unfoldable pub good_kind : ℤ → Kind → Realization → Realization → Bool
good_kind y kind r a = kind_range kind && kind_rule kind r a && has_kind y kind

unfoldable pub follows : ℤ → Realization → Step → Bool
follows y r s = same_realization r s.before && dated y s.after && good_kind y s.kind s.before s.after

unfoldable pub all_follow : ℤ → Realization → List Step → Bool
all_follow y r [] = true
all_follow y r (s ∷ ss) = follows y r s && all_follow y s.after ss

unfoldable pub good_steps : ℤ → List Step → Bool
good_steps y [] = true
good_steps y (s ∷ ss) = dated y s.before && all_follow y s.before (s ∷ ss)

-- the steps within the numbers
abbrev pub steps_in : List ℤ → List Step
steps_in ns = take (length ns / 13) (eight_from ns)
