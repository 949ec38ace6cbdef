-- What a point, a step and a chain are refused for, each by itself and in the order of the refusal table.
use Rattle.std.specs.Prelude.{◌≡◌, Bool, true, not, ◌&&◌, ◌||◌, List, [], ◌∷◌, ◌++◌, ℕ, ℤ, pos, ltb, take}
use Rattle.std.specs.Bool.{beq}
use Rattle.refusal.specs.Numbers as refusal
use Rattle.refusal.specs.Order.{Test, ◌gives◌, first}
use Rattle.chain.specs.declared.Position.{Position}
use Rattle.chain.specs.declared.Realization.{Realization}
use Rattle.chain.specs.declared.Label.{Label}
use Rattle.chain.specs.declared.Point.{Point}
use Rattle.chain.specs.declared.Kind.{Kind}
use Rattle.chain.specs.declared.Kind.TheVariants.{Shift, Velocity, BursaWolf, Frame}
use Rattle.chain.specs.declared.Step.{Step}
use Rattle.chain.specs.declared.Chain.{Chain}
use Rattle.ranges.specs.Ranges.{within, equal, given_range, area, shift_range, rotation_range, scale_range, velocity_range, datum_range, issue_range, order_range, epoch_range, profile_range}

-- ---- a datum at an epoch
unfoldable pub realization_range : Realization → Bool
realization_range r = datum_range r.datum && epoch_range r.epoch

-- the epoch is 0 for datums 1 and 2 (MRT68, BT68), and only for them
unfoldable pub agrees : Realization → Bool
agrees r = beq (equal (pos 0) r.epoch) (within (pos 1) r.datum (pos 2))

unfoldable pub same_realization : Realization → Realization → Bool
same_realization r t = equal r.datum t.datum && equal r.epoch t.epoch

-- ---- a profile: the edition of the circular that a job is under, 2009 or 2021. That of 2009 has no time-dependent frame: datums 1 to 5 and 7, and of the
-- steps T and B alone. Any other has them all
-- a chain without a mark is of this one
abbrev pub latest : ℤ
latest = pos 2021

unfoldable pub has_datum : ℤ → Realization → Bool
has_datum y r = not (equal (pos 2009) y) || within (pos 1) r.datum (pos 5) || equal (pos 7) r.datum

unfoldable pub has_kind : ℤ → Kind → Bool
has_kind y (Shift t) = true
has_kind y (Velocity t) = not (equal (pos 2009) y)
has_kind y (BursaWolf t) = true
has_kind y Frame = not (equal (pos 2009) y)

unfoldable pub has_step : ℤ → Step → Bool
has_step y s = has_kind y s.kind && has_datum y s.before && has_datum y s.after

-- ---- a position
unfoldable pub given_position : Position → Bool
given_position p = given_range p.x && given_range p.y && given_range p.z

unfoldable pub in_area : Position → Bool
in_area p = area p.x p.y p.z

-- ---- a point of a profile, by its numbers alone. The id is not examined
unfoldable pub label_range : Label → Bool
label_range l = issue_range l.issue && order_range l.order

unfoldable pub point_range : Point → Bool
point_range p = label_range p.label && realization_range p.realization && given_position p.position

abbrev pub point_tests : ℤ → Point → List Test
point_tests y p =
    (not (point_range p) gives refusal.range)
    ∷ (not (agrees p.realization) gives refusal.epoch)
    ∷ (not (has_datum y p.realization) gives refusal.profile)
    ∷ []

unfoldable pub point_fault : ℤ → Point → ℕ
point_fault y p = first (point_tests y p)

-- ---- a step of a profile, by itself
unfoldable pub kind_range : Kind → Bool
kind_range (Shift t) = shift_range t.dx && shift_range t.dy && shift_range t.dz
kind_range (Velocity t) = velocity_range t.vx && velocity_range t.vy && velocity_range t.vz
kind_range (BursaWolf t) =
    shift_range t.dx && shift_range t.dy && shift_range t.dz
    && (rotation_range t.rx && rotation_range t.ry && rotation_range t.rz && scale_range t.s)
kind_range Frame = true

unfoldable pub step_range : Step → Bool
step_range s = kind_range s.kind && realization_range s.before && realization_range s.after

-- V: the same datum on both sides, neither epoch 0. F: from datums 5 to 9 to datum 10, the same epoch
unfoldable pub kind_rule : Kind → Realization → Realization → Bool
kind_rule (Shift t) r a = true
kind_rule (Velocity t) r a = equal r.datum a.datum && not (equal (pos 0) r.epoch) && not (equal (pos 0) a.epoch)
kind_rule (BursaWolf t) r a = true
kind_rule Frame r a = within (pos 5) r.datum (pos 9) && equal (pos 10) a.datum && equal r.epoch a.epoch

abbrev pub step_tests : ℤ → Step → List Test
step_tests y s =
    (not (step_range s) gives refusal.range)
    ∷ (not (agrees s.before && agrees s.after) gives refusal.epoch)
    ∷ (not (has_step y s) gives refusal.profile)
    ∷ (not (kind_rule s.kind s.before s.after) gives refusal.kind)
    ∷ []

unfoldable pub step_fault : ℤ → Step → ℕ
step_fault y s = first (step_tests y s)

-- what a step keeps that is not refused by itself, under any profile: its numbers in range, its datums and epochs agreeing, its kind's rule
pub record KindOk (kind : Kind) (r a : Realization) : Type 0 where
  pub range : kind_range kind ≡ true
  pub before : realization_range r ≡ true
  pub after : realization_range a ≡ true
  pub agree : agrees r ≡ true
  pub agreed : agrees a ≡ true
  pub rule : kind_rule kind r a ≡ true

abbrev pub StepOk : Step → Type 0
StepOk s = KindOk s.kind s.before s.after

-- ---- a chain: its profile, its length, then each step in turn, by itself and whether it begins where the one before it ended
abbrev pub steps_of : Chain → List Step
steps_of c = take c.length c.steps

abbrev pub join_test : Step → Step → Test
join_test s t = not (same_realization s.after t.before) gives refusal.join

abbrev pub later_tests : ℤ → Step → List Step → List Test
later_tests y s [] = []
later_tests y s (t ∷ ts) = step_tests y t ++ (join_test s t ∷ later_tests y t ts)

abbrev pub steps_tests : ℤ → List Step → List Test
steps_tests y [] = []
steps_tests y (s ∷ ss) = step_tests y s ++ later_tests y s ss

abbrev pub chain_tests : Chain → List Test
chain_tests c = (not (profile_range c.profile) gives refusal.range) ∷ (ltb 8 c.length gives refusal.ninth) ∷ steps_tests c.profile (steps_of c)

-- ---- a profile by itself, before there is a step under it
unfoldable pub profile_fault : ℤ → ℕ
profile_fault y = first ((not (profile_range y) gives refusal.range) ∷ [])
