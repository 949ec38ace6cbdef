-- The orders of refusals that go by what a line is read as: what a sheet and a plan print for a line, and the later of two. A case for each test of an order, in
-- which that one fails and every later one that can. The order within a reader is held by MalformedCases.antt and crates/cases/specs/OrderCases.antt.
use Rattle.std.specs.Prelude.{Ok, Err, Bool, true, false, ◌≡◌, List, [], ◌∷◌, ℕ, ℤ, pos, replicate}
use Rattle.std.proofs.Math.Option.{none, some}
use Rattle.refusal.specs.Numbers as refusal
use Rattle.chain.specs.declared.Realization.{Realization}
use Rattle.chain.specs.declared.Point.{Point}
use Rattle.chain.specs.declared.Step.{Step}
use Rattle.chain.specs.declared.Kind.TheVariants.{Frame}
use Rattle.chain.specs.Faults.{latest}
use Rattle.angle.specs.declared.OriginNumbers.{OriginNumbers}
use Rattle.line.specs.Answers.{Fault, Good, Malformed, Refused}
use Rattle.line.specs.declared.Geodetic.{Geodetic}
use Rattle.line.specs.Later as verdict
use Rattle.line.specs.Later.{compared, Verdict}
use Rattle.line.specs.Text.{refusal_text}
use Rattle.sheet_rules.specs.Sheet.{Sheet, reply_text, step_reply, point_reply, edition_reply}
use Rattle.plan_rules.specs.Plan as plan
use Rattle.plan_rules.specs.Plan.{Plan, origin_reply, geodetic_reply}

-- ---- what is read
abbrev on : ℕ → ℕ → Realization
on datum epoch = record { datum = pos datum; epoch = pos epoch }

abbrev step_from : Realization → Step
step_from before = record { kind = Frame; before = before; after = on 8 2020000 }

abbrev point : ℕ → ℕ → Point
point id issue =
    record {
      label = record { id = record { high = id; low = 0 }; issue = pos issue; order = pos 1 };
      realization = on 8 2020000;
      position = record { x = pos 0; y = pos 0; z = pos 0 };
    }

abbrev origin : OriginNumbers
origin = record { ellipsoid = pos 1; latitude = pos 0; longitude = pos 36720000000; false_easting = pos 0; false_northing = pos 0 }

abbrev position : Geodetic
position = record { id = record { high = 1; low = 0 }; latitude = pos 0; longitude = pos 36720000000 }

abbrev fault : ℕ → ℕ → Fault
fault number place = record { number = number; place = place }

-- ---- a sheet at a line, with eight steps that end at datum 8 in 2020: whether a step was refused, and whether a point line has closed the chain
abbrev sheet : ℕ → Bool → Bool → Sheet
sheet line refused closed =
    record { line = line; profile = latest; steps = replicate 8 (step_from (on 8 2010000)); refused = refused; closed = closed }

abbrev pub steps : List (List ℕ)
steps =
    reply_text (step_reply (sheet 9 true true) (Malformed (fault refusal.letter 2)))
    ∷ reply_text (step_reply (sheet 9 true true) (Refused refusal.range))
    ∷ reply_text (step_reply (sheet 9 true true) (Refused refusal.kind))
    ∷ reply_text (step_reply (sheet 9 true true) (Good (step_from (on 7 2020000))))
    ∷ reply_text (step_reply (sheet 9 false true) (Good (step_from (on 7 2020000))))
    ∷ reply_text (step_reply (sheet 9 false false) (Good (step_from (on 7 2020000))))
    ∷ reply_text (step_reply (sheet 9 false false) (Good (step_from (on 8 2020000))))
    ∷ []

abbrev wanted_of_steps : List (List ℕ)
wanted_of_steps =
    refusal_text 9 refusal.letter 2
    ∷ refusal_text 9 refusal.range 0
    ∷ refusal_text 9 refusal.kind 0
    ∷ refusal_text 9 refusal.earlier 0
    ∷ refusal_text 9 refusal.misplaced 0
    ∷ refusal_text 9 refusal.join 0
    ∷ refusal_text 9 refusal.ninth 0
    ∷ []

abbrev pub StepOrder : Type 0
StepOrder = steps ≡ wanted_of_steps

-- a point line; the conversion's 9, 10 and 11 come after
abbrev pub points : List (List ℕ)
points =
    reply_text (point_reply (sheet 9 true false) (Malformed (fault refusal.plain 5)))
    ∷ reply_text (point_reply (sheet 9 true false) (Refused refusal.profile))
    ∷ reply_text (point_reply (sheet 9 true false) (Good (point 1 1)))
    ∷ []

abbrev pub PointOrder : Type 0
PointOrder = points ≡ refusal_text 9 refusal.plain 5 ∷ refusal_text 9 refusal.profile 0 ∷ refusal_text 9 refusal.earlier 0 ∷ []

-- an edition line
abbrev pub editions : List (List ℕ)
editions =
    reply_text (edition_reply (sheet 9 false false) (Err (fault refusal.count 1)))
    ∷ reply_text (edition_reply (sheet 9 false false) (Ok (pos 2010)))
    ∷ reply_text (edition_reply (sheet 1 false false) (Ok (pos 2010)))
    ∷ reply_text (edition_reply (sheet 1 false false) (Ok (pos 2009)))
    ∷ []

abbrev pub EditionOrder : Type 0
EditionOrder = editions ≡ refusal_text 9 refusal.count 1 ∷ refusal_text 9 refusal.misplaced 0 ∷ refusal_text 1 refusal.range 0 ∷ [] ∷ []

-- ---- a plan
abbrev first : Plan
first = record { line = 1; origin = none }

abbrev later : Plan
later = record { line = 5; origin = none }

abbrev laid : Plan
laid = record { line = 5; origin = some origin }

abbrev pub origins : List (List ℕ)
origins =
    plan.reply_text (origin_reply later (Malformed (fault refusal.length 200)))
    ∷ plan.reply_text (origin_reply later (Refused refusal.range))
    ∷ plan.reply_text (origin_reply later (Good origin))
    ∷ plan.reply_text (origin_reply first (Refused refusal.geodetic))
    ∷ plan.reply_text (origin_reply first (Good origin))
    ∷ []

abbrev wanted_of_origins : List (List ℕ)
wanted_of_origins =
    refusal_text 5 refusal.length 200
    ∷ refusal_text 5 refusal.misplaced 0
    ∷ refusal_text 5 refusal.misplaced 0
    ∷ refusal_text 1 refusal.geodetic 0
    ∷ []
    ∷ []

abbrev pub OriginOrder : Type 0
OriginOrder = origins ≡ wanted_of_origins

-- a position line; the projection's 13 and 14 come after
abbrev pub position_lines : List (List ℕ)
position_lines =
    plan.reply_text (geodetic_reply later (Malformed (fault refusal.id 2)))
    ∷ plan.reply_text (geodetic_reply later (Refused refusal.geodetic))
    ∷ plan.reply_text (geodetic_reply later (Good position))
    ∷ plan.reply_text (geodetic_reply laid (Refused refusal.geodetic))
    ∷ []

abbrev wanted_of_positions : List (List ℕ)
wanted_of_positions =
    refusal_text 5 refusal.id 2 ∷ refusal_text 5 refusal.earlier 0 ∷ refusal_text 5 refusal.earlier 0 ∷ refusal_text 5 refusal.geodetic 0 ∷ []

abbrev pub PositionLineOrder : Type 0
PositionLineOrder = position_lines ≡ wanted_of_positions

-- ---- the later of two: the first line's refusal, the second's, 16, 17
abbrev pub pairs : List Verdict
pairs =
    compared (Malformed (fault refusal.count 7)) (Refused refusal.range) false
    ∷ compared (Refused refusal.epoch) (Malformed (fault refusal.count 7)) false
    ∷ compared (Good (point 1 1)) (Malformed (fault refusal.count 7)) false
    ∷ compared (Good (point 1 1)) (Refused refusal.range) false
    ∷ compared (Good (point 1 1)) (Good (point 2 1)) false
    ∷ compared (Good (point 1 1)) (Good (point 1 1)) false
    ∷ compared (Good (point 1 1)) (Good (point 1 1)) true
    ∷ compared (Good (point 1 9)) (Good (point 1 10)) false
    ∷ []

abbrev refused_in : ℕ → ℕ → ℕ → Verdict
refused_in number line place = verdict.Refused (record { number = number; line = line; place = place })

abbrev wanted_of_pairs : List Verdict
wanted_of_pairs =
    refused_in refusal.count 1 7
    ∷ refused_in refusal.epoch 1 0
    ∷ refused_in refusal.count 2 7
    ∷ refused_in refusal.range 2 0
    ∷ refused_in refusal.ids 0 0
    ∷ refused_in refusal.same 0 0
    ∷ verdict.First
    ∷ verdict.Second
    ∷ []

abbrev pub PairOrder : Type 0
PairOrder = pairs ≡ wanted_of_pairs

pub record LineOrders : Type 0 where
  pub steps : StepOrder
  pub points : PointOrder
  pub editions : EditionOrder
  pub origins : OriginOrder
  pub positions : PositionLineOrder
  pub pairs : PairOrder
