-- The worked cases, by computation. Assumes nothing.
use mathlib.Core.Path.{refl}
use Rattle.chain.specs.Case.{answer}
use Rattle.chain.specs.Join.{joined_steps, join_fault, join_of}
use Rattle.chain.specs.PointRow.{row_fault}
use Rattle.chain.specs.Numbers.{bursa_wolf_from, turned_from, kind_from, step_from, no_step, step_or_none, eight_from}
use Rattle.cases.specs.Cases.{WorkedCases}
use Rattle.cases.specs.MoreCases.{MoreCases}
use Rattle.cases.specs.RangeCases.{RangeCases}
use Rattle.cases.specs.OrderCases.{OrderCases}
use Rattle.cases.specs.FigureCases.{FigureCases}
use Rattle.cases.specs.ProfileCases.{ProfileCases}
use Rattle.cases.specs.JoinCases.{JoinCases}
use Rattle.cases.specs.TableCases.{TableCases}

record AllCases : Type 0 where
  worked : WorkedCases
  more : MoreCases
  order : OrderCases
  range : RangeCases

all : AllCases
unfolding answer
all = record { worked = refl; more = record { conversions = refl; area = refl }; order = refl; range = refl }

pub worked-cases : WorkedCases
worked-cases = all.worked

pub more-cases : MoreCases
more-cases = all.more

pub order-cases : OrderCases
order-cases = all.order

pub range-cases : RangeCases
range-cases = all.range

record FurtherCases : Type 0 where
  figure : FigureCases
  profile : ProfileCases
  join : JoinCases
  table : TableCases

further : FurtherCases
unfolding answer joined_steps join_fault join_of row_fault bursa_wolf_from turned_from kind_from step_from no_step step_or_none eight_from
further = record {
  figure = record { frames = refl; factor = refl; candidates = refl; last = refl };
  profile = refl;
  join = record { first = refl; second = refl; pair = refl; rows = refl; chains = refl; room = refl };
  table = record { table = refl; layout = refl; profile = refl; count = refl; letters = refl };
}

pub figure-cases : FigureCases
figure-cases = further.figure

pub profile-cases : ProfileCases
profile-cases = further.profile

pub join-cases : JoinCases
join-cases = further.join

pub table-cases : TableCases
table-cases = further.table
