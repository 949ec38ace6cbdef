-- What is promised of a line's form, beside the definitions: something is found wrong with a line exactly where it is not of its form; and an edition's year is
-- judged as the line says it.
use Rattle.std.specs.Prelude.{◌≡◌, List, true, ℕ, ◌<◌, ℤ, Ok}
use Rattle.std.proofs.Math.Option.{none, some}
use Rattle.ranges.specs.Ranges.{profile_range}
use Rattle.line.specs.Fields.{Form, said}
use Rattle.line.specs.Forms.{point_form, step_form, origin_form, geodetic_form, edition_form, grid_form, node_form}
use Rattle.line.specs.Malformed.{Shape, point_shape, step_shape, origin_shape, geodetic_shape, edition_shape, grid_shape, node_shape, fault_of}
use Rattle.line.specs.Readers.{read_edition}

-- a fault with a number, and nothing that the line says as its form has it: the one where the other is
abbrev pub Found : {A : Type 0} → Form A → Shape → Type 0
Found form shape = (line : List ℕ) → (said form line ≡ none → 0 < (fault_of shape line).number) × (0 < (fault_of shape line).number → said form line ≡ none)

-- numbers are carried up to a cap: the year that is read is a profile exactly where the line's own is one, and then it is that year
pub record Judged (line : List ℕ) (year : ℤ) : Type 0 where
  pub carried : ℤ
  pub read : read_edition line ≡ Ok carried
  pub same : profile_range carried ≡ profile_range year
  pub kept : profile_range year ≡ true → carried ≡ year

abbrev pub YearJudged : Type 0
YearJudged = (line : List ℕ) (year : ℤ) → said edition_form line ≡ some year → Judged line year

pub record Malformed : Type 0 where
  pub point : Found point_form point_shape
  pub step : Found step_form step_shape
  pub origin : Found origin_form origin_shape
  pub geodetic : Found geodetic_form geodetic_shape
  pub edition : Found edition_form edition_shape
  pub grid : Found grid_form grid_shape
  pub node : Found node_form node_shape
  pub year : YearJudged
