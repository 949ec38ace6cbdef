-- How the code reads the first line of some bytes as a point, before it knows where the line ends.
use Rattle.std.specs.Prelude.{◌≡◌, ℕ, ◌+◌, ◌<◌, ◌≤◌, List, length, take, ℤ, slice_index_or}
use Rattle.std.proofs.Math.Option.{some}
use Rattle.chain.specs.declared.Point.{Point}
use Rattle.line.specs.Bytes.{line_feed}
use Rattle.line.specs.Fields.{longest_line, said}
use Rattle.line.specs.Forms.{point_form}
use Rattle.line.specs.Lines.{first_length}
use Rattle.line.specs.Number.{number_of}
use Rattle.line.specs.Reading.{Got, capped_z, capped_placed}

-- the number at `at` goes up to a line feed, and a line that ends there would not be too long; no line feed may have been looked for before it
pub record Ended (s : List ℕ) (at : ℕ) (v : ℤ) (end : ℕ) : Type 0 where
  pub feed : ℕ
  pub past : end ≡ feed + 1
  pub behind : at ≤ feed
  pub inside : feed < length s
  pub short : feed < longest_line
  pub is : slice_index_or s feed 0 ≡ line_feed
  pub got : Got (take feed s) capped_z number_of at v end

-- the first line says a point, and ends here; v is the point as it is carried, and the place of its datum
pub record First (s : List ℕ) (v : Point × ℕ) (end : ℕ) : Type 0 where
  pub point : Point
  pub says : said point_form (take end s) ≡ some point
  pub told : v ≡ capped_placed point
  pub ends : end ≡ first_length s
