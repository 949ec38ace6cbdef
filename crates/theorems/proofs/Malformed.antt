-- A fault exactly where a line is not of its form, and an edition's year as the line says it, from the laws of crate line. Assumes nothing.
use native.Mathlib.Omega.{arith}
use lib.IntN.{pos}
use Rattle.ranges.specs.Ranges.{profile_range}
use Rattle.line.specs.Reading.{capped_z}
use Rattle.ranges.proofs.Carried.{Sure, sure-either}
use Rattle.line.proofs.Capped.{sure-within}
use Rattle.line.proofs.Readers.{edition-read}
use Rattle.line.proofs.GoodForm.{point-exactly, step-exactly, origin-exactly, geodetic-exactly, edition-exactly, grid-exactly, node-exactly}
use Rattle.theorems.specs.Malformed.{YearJudged, Malformed}

sure-profile : Sure capped_z profile_range
sure-profile = sure-either (sure-within (pos 2009) (pos 2009) (omega arith) (omega arith)) (sure-within (pos 2021) (pos 2021) (omega arith) (omega arith))

judged : YearJudged
judged line year e = record { carried = capped_z year; read = edition-read line year e; same = sure-profile.same year; kept = sure-profile.kept year }

pub malformed : Malformed
malformed = record { point = point-exactly; step = step-exactly; origin = origin-exactly; geodetic = geodetic-exactly; edition = edition-exactly; grid = grid-exactly; node = node-exactly; year = judged }
