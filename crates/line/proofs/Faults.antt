-- The faults of points, steps, origins and positions cannot tell a record from the record as it is carried: a cap lies past every range.
use Rattle.std.proofs.Common.{ℤ, arith}
use Rattle.ranges.proofs.Carried.{Careful, Carries}
use Rattle.chain.specs.Faults.{point_fault, step_fault}
use Rattle.chain.proofs.Carried as chain
use Rattle.angle.specs.Ranges.{origin_fault}
use Rattle.angle.proofs.Carried as angle
use Rattle.line.specs.Readers.{geodetic_fault}
use Rattle.line.specs.Reading.{capped_z, capped_point, capped_step, capped_origin, capped_geodetic}
use Rattle.line.proofs.Capped.{sure-within}

carries : Carries capped_z
carries = record { sure = λ lo hi l h. sure-within lo hi (omega (arith, l)) (omega (arith, h)) }

pub careful-point : (y : ℤ) → Careful (point_fault y) capped_point
careful-point = chain.careful-point carries

pub careful-step : (y : ℤ) → Careful (step_fault y) capped_step
careful-step = chain.careful-step carries

pub careful-origin : Careful origin_fault capped_origin
careful-origin = angle.careful-origin carries

pub careful-geodetic : Careful geodetic_fault capped_geodetic
careful-geodetic =
    record {
      same = λ g. angle.same-angles carries g.latitude g.longitude;
      kept = λ g e. let k = angle.kept-angles carries g.latitude g.longitude e in rw (k.0, k.1);
    }
