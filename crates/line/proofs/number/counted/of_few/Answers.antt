-- `line::number::counted::of_few` meets its contract. Assumes nothing.
use Rattle.std.proofs.Common.{◌≡◌, refl, arith, w64, to_z, of_z, rules}
use native.Mathlib.Nat.{pow-le-pow_right}
use Rattle.line.proofs.Counted as K
use Rattle.line.proofs.number.counted.of_few.Goals as goal

-- seven digits say less than 10 ^ 7, and so do fewer
pub returns-in-Some : goal.returns-in-Some
returns-in-Some c =
    let a = c.in-Some.ensures in
    let z = c.above_zero.result in
    let e : to_z w64 (of_z w64 z) ≡ z = search rules in
    rw (e, c.above_zero.ensures)
    (K.counted _ _ _ a.3 a.2 (omega (arith, a.0)) (omega (arith, pow-le-pow_right {n = 10} (omega arith) a.1)) refl)
