-- `rounding::decimals::scaled` meets its contract: `Halves` has what it returns and what fits. Assumes nothing.
use mathlib.Core.Path.{ap, ◌∙◌}
use Prim.Native.Nat.{ℕ, ◌+◌, ◌-◌, ◌*◌, ◌/◌, ◌^◌, ◌≤◌}
use native.Mathlib.Nat.{le_of_eq, le_trans}
use native.Mathlib.Omega.{arith}
use Rattle.rounding.proofs.decimals.Halves.{product-fits, shifted_fits, returned, five-le}
use Rattle.rounding.proofs.decimals.scaled.Tie as tie
use Rattle.rounding.proofs.decimals.scaled.Lts as lts
use Rattle.rounding.proofs.decimals.scaled.Reads as reads
use Rattle.rounding.proofs.decimals.scaled.Goals as goal

abbrev TheAfterFives : Type 0
TheAfterFives = lts.After-fives tie.the-claims reads.Pre reads.Post tie.handed_clauses

module _ (c : TheAfterFives) where
  abbrev t : ℕ
  t = c.args.t

  abbrev five : ℕ
  five = c.fives-five.result

  most : five ≤ 3125
  most = le_trans (le_of_eq c.fives-five.ensures) (five-le c.args.places c.requires.3)

  product : t * five ≤ 14073748835532800000
  product = product-fits t five c.requires.0 most

  shifted : (k : ℕ) → (t * five / 4096 + five * 1099511627776) / 2 ^ k ≤ 6871947673600000
  shifted = shifted_fits t five c.requires.0 most

pub overflow_mul-p : goal.overflow_mul-p
overflow_mul-p c = omega (arith, product c)

pub overflow_mul-p-2 : goal.overflow_mul-p-2
overflow_mul-p-2 c = omega (arith, most c)

pub overflow_add-p : goal.overflow_add-p
overflow_add-p c = omega (arith, product c, most c)

pub overflow_add-result : goal.overflow_add-result
overflow_add-result c = omega (arith, shifted c (c.args.s - 13 - c.args.places))

pub returns : goal.returns
returns c =
    let a = c.args in
    let j = a.s - 13 - a.places in record {
      exact = ap (λ (g : ℕ). ((a.t * g / 4096 + g * 1099511627776) / 2 ^ j + 1) / 2) c.fives-five.ensures
          ∙ returned a.t a.places a.s c.requires.3 c.requires.1;
      small = omega (arith, shifted c j);
    }
