-- `chain::steps::convert::join::joined` meets its contract: the second's steps stand after the first's. Assumes nothing.
use Rattle.std.proofs.Common.{◌≡◌, refl, ◌+◌, ◌-◌, ◌≤◌, length, arith, drop-drop}
use Rattle.rounding.proofs.Machine.{told}
use Rattle.chain.specs.Join.{together, joined_steps}
use Rattle.chain.proofs.Joins.{within}
use Rattle.chain.proofs.steps.convert.join.joined.Goals as goal

pub returns : goal.returns
unfolding joined_steps
returns c =
    let x = c.args in
    let n = x.first.length in
    let m = x.second.length in
    let long_first : length x.first.steps ≡ 8 = c.well_formed.0.1.1.0.1.0.1 in
    let long_second : length x.second.steps ≡ 8 = c.well_formed.1.0.1.1.0.1.0.1 in
    let few_first : n ≤ 8 = omega arith in
    let few_second : m ≤ 8 = omega arith in
    let many : together x.first x.second ≡ n + m = rw (within x.first long_first few_first, within x.second long_second few_second) refl in
    let back : n + m - n ≡ m = omega arith in
    let after = c.copy_from_slice.ensures.after in
    rw (back, many, told c.struct_told-1.given.1.1.0.1, after, drop-drop m n x.first.steps) refl
