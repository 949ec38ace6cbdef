-- `rounding::quotient::Halves::round_split` meets its contract: the quotient and the remainder say the same number. Assumes nothing.
use native.Mathlib.Omega.{arith}
use mathlib.Core.Path.{◌≡◌, ap₂, ◌∙◌}
use mir.Syntax.{w64}
use mir.Val.{to_z, of_z}
use lib.IntN.{◌+ℤ◌}
use Rattle.std.specs.Int.{int_div_euclid, int_rem_euclid}
use Rattle.rounding.specs.Floor.{FloorOk}
use Rattle.rounding.specs.Quotient.{rule, mixed}
use Rattle.rounding.proofs.Machine.{fits, rd, rd+, to₃, of₃}
use Rattle.rounding.proofs.Floors.{split-ok, split-same}
use Rattle.rounding.proofs.quotient.Halves.round_split.Goals.{After-rem_euclid}
use Rattle.rounding.proofs.quotient.Halves.round_split.Goals as goal

-- what the machine reads of the whole part and of the remainder
module _ (c : After-rem_euclid) where
  ok : FloorOk (c.args.k +ℤ int_div_euclid c.args.n c.args.d) (int_rem_euclid c.args.n c.args.d) c.args.d
  ok = split-ok c.args.k c.args.n c.args.d c.requires c.ranges.n

  whole : to_z w64 (of_z w64 (to_z w64 (of_z w64 c.args.k) +ℤ to_z w64 (of_z w64 c.div_euclid.result))) ≡ c.args.k +ℤ int_div_euclid c.args.n c.args.d
  whole =
      rd+ (rd c.ranges.k) (rd (record { sfits = c.div_euclid.type_inv }) ∙ c.div_euclid.ensures ∙ ap₂ int_div_euclid (rd c.ranges.n) (rd c.ranges.d))
      (fits 9000000000000000000 ok.small (omega arith))

  left : to_z w64 (of_z w64 c.rem_euclid.result) ≡ int_rem_euclid c.args.n c.args.d
  left = rd (record { sfits = c.rem_euclid.type_inv }) ∙ c.rem_euclid.ensures.value ∙ ap₂ int_rem_euclid (rd c.ranges.n) (rd c.ranges.d)

pub round_floor-requires : goal.round_floor-requires
round_floor-requires c = to₃ FloorOk (whole c) (left c) (rd c.ranges.d) (ok c)

pub returns : goal.returns
returns c =
    let d = c.before in
    rd (record { sfits = c.round_floor.type_inv }) ∙ c.round_floor.ensures ∙ of₃ (mixed (rule c.args.self)) (whole d) (left d) (rd c.ranges.d)
    ∙ split-same (rule c.args.self) c.args.k c.args.n c.args.d c.requires
