-- `capi::conversion::swivelcrane_inverse` meets its contract: the lengths, and then what the library answers. Assumes nothing.
use mathlib.Core.Path.{sym, ◌∙◌}
use native.Mathlib.Omega.{arith}
use Rattle.rounding.proofs.Machine.{told, rd}
use Rattle.chain.specs.Convert.{inverse_of}
use Rattle.capi.proofs.Conversions.{sizes, unsized, converted}
use Rattle.capi.proofs.conversion.swivelcrane_inverse.Goals as goal

pub returns-then-not-are_sized : goal.returns-then-not-are_sized
returns-then-not-are_sized c =
    let s = c.args in unsized inverse_of s.profile s.chain.now s.point.now s.out.now (sym c.are_sized.ensures ∙ c.if-not-are_sized.true)

pub point_from-requires : goal.point_from-requires
point_from-requires c = let e = (sizes _ _ _ (sym c.are_sized.ensures ∙ c.if-not-are_sized.false)).0 in omega (arith, e)

pub give_point-requires : goal.give_point-requires
give_point-requires c = (sizes _ _ _ (sym c.are_sized.ensures ∙ c.if-not-are_sized.false)).1

pub returns : goal.returns
returns c =
    let sized = c in
    converted inverse_of _ _ _ _ (sym sized.are_sized.ensures ∙ sized.if-not-are_sized.false)
    (rd sized.ranges.profile) c.point_from.ensures c.inverse_by.ensures c.give_point.ensures (told c.give_point.type_inv)
