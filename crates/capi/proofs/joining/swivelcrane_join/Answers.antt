-- `capi::joining::swivelcrane_join` meets its contract: the lengths, and then the rows. Assumes nothing.
use mathlib.Core.Path.{sym, ◌∙◌}
use Rattle.rounding.proofs.Machine.{told, rd}
use Rattle.capi.proofs.Joinings.{unsized}
use Rattle.capi.proofs.joining.swivelcrane_join.Goals as goal

pub returns-then-not-are_sized : goal.returns-then-not-are_sized
returns-then-not-are_sized c =
    let s = c.args in
    unsized s.first_profile s.second_profile s.first.now s.second.now s.out.now (sym c.are_sized.ensures ∙ c.if-not-are_sized.true)

pub join_sized-requires : goal.join_sized-requires
join_sized-requires c = sym c.are_sized.ensures ∙ c.if-not-are_sized.false

pub returns : goal.returns
returns c = rw (told c.join_sized.type_inv) (rw (rd c.ranges.first_profile, rd c.ranges.second_profile) at c.join_sized.ensures)
