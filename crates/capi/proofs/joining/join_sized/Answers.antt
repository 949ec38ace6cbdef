-- `capi::joining::join_sized` meets its contract: what the library refuses, and then one row after the other. Assumes nothing.
use mathlib.Core.Path.{◌≡◌, ◌∙◌, ap, ap₂}
use mathlib.Core.Bool.{true}
use mathlib.Core.List.{List}
use Prim.Native.Nat.{ℕ, ◌+◌, ◌≤◌, ◌<◌}
use native.Mathlib.Omega.{arith}
use lib.IntN.{ℤ}
use lib.ListN.{length}
use lib.Seq.{sets, length-sets}
use mir.Syntax.{w64}
use mir.ValLaws.{to_z_pos}
use Rattle.rounding.proofs.Machine.{told, rd}
use Rattle.chain.specs.declared.Chain.{Chain}
use Rattle.std.specs.Prelude.{Result, Ok}
use Rattle.chain.specs.Join.{join_of}
use Rattle.chain.specs.Numbers.{chain_from}
use Rattle.capi.specs.Joining.{room_for_eight}
use Rattle.capi.proofs.Joinings.{whole, few, refused-call, given-call}
use Rattle.capi.proofs.joining.join_sized.Goals as goal

-- where two chains are joined there is room for both
fit : (one two : ℤ) (rows more room : List ℤ) {j : Chain} → room_for_eight (length rows) (length more) (length room) ≡ true
    → Ok j ≡ join_of (chain_from one rows) (chain_from two more)
    → (length rows + length more ≤ length room) × (length room ≡ 104)
fit one two rows more room sized is =
    let w = whole (length rows) (length more) (length room) sized in
    (omega (arith, w.2, few one two rows more w.0 w.1 is), w.2)

-- the two chains are read as they were handed over
joined : (one two : ℤ) (rows more : List ℤ) {y z : ℤ} {c d : Chain} {j : Result Chain ℕ}
    → j ≡ join_of c d → c ≡ chain_from y rows → d ≡ chain_from z more → y ≡ one → z ≡ two
    → j ≡ join_of (chain_from one rows) (chain_from two more)
joined one two rows more is c d e f = is ∙ ap₂ join_of (c ∙ ap (λ (y : ℤ). chain_from y rows) e) (d ∙ ap (λ (y : ℤ). chain_from y more) f)

pub returns-in-Err : goal.returns-in-Err
returns-in-Err c =
    let s = c.args in
    refused-call s.first_profile s.second_profile s.first.now s.second.now s.out.now c.requires
    (joined s.first_profile s.second_profile s.first.now s.second.now c.in-Err.ensures c.chain_from.ensures c.chain_from-2.ensures (rd c.ranges.first_profile)
    (rd c.ranges.second_profile))
    (told c.minus.type_inv ∙ c.minus.ensures)

pub copy-requires : goal.copy-requires
copy-requires c =
    let s = c.args in
    let is = joined s.first_profile s.second_profile s.first.now s.second.now c.in_default.ensures c.chain_from.ensures c.chain_from-2.ensures
    (rd c.ranges.first_profile) (rd c.ranges.second_profile) in
    omega (
      arith,
      (fit s.first_profile s.second_profile s.first.now s.second.now s.out.now
          c.requires is).0,
    )

pub copy-requires-2 : goal.copy-requires-2
copy-requires-2 c =
    let s = c.args in
    let is = joined s.first_profile s.second_profile s.first.now s.second.now c.in_default.ensures c.chain_from.ensures c.chain_from-2.ensures
    (rd c.ranges.first_profile) (rd c.ranges.second_profile) in
    omega (
      arith,
      (fit s.first_profile s.second_profile s.first.now s.second.now s.out.now
          c.requires is).0,
      ap length c.copy.ensures,
      length-sets s.out.now 0 s.first.now,
    )

pub returns : goal.returns
returns c =
    let s = c.args in
    let is = joined s.first_profile s.second_profile s.first.now s.second.now c.in_default.ensures c.chain_from.ensures c.chain_from-2.ensures
    (rd c.ranges.first_profile) (rd c.ranges.second_profile) in
    let f = fit s.first_profile s.second_profile s.first.now s.second.now s.out.now
    c.requires is in
    let n : length s.first.now + length s.second.now < 9223372036854775808 = omega (arith, f.0, f.1) in
    given-call s.first_profile s.second_profile s.first.now s.second.now s.out.now c.requires is
    (c.copy-2.ensures ∙ ap (λ (l : List ℤ). sets l (length s.first.now) s.second.now) c.copy.ensures) (to_z_pos w64 _ n)
