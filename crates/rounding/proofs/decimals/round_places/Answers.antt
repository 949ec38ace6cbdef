-- `rounding::decimals::round_places` meets its contract. `Pattern` says what x's bit pattern is, `scaled` rounds, and each return rewrites with the tests that led there.
-- Assumes nothing.
use borrow.Author.Rules.{rules}
use borrow.Author.Tests.{lt-ltb}
use mathlib.Core.Path.{◌≡◌, sym, ap, ◌∙◌, subst}
use mathlib.Core.Bool.{true}
use Prim.Native.Nat.{ℕ, ◌≤◌}
use native.Mathlib.Omega.{arith}
use lib.Dec.{T, leb}
use lib.Ieee.{binary64, fits}
use mir.Syntax.{w64}
use mir.Val.{SFits}
use mir.ValLaws.{to_z-of_z}
use Rattle.std.proofs.Common.{Ok}
use Rattle.rounding.specs.Decimals.{with_sign, too_large, rounded_of}
use Rattle.rounding.proofs.Places.{few, refused}
use Rattle.rounding.proofs.decimals.Pattern.{Small, small, over, under, not-large, bits_of, field_of, field-most, middle, tiny, ten-le}
use Rattle.rounding.proofs.decimals.round_places.Goals.{Else-not-small, Then-not-small, Else-f-lt-LEAST_FIELD, After-scaled-n, then-x, else-x}
use Rattle.rounding.proofs.decimals.round_places.Goals as goal

pub returns-then-places-gt5 : goal.returns-then-places-gt5
unfolding rounded_of
returns-then-places-gt5 c = rw (lt-ltb _ _ c.if-places-gt5.true)

-- what owning an f64 tells: the format holds it
held : (c : Else-not-small) → T (fits binary64 c.args.x)
held c = subst T (sym c.well_formed.0.1) tt

-- what the two tests tell
in-range : (c : Else-not-small) → Small c.args.x
in-range c = elim c.if-x.branch [
  | then-x w ↦ small c.args.x w.if-x.true (sym w.small-is ∙ c.if-not-small.false)
  | else-x w ↦ small c.args.x (sym w.small-is ∙ c.if-not-small.false) cc
]

outside : (c : Then-not-small) → too_large c.args.x ≡ true
outside c = elim c.if-x.branch [
  | then-x w ↦ under c.args.x (sym w.small-is ∙ c.if-not-small.true)
  | else-x w ↦ over c.args.x w.if-x.false
]

pub returns-then-not-small : goal.returns-then-not-small
returns-then-not-small c = sym (refused c.args.x c.args.places c.if-places-gt5.false (outside c))

most : (c : Else-f-lt-LEAST_FIELD) → field_of c.args.x ≤ 1046
most c = field-most c.args.x (held c.before) (in-range c.before)

pub overflow_sub-f : goal.overflow_sub-f
overflow_sub-f c = omega (arith, most c)

pub scaled-n-requires : goal.scaled-n-requires
scaled-n-requires c = (omega arith, omega (arith, most c), omega arith, c.if-places-gt5.false)

pub returns-then-f-lt-LEAST_FIELD : goal.returns-then-f-lt-LEAST_FIELD
returns-then-f-lt-LEAST_FIELD c =
    let d = c.before in
    let x = c.args.x in
    let p = c.args.places in
    let l : p ≤ 5 = c.if-places-gt5.false in
    ap Ok (sym (tiny x (held d) (in-range d) p (ten-le p l) c.if-f-lt-LEAST_FIELD.true)) ∙ sym (few x p l (not-large x (in-range d)))

-- what `scaled` returns is the size
sized : (c : After-scaled-n)
    → Ok (with_sign (leb 9223372036854775808 (bits_of c.args.x)) c.scaled-n.result)
    ≡ rounded_of c.args.x c.args.places
sized c =
    let d = c.before.before in
    let x = c.args.x in
    let p = c.args.places in
    let l : p ≤ 5 = c.if-places-gt5.false in
    let s = leb 9223372036854775808 (bits_of x) in
    ap (λ (n : ℕ). Ok (with_sign s n)) c.scaled-n.ensures.exact
    ∙ ap Ok (sym (middle x (held d) (in-range d) p c.if-f-lt-LEAST_FIELD.false))
    ∙ sym (few x p l (not-large x (in-range d)))

pub returns : goal.returns
returns c =
    let f : SFits w64 c.signed.result = search rules in
    ap Ok (to_z-of_z w64 c.signed.result f ∙ c.signed.ensures) ∙ sized c.before
