-- `ranges::equal` meets its contract: two numbers whose bits are the same are one number. Assumes nothing.
use mathlib.Core.Path.{◌≡◌, refl, sym, ap, ◌∙◌}
use mathlib.Core.Bool.{Bool, true, false}
use lib.Dec.{eqb}
use lib.IntN.{ℤ}
use mir.Syntax.{w64}
use mir.Val.{SFits, to_z, of_z}
use mir.Facts.{to_z-of_z}
use borrow.Author.Tests.{eqb-true, eq-eqb}
use Rattle.ranges.specs.Ranges.{equal}
use Rattle.ranges.proofs.Ranges.{equal_is, equal-self}
use Rattle.ranges.proofs.equal.Goals as goal

same : {a b : ℤ} → SFits w64 a → SFits w64 b → of_z w64 a ≡ of_z w64 b → a ≡ b
same f g e = sym (to_z-of_z f) ∙ ap (to_z w64) e ∙ to_z-of_z g

bits-equal : (a b : ℤ) → SFits w64 a → SFits w64 b → (r t : Bool) → eqb (of_z w64 a) (of_z w64 b) ≡ r → equal a b ≡ t → r ≡ t
bits-equal a b f g true t e h = sym (equal-self a) ∙ ap (equal a) (same f g (eqb-true _ _ e)) ∙ h
bits-equal a b f g false true e h = sym e ∙ eq-eqb _ _ (ap (of_z w64) (equal_is a b h))
bits-equal a b f g false false e h = refl

pub returns : goal.returns
returns c = bits-equal c.args.a c.args.b c.ranges.a c.ranges.b _ _ refl refl
