-- `capi::rso::swivelcrane_rso_forward` meets its contract: the lengths, and then what the library answers. Assumes nothing.
use borrow.Author.Tests.{eq-eqb, ne_eqb}
use mathlib.Core.Path.{◌≡◌, sym, ◌∙◌, ap}
use lib.IntN.{ℤ}
use Rattle.rounding.proofs.Machine.{rd, told}
use Rattle.oblique_mercator.specs.Forward.{forward_of}
use Rattle.oblique_mercator.specs.declared.Parameters.{Parameters}
use Rattle.capi.specs.Calls.{of_projected}
use Rattle.capi.specs.Rso.{rso_forward_call}
use Rattle.capi.proofs.Laws.{by, wrong}
use Rattle.capi.proofs.rso.swivelcrane_rso_forward.Goals as goal

same_point : {p q : Parameters} {a b o r : ℤ} → p ≡ q → a ≡ b → o ≡ r → forward_of p a o ≡ forward_of q b r
same_point e f g = rw (e, f, g)

pub returns-then-parameters-ne8 : goal.returns-then-parameters-ne8
unfolding rso_forward_call
returns-then-parameters-ne8 c = wrong (rw (ne_eqb _ _ c.if-parameters-ne8.true))

pub returns-then-out-ne2 : goal.returns-then-out-ne2
unfolding rso_forward_call
returns-then-out-ne2 c = wrong (rw (eq-eqb _ _ c.if-parameters-ne8.false, ne_eqb _ _ c.if-out-ne2.true))

pub returns : goal.returns
unfolding rso_forward_call
returns c =
    by c.give_metres.ensures
    (rw (eq-eqb _ _ c.if-parameters-ne8.false, eq-eqb _ _ c.if-out-ne2.false)
    (ap of_projected (sym (c.forward.ensures ∙ same_point c.parameters_from-p.ensures (rd c.ranges.latitude) (rd c.ranges.longitude)))))
    (told c.give_metres.type_inv)
