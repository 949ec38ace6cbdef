-- Where eight numbers lead, by their form. Assumes nothing.
use mathlib.Core.Path.{◌≡◌, subst}
use mathlib.Core.Bool.{true, ◌&&◌}
use lib.IntN.{ℤ}
use Rattle.std.specs.Prelude.{Option}
use Rattle.chain.specs.declared.Position.{Position}
use Rattle.chain.specs.declared.Direction.{Direction}
use Rattle.chain.specs.declared.steps.Ready.{Ready}
use Rattle.chain.specs.Ready.{ready_parts}
use Rattle.chain.specs.Prepared.{form_range, ready_of, ready_range, stepped}

module _ (way : Direction) (form a b c d e f g : ℤ) (p : Position) where
  abbrev pub leads : Option Position
  leads = stepped way (form_range form && ready_range (ready_of form a b c d e f g)) (ready_parts (ready_of form a b c d e f g)) p

  -- a form that a step has, and what is ready by it
  pub by_form : (m : Option Position) (r : Ready) → r ≡ ready_of form a b c d e f g → form_range form ≡ true → m ≡ stepped way (ready_range r) (ready_parts r) p → m ≡ leads
  by_form m r w h s = rw h (subst (λ (t : Ready). m ≡ stepped way (ready_range t) (ready_parts t) p) w s)

-- numbers that are the same lead to the same
pub eight-lead :
    {form a b c d e f g form' a' b' c' d' e' f' g' : ℤ} → form ≡ form' → a ≡ a' → b ≡ b' → c ≡ c' → d ≡ d' → e ≡ e' → f ≡ f' → g ≡ g' →
    (way : Direction) (p : Position) → leads way form a b c d e f g p ≡ leads way form' a' b' c' d' e' f' g' p
eight-lead h0 h1 h2 h3 h4 h5 h6 h7 way p = rw (h0, h1, h2, h3, h4, h5, h6, h7)
