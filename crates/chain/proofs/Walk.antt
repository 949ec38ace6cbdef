-- Laws of a walk over steps. Assumes nothing.
use mathlib.Core.Path.{◌≡◌, refl, sym, ◌∙◌, ap}
use mathlib.Core.Bool.{Bool, true, false}
use mathlib.Core.List.{List, [], ◌∷◌, ◌++◌}
use Rattle.refusal.specs.Order.{pick}
use Rattle.chain.specs.declared.Position.{Position}
use Rattle.chain.specs.declared.Step.{Step}
use Rattle.chain.specs.Faults.{in_area}
use Rattle.chain.specs.Convert.{Walk, at, left, onward, arrive, walk}

-- ---- what a walk that ended went through
pub record Through (w : Walk) (g : Position → Walk) (r : Position) : Type 0 where
  pub mid : Position
  pub came : w ≡ at mid
  pub went : g mid ≡ at r

through : (w : Walk) (g : Position → Walk) (r : Position) → onward w g ≡ at r → Through w g r
through (at p) g r e = record { mid = p; came = refl; went = e }
through left g r e = record { mid = r; came = cc; went = cc }

pub at-is : {p q : Position} → at p ≡ at q → p ≡ q
at-is e = cc

keeps : (b : Bool) (p x : Position) → pick b (at p) left ≡ at x → (b ≡ true) × (p ≡ x)
keeps true p x e = (refl, cc)
keeps false p x e = (cc, cc)

-- ---- a walk of steps one after another
onward-cong : (w : Walk) (g h : Position → Walk) → ((x : Position) → g x ≡ h x) → onward w g ≡ onward w h
onward-cong (at p) g h e = e p
onward-cong left g h e = refl

onward-assoc : (w : Walk) (g h : Position → Walk) → onward (onward w g) h ≡ onward w (λ x. onward (g x) h)
onward-assoc (at p) g h = refl
onward-assoc left g h = refl

-- a step that stays in the area, and one that leaves it
pub stays : (q : Position) (g : Position → Walk) → in_area q ≡ true → onward (arrive q) g ≡ g q
stays q g e = ap (λ (b : Bool). onward (pick b (at q) left) g) e

pub leaves : (q : Position) (g : Position → Walk) → in_area q ≡ false → onward (arrive q) g ≡ left
leaves q g e = ap (λ (b : Bool). onward (pick b (at q) left) g) e

module _ (f : Step → Position → Position) where
  -- no step: the walk ends where it began
  pub walk_none : (p r : Position) → walk f [] p ≡ at r → p ≡ r
  unfolding walk
  walk_none p r e = at-is e

  -- the first step's result is in the area, and the rest goes on from there
  pub walk_step : (s : Step) (ss : List Step) (p r : Position) → walk f (s ∷ ss) p ≡ at r → (in_area (f s p) ≡ true) × (walk f ss (f s p) ≡ at r)
  unfolding walk
  walk_step s ss p r e =
      let t = through (arrive (f s p)) (walk f ss) r e in
      let m = keeps (in_area (f s p)) (f s p) t.mid t.came in
      (m.0, ap (walk f ss) m.1 ∙ t.went)

  pub walk-append : (a b : List Step) (p : Position) → walk f (a ++ b) p ≡ onward (walk f a p) (walk f b)
  unfolding walk
  walk-append [] b p = refl
  walk-append (s ∷ a) b p =
      onward-cong (arrive (f s p)) (walk f (a ++ b)) (λ x. onward (walk f a x) (walk f b)) (walk-append a b)
      ∙ sym (onward-assoc (arrive (f s p)) (walk f a) (walk f b))

  -- the last step's
  pub record Last (a : List Step) (s : Step) (p r : Position) : Type 0 where
    pub mid : Position
    pub came : walk f a p ≡ at mid
    pub went : f s mid ≡ r

  pub walk-last : (a : List Step) (s : Step) (p r : Position) → walk f (a ++ (s ∷ [])) p ≡ at r → Last a s p r
  unfolding walk
  walk-last a s p r e =
      let t = through (walk f a p) (walk f (s ∷ [])) r (sym (walk-append a (s ∷ []) p) ∙ e) in
      record { mid = t.mid; came = t.came; went = at-is (walk_step s [] t.mid r t.went).1 }

  -- a walk that starts in the area ends there
  pub walk-area : (ss : List Step) (p r : Position) → in_area p ≡ true → walk f ss p ≡ at r → in_area r ≡ true
  unfolding walk
  walk-area [] p r h e = ap in_area (sym (at-is e)) ∙ h
  walk-area (s ∷ ss) p r h e = let t = walk_step s ss p r e in walk-area ss (f s p) r t.0 t.1
