-- How the code answers a conversion, either way: the chain decides first, then the point, then the walk. Assumes nothing.
use mathlib.Core.Path.{◌≡◌, refl, ◌∙◌, ap, subst}
use mathlib.Core.List.{List}
use Prim.Native.Nat.{ℕ, zero, suc, ◌<◌, ◌≤◌}
use native.Mathlib.Omega.{arith}
use lib.ListN.{length, take, get_or, length-take}
use Rattle.std.specs.Prelude.{Ok, Err}
use Rattle.refusal.specs.Order.{first, unless}
use Rattle.chain.specs.declared.Position.{Position}
use Rattle.chain.specs.declared.Realization.{Realization}
use Rattle.chain.specs.declared.Point.{Point}
use Rattle.chain.specs.declared.Step.{Step}
use Rattle.chain.specs.declared.Chain.{Chain}
use Rattle.chain.specs.declared.Direction.{Direction}
use Rattle.chain.specs.declared.Direction.TheVariants.{Forward, Inverse}
use Rattle.chain.specs.Faults.{chain_tests, steps_of}
use Rattle.chain.specs.Ways.{either, in_order, StandsAt}
use Rattle.chain.specs.Convert.{Walk, at, left, walk, ended, step_by, start_of, end_of, moved_to, answer_of, conversion_tests, convert, forward_of, inverse_of}
use Rattle.chain.specs.PointRow.{convert_of}
use Rattle.chain.proofs.Arrivals.{KeepsLabel}
use Rattle.chain.proofs.AtIndex.{step_past_end, from}
use Rattle.chain.proofs.Accepted.{entry, by_chain, by-point, by-walk}

-- where a walk ended, and what is answered there
pub ends-there : (p : Point) (r : Realization) (w : Walk) (q : Position) → Ok q ≡ ended w → Ok (moved_to p r q) ≡ answer_of p r w
unfolding answer_of
ends-there p r (at x) q e = let f : q ≡ x = cc in ap (λ (y : Position). Ok (moved_to p r y)) f
ends-there p r left q e = cc

pub ends-out : (p : Point) (r : Realization) (w : Walk) (n : ℕ) → Err n ≡ ended w → Err n ≡ answer_of p r w
unfolding answer_of
ends-out p r (at x) n e = cc
ends-out p r left n e = let f : n ≡ 11 = cc in ap Err f

module _ (c : Chain) (d : Direction) (p : Point) where
  abbrev steps : List Step
  steps = steps_of c

  abbrev pub wanted : Realization
  wanted = either d (start_of p.realization (steps_of c)) (end_of p.realization (steps_of c))

  abbrev pub reached : Realization
  reached = either d (end_of p.realization (steps_of c)) (start_of p.realization (steps_of c))

  abbrev pub walked : Walk
  walked = walk (step_by d) (in_order d (steps_of c)) p.position

way-is : (c : Chain) (d : Direction) (p : Point) → convert c p (wanted c d p) (reached c d p) (walked c d p) ≡ convert_of c d p
unfolding convert_of forward_of inverse_of
way-is c Forward p = refl
way-is c Inverse p = refl

module _ (c : Chain) (d : Direction) (p : Point) where
  pub chain-refuses : (n : ℕ) → n ≡ first (chain_tests c) → (n ≡ 0 → ⊥) → Err n ≡ convert_of c d p
  chain-refuses n e h = ap Err e ∙ by_chain c p (wanted c d p) (reached c d p) (walked c d p) (λ z. h (e ∙ z)) ∙ way-is c d p

  pub point-refuses : first (chain_tests c) ≡ 0 → (n : ℕ) → n ≡ entry c.profile p (wanted c d p) → (n ≡ 0 → ⊥) → Err n ≡ convert_of c d p
  point-refuses f n e h = ap Err e ∙ by-point c p (wanted c d p) (reached c d p) (walked c d p) f (λ z. h (e ∙ z)) ∙ way-is c d p

  pub walk-leaves : first (chain_tests c) ≡ 0 → entry c.profile p (wanted c d p) ≡ 0 → (n : ℕ) → Err n ≡ ended (walked c d p) → Err n ≡ convert_of c d p
  walk-leaves f g n e = ends-out p (reached c d p) (walked c d p) n e ∙ by-walk c p (wanted c d p) (reached c d p) (walked c d p) f g ∙ way-is c d p

  pub walk-ends : first (chain_tests c) ≡ 0 → entry c.profile p (wanted c d p) ≡ 0 → (q : Position) → Ok q ≡ ended (walked c d p) → Ok (moved_to p (reached c d p) q) ≡ convert_of c d p
  walk-ends f g q e = ends-there p (reached c d p) (walked c d p) q e ∙ by-walk c p (wanted c d p) (reached c d p) (walked c d p) f g ∙ way-is c d p

-- the ends that the code finds
pub ends-are : {A : Type 0} (d : Direction) (r s s' e e' : A) → r ≡ either d s e → s ≡ s' → e ≡ e' → r ≡ either d s' e'
ends-are d r s s' e e' h f g = h ∙ ap (λ (x : _). either d x e) f ∙ ap (either d s') g

-- the steps of a chain, got by their index
pub steps_long : (l : List Step) (n : ℕ) → n ≤ 8 → length l ≡ 8 → length (take n l) ≡ n
steps_long l n h long = simp length-take (omega arith)

pub steps_stand : (l : List Step) (n : ℕ) (post : ℕ → Step → Type 0) → n ≤ 8 → length l ≡ 8 → ((i : ℕ) (s : Step) → i < n → post i s → s ≡ get_or l i step_past_end)
    → StandsAt (take n l) post
steps_stand l n post h long is i s below there =
    let short : i < n = omega (arith, steps_long l n h long) in
    let inside : i < length l = omega arith in
    rw (is i s short there) (from l n i short inside)

-- the label is kept
answer-keeps : (p : Point) (r : Realization) (w : Walk) (n : ℕ) → KeepsLabel p (unless n Err (answer_of p r w))
unfolding answer_of
answer-keeps p r (at q) zero = refl
answer-keeps p r left zero = tt
answer-keeps p r w (suc n) = tt

pub convert-keeps : (c : Chain) (d : Direction) (p : Point) → KeepsLabel p (convert_of c d p)
unfolding convert
convert-keeps c d p = subst (KeepsLabel p) (way-is c d p) (answer-keeps p (reached c d p) (walked c d p) (first (conversion_tests c p (wanted c d p))))
