-- A turn of a walk over steps, either way: what is left to go by leads where the whole does. Assumes nothing.
use mathlib.Core.Path.{◌≡◌, sym, ◌∙◌, ap}
use mathlib.Core.Bool.{true, false}
use mathlib.Core.List.{List}
use Prim.Native.Nat.{ℕ, ◌+◌, ◌<◌, ◌≤◌}
use native.Mathlib.Omega.{arith}
use lib.ListN.{length}
use Rattle.chain.specs.declared.Position.{Position}
use Rattle.chain.specs.declared.Direction.{Direction}
use Rattle.chain.specs.declared.Direction.TheVariants.{Forward, Inverse}
use Rattle.chain.specs.declared.Step.{Step}
use Rattle.chain.specs.Faults.{in_area}
use Rattle.chain.specs.Ways.{place, in_order, StandsAt}
use Rattle.chain.specs.Convert.{at, left, onward, arrive, walk}
use Rattle.chain.proofs.Walk.{stays, leaves}
use Rattle.chain.proofs.Ways.{rest, rest_all, rest_none, rest_more}

-- where a step stands that is not gone by
pub place_below : (d : Direction) (n gone : ℕ) → gone < n → place d n gone < n
place_below Forward n gone h = h
place_below Inverse n gone h = omega arith

module _ (f : Step → Position → Position) (d : Direction) (post : ℕ → Step → Type 0) (ss : List Step) (stands : StandsAt ss post) (start : Position) where
  -- what is left after so many, from a position on
  abbrev pub Leads : ℕ → Position → Type 0
  Leads gone p = walk f (rest d ss gone) p ≡ walk f (in_order d ss) start

  pub leads_first : Leads 0 start
  leads_first = ap (λ (l : List Step). walk f l start) (rest_all d ss)

  module _ (n gone i : ℕ) (long : length ss ≡ n) (below : gone < n) (is : i ≡ place d n gone) (s : Step) (there : post i s) (p q : Position) (leads : Leads gone p) (to : q ≡ f s p) where
    turn : onward (arrive q) (walk f (rest d ss (gone + 1))) ≡ walk f (in_order d ss) start
    unfolding walk
    turn =
        let e : i ≡ place d (length ss) gone = is ∙ ap (λ (k : ℕ). place d k gone) (sym long) in
        let lies : gone < length ss = omega arith in
        let h = rw e at (stands i s (rw e (place_below d (length ss) gone lies)) there) in
        ap (λ (x : Position). onward (arrive x) (walk f (rest d ss (gone + 1)))) to
        ∙ sym (ap (λ (l : List Step). walk f l p) (rest_more d ss s gone lies h))
        ∙ leads

    pub leads_out : in_area q ≡ false → left ≡ walk f (in_order d ss) start
    leads_out e = sym (leaves q _ e) ∙ turn

    pub leads_on : in_area q ≡ true → Leads (gone + 1) q
    leads_on e = sym (stays q _ e) ∙ turn

  pub leads_last : (n gone : ℕ) (p : Position) → length ss ≡ n → n ≤ gone → Leads gone p → at p ≡ walk f (in_order d ss) start
  unfolding walk
  leads_last n gone p long h leads =
      ap (λ (l : List Step). walk f l p) (sym (rest_none d ss gone (omega arith))) ∙ leads
