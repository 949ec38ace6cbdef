-- A conversion by a joined chain goes in two legs, by one chain and then by the other, refusals included, there and back. Assumes nothing.
use mathlib.Core.Path.{◌≡◌, refl, sym, ◌∙◌, ap}
use mathlib.Core.Bool.{true}
use mathlib.Core.List.{List, [], ◌++◌, reverse, reverse-append}
use Prim.Native.Nat.{ℕ, zero, suc}
use native.Mathlib.Omega.{arith}
use lib.IntN.{ℤ}
use Rattle.refusal.specs.Numbers as refusal
use Rattle.refusal.specs.Order.{first}
use Rattle.refusal.proofs.Orders.{first-append, both-pass}
use Rattle.chain.specs.declared.Position.{Position}
use Rattle.chain.specs.declared.Realization.{Realization}
use Rattle.chain.specs.declared.Point.{Point}
use Rattle.chain.specs.declared.Step.{Step}
use Rattle.chain.specs.declared.Chain.{Chain}
use Rattle.chain.specs.Convert.{Answer}
use Rattle.std.specs.Prelude.{Ok, Err}
use Rattle.chain.specs.Faults.{in_area, same_realization, point_tests, point_fault, chain_tests, steps_of}
use Rattle.chain.specs.Convert.{Walk, at, left, onward, walk, forward_step, inverse_step, start_of, end_of, realization_and_area_tests, moved_to, answer_of, convert, forward_of, inverse_of}
use Rattle.chain.specs.Join.{joined_of}
use Rattle.chain.proofs.Within.{same_self}
use Rattle.chain.proofs.Walk.{walk-append, walk-area}
use Rattle.chain.proofs.Accepted.{sound-steps, held_steps, chain-passed, entry, entry-area, by-point, by-walk}
use Rattle.chain.proofs.PointLaws.{Dated, PointOk, point-ok, faultless}
use Rattle.chain.proofs.Outcomes.{end-dated, area-given}
use Rattle.chain.proofs.Joins.{Joinable}
use Rattle.chain.proofs.Meeting.{end-in, start-in, start-some, start-dated, meeting}
use Rattle.chain.proofs.JoinedLaws.{joined-steps, joined-good}

-- an answer that is another's refusal, or what a second conversion makes of the point that the other gave
pub record Legs (whole leg : Answer) (second : Point → Answer) : Type 0 where
  pub refused : (n : ℕ) → leg ≡ Err n → whole ≡ Err n
  pub converted : (q : Point) → leg ≡ Ok q → whole ≡ second q

module _ {whole leg : Answer} {second : Point → Answer} where
  both-refuse : (m : ℕ) → whole ≡ Err m → leg ≡ Err m → Legs whole leg second
  both-refuse m e f = record { refused = λ n g. e ∙ sym f ∙ g; converted = λ q g. cc }

  goes_on : (x : Point) → whole ≡ second x → leg ≡ Ok x → Legs whole leg second
  goes_on x e f = record { refused = λ n g. cc; converted = λ q g. let h : x ≡ q = cc in e ∙ ap second h }

-- ---- a good chain's conversion is decided by the point, and then by the walk
module _ (c : Chain) (good : first (chain_tests c) ≡ 0) (p : Point) (wanted reached : Realization) (w : Walk) where
  refused-at : (n : ℕ) → entry c.profile p wanted ≡ suc n → convert c p wanted reached w ≡ Err (suc n)
  refused-at n e = sym (by-point c p wanted reached w good (λ z. omega (arith, e, z))) ∙ ap Err e

  walked_at : entry c.profile p wanted ≡ 0 → convert c p wanted reached w ≡ answer_of p reached w
  walked_at e = sym (by-walk c p wanted reached w good e)

-- what a point that is let in keeps
let-in-ok : (y : ℤ) (p : Point) (wanted : Realization) → entry y p wanted ≡ 0 → PointOk y p
unfolding point_fault
let-in-ok y p wanted e = point-ok y p (both-pass (point_tests y p) (realization_and_area_tests p wanted) tt e).0

-- ---- one leg after another: by j the way is that by c and then that by d
moved-answer : (p : Point) (r r' : Realization) (x : Position) (w : Walk) → answer_of (moved_to p r x) r' w ≡ answer_of p r' w
unfolding answer_of
moved-answer p r r' x (at q) = refl
moved-answer p r r' x left = refl

module _ (f : Step → Position → Position) (c d j : Chain) (gc : first (chain_tests c) ≡ 0) (gd : first (chain_tests d) ≡ 0) (gj : first (chain_tests j) ≡ 0) (lc : c.profile ≡ j.profile) (ld : d.profile ≡ j.profile) (p : Point) (wanted mid reached wanted' reached' : Realization) (fit : entry j.profile p wanted ≡ 0 → Dated j.profile mid) (there : same_realization mid wanted' ≡ true) (on : reached' ≡ reached) (a b : List Step) (second : Point → Answer) (is : (x : Position) → second (moved_to p mid x) ≡ convert d (moved_to p mid x) wanted' reached' (walk f b x)) where
  -- where the first leg ends the second lets the point in
  let-in : (x : Position) → entry j.profile p wanted ≡ 0 → in_area x ≡ true → entry d.profile (moved_to p mid x) wanted' ≡ 0
  unfolding point_fault
  let-in x e i =
      let g = faultless j.profile (moved_to p mid x) (record { label = (let-in-ok j.profile p wanted e).label; dated = fit e; given = area-given x i }) in
      ap (λ (y : ℤ). entry y (moved_to p mid x) wanted') ld
      ∙ first-append (point_tests j.profile (moved_to p mid x)) (realization_and_area_tests (moved_to p mid x) wanted') tt
      ∙ rw (g, there, i)

  -- and goes on from there
  second_walks : (x : Position) → entry j.profile p wanted ≡ 0 → in_area x ≡ true → second (moved_to p mid x) ≡ answer_of p reached (walk f b x)
  second_walks x e i =
      is x
      ∙ walked_at d gd (moved_to p mid x) wanted' reached' (walk f b x) (let-in x e i)
      ∙ moved-answer p mid reached' x (walk f b x)
      ∙ ap (λ (r : Realization). answer_of p r (walk f b x)) on

  legs : Legs (convert j p wanted reached (walk f (a ++ b) p.position)) (convert c p wanted mid (walk f a p.position)) second
  unfolding answer_of
  legs = go (entry j.profile p wanted) refl
    where
      same-entry : entry c.profile p wanted ≡ entry j.profile p wanted
      same-entry = ap (λ (y : ℤ). entry y p wanted) lc

      walked : entry j.profile p wanted ≡ 0 → (w : Walk) → walk f a p.position ≡ w → Legs (answer_of p reached (onward w (walk f b))) (answer_of p mid w) second
      walked e left q = both-refuse refusal.left refl refl
      walked e (at x) q = goes_on (moved_to p mid x) (sym (second_walks x e (walk-area f a p.position x (entry-area j.profile p wanted e) q))) refl

      go : (n : ℕ) → entry j.profile p wanted ≡ n → Legs (convert j p wanted reached (walk f (a ++ b) p.position)) (convert c p wanted mid (walk f a p.position)) second
      go (suc n) e =
          both-refuse (suc n) (refused-at j gj p wanted reached (walk f (a ++ b) p.position) n e)
          (refused-at c gc p wanted mid (walk f a p.position) n (same-entry ∙ e))
      go zero e =
          rw (walked_at j gj p wanted reached (walk f (a ++ b) p.position) e, walk-append f a b p.position, walked_at c gc p wanted mid (walk f a p.position) (same-entry ∙ e))
          (walked e (walk f a p.position) refl)

-- ---- by a joined chain, there and back
module _ (c d : Chain) (two : Joinable c d) (some : steps_of c ≡ [] → ⊥) (others : steps_of d ≡ [] → ⊥) (p : Point) where
  abbrev ss : List Step
  ss = steps_of c

  abbrev ts : List Step
  ts = steps_of d

  abbrev r : Realization
  r = p.realization

  pub forward-legs : Legs (forward_of (joined_of c d) p) (forward_of c p) (forward_of d)
  unfolding forward_of
  forward-legs =
      let s = chain-passed c two.good in
      let e = meeting r (end_of r ss) ss ts some others two.meets in
      rw (joined-steps c d, start-in r ss ts some)
      (legs forward_step c d (joined_of c d) two.good two.other (joined-good c d two) refl (sym two.like)
      p (start_of r ss) (end_of r ss) (end_of r (ss ++ ts)) (start_of (end_of r ss) ts) (end_of (end_of r ss) ts)
      (λ z. end-dated c.profile r ss (sound-steps c.profile ss s.1) (held_steps c.profile ss s.1) (let-in-ok c.profile p (start_of r ss) z).dated)
      (ap (same_realization (end_of r ss)) (sym e) ∙ same_self (end_of r ss)) (sym (end-in r (end_of r ss) ss ts others)) ss ts (forward_of d) (λ x. refl))

  pub inverse-legs : Legs (inverse_of (joined_of c d) p) (inverse_of d p) (inverse_of c)
  unfolding inverse_of
  inverse-legs =
      let s = chain-passed d two.other in
      let e = meeting (start_of r ts) r ss ts some others two.meets in
      rw (joined-steps c d, end-in r r ss ts others, reverse-append ss ts)
      (legs inverse_step d c (joined_of c d) two.other two.good (joined-good c d two) (sym two.like) refl
      p (end_of r ts) (start_of r ts) (start_of r (ss ++ ts)) (end_of (start_of r ts) ss) (start_of (start_of r ts) ss)
      (λ z. rw two.like (start-dated d.profile r ts others (sound-steps d.profile ts s.1) (held_steps d.profile ts s.1)))
      (ap (same_realization (start_of r ts)) e ∙ same_self (start_of r ts)) (start-some (start_of r ts) r ss some ∙ sym (start-in r ss ts some))
      (reverse ts) (reverse ss) (inverse_of c) (λ x. refl))
