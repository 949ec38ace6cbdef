-- Demand 3: a point converted by a chain and handed to the other conversion by the same chain has come back. Assumes nothing.
use mathlib.Core.Path.{◌≡◌, sym, ◌∙◌, ap, ap₂, subst}
use mathlib.Core.Bool.{true}
use mathlib.Core.List.{List, [], ◌∷◌, ◌++◌, reverse, reverse_aux-eq}
use Prim.Native.Nat.{ℕ, ◌+◌, ◌≤◌}
use native.Mathlib.Nat as NatL
use native.Mathlib.Omega.{arith}
use lib.Dec.{lit≤}
use lib.ListN.{length, length-take}
use lib.IntN.{ℤ, nat_abs, ◌-ℤ◌}
use Rattle.rounding.proofs.Zn.{v, eq, unabs, ◌⊖◌}
use Rattle.rounding.proofs.Machine.{of₃}
use Rattle.chain.specs.declared.Position.{Position}
use Rattle.chain.specs.declared.Realization.{Realization}
use Rattle.chain.specs.declared.Id.{Id}
use Rattle.chain.specs.declared.Label.{Label}
use Rattle.chain.specs.declared.Point.{Point}
use Rattle.chain.specs.declared.Kind.{Kind}
use Rattle.chain.specs.declared.Kind.TheVariants.{Shift, Velocity, BursaWolf, Frame}
use Rattle.chain.specs.declared.Step.{Step}
use Rattle.chain.specs.declared.Chain.{Chain}
use Rattle.chain.specs.Faults.{KindOk, in_area, steps_of}
use Rattle.chain.specs.Parts.{kind_parts, forward_by, inverse_by}
use Rattle.chain.specs.Axes.{on_x, on_y, on_z, Small}
use Rattle.chain.specs.Convert.{at, walk, forward_step, inverse_step, start_of, end_of, moved_to}
use Rattle.theorems.specs.RoundTrip.{inexact, inexact_steps, Returned, ThereAndBack, BackAndThere, Exactly, RoundTrip}
use Rattle.chain.proofs.Within.{area_small}
use Rattle.chain.proofs.StepLaws.{Off, off-le, off_self, small-le, inverse-off, inverse-exact, forward-off, forward-exact}
use Rattle.chain.proofs.Sizes.{kind-mild, shift-flat, velocity-flat}
use Rattle.chain.proofs.Walk.{walk_none, walk_step, walk-last, walk-area}
use Rattle.chain.proofs.Accepted.{Sound}
use Rattle.chain.proofs.Ends.{start-home, end-home, forward-went, inverse-went}

-- ---- one step of any kind: nothing is added by a shift or a velocity, one unit by Bursa-Wolf or a frame
module _ (r a : Realization) where
  kind-inverse :
      (kind : Kind) → KindOk kind r a → (q' p : Position) (m : ℕ) → Small 650000000000 p → m + inexact kind ≤ 8 →
      Off m q' (forward_by (kind_parts kind r a) p) → Off (m + inexact kind) (inverse_by (kind_parts kind r a) q') p
  kind-inverse (Shift t) ok q' p m s l h = off-le (omega arith) (inverse-exact (kind_parts (Shift t) r a) (shift-flat t r a) q' p m h)
  kind-inverse (Velocity t) ok q' p m s l h = off-le (omega arith) (inverse-exact (kind_parts (Velocity t) r a) (velocity-flat t r a) q' p m h)
  kind-inverse (BursaWolf t) ok q' p m s l h = inverse-off (kind_parts (BursaWolf t) r a) (kind-mild (BursaWolf t) r a ok) q' p m s (omega arith) h
  kind-inverse Frame ok q' p m s l h = inverse-off (kind_parts Frame r a) (kind-mild Frame r a ok) q' p m s (omega arith) h

  kind-forward :
      (kind : Kind) → KindOk kind r a → (p' q : Position) (m : ℕ) → Small 650000000000 q → m + inexact kind ≤ 8 →
      Off m p' (inverse_by (kind_parts kind r a) q) → Off (m + inexact kind) (forward_by (kind_parts kind r a) p') q
  kind-forward (Shift t) ok p' q m s l h = off-le (omega arith) (forward-exact (kind_parts (Shift t) r a) (shift-flat t r a) p' q m h)
  kind-forward (Velocity t) ok p' q m s l h = off-le (omega arith) (forward-exact (kind_parts (Velocity t) r a) (velocity-flat t r a) p' q m h)
  kind-forward (BursaWolf t) ok p' q m s l h = forward-off (kind_parts (BursaWolf t) r a) (kind-mild (BursaWolf t) r a ok) p' q m s (omega arith) h
  kind-forward Frame ok p' q m s l h = forward-off (kind_parts Frame r a) (kind-mild Frame r a ok) p' q m s (omega arith) h

near : (p : Position) → in_area p ≡ true → Small 650000000000 p
near p h = small-le (lit≤ tt) (area_small p h)

-- ---- a chain. The inverse of a chain ends with the inverse of its first step
last-first : (f : Step → Position → Position) (s : Step) (ss : List Step) (q : Position) → walk f (reverse ss ++ (s ∷ [])) q ≡ walk f (reverse (s ∷ ss)) q
last-first f s ss q = ap (λ (l : List Step). walk f l q) (sym (reverse_aux-eq ss (s ∷ [])))

-- forward to q; from q', m off from q, the inverse comes to p within m and one for each inexact step
there_and_back :
    (ss : List Step) → Sound ss → (p q q' r : Position) (m : ℕ) → m + inexact_steps ss ≤ 8 → in_area p ≡ true →
    walk forward_step ss p ≡ at q → Off m q' q → walk inverse_step (reverse ss) q' ≡ at r → Off (m + inexact_steps ss) r p
there_and_back [] ok p q q' r m l h e o b =
    let h = subst (λ (x : Position). Off m x q) (walk_none inverse_step q' r b) o in
    off-le (omega arith) (subst (λ (x : Position). Off m r x) (sym (walk_none forward_step p q e)) h)
there_and_back (s ∷ ss) ok p q q' r m l h e o b =
    let t = walk_step forward_step s ss p q e in
    let u = walk-last inverse_step (reverse ss) s q' r (last-first inverse_step s ss q' ∙ b) in
    let i = there_and_back ss ok.1 (forward_step s p) q q' u.mid m (omega arith) t.0 t.1 o u.came in
    let j = kind-inverse s.before s.after s.kind ok.0 u.mid p (m + inexact_steps ss) (near p h) (omega arith) i in
    off-le (omega arith) (subst (λ (x : Position). Off (m + inexact_steps ss + inexact s.kind) x p) u.went j)

-- inverse to p; from p', m off from p, the way forward comes to q within m and one for each inexact step
back-and-there :
    (ss : List Step) → Sound ss → (q p p' r : Position) (m : ℕ) → m + inexact_steps ss ≤ 8 → in_area q ≡ true →
    walk inverse_step (reverse ss) q ≡ at p → Off m p' p → walk forward_step ss p' ≡ at r → Off (m + inexact_steps ss) r q
back-and-there [] ok q p p' r m l h e o b =
    let h = subst (λ (x : Position). Off m x p) (walk_none forward_step p' r b) o in
    off-le (omega arith) (subst (λ (x : Position). Off m r x) (sym (walk_none inverse_step q p e)) h)
back-and-there (s ∷ ss) ok q p p' r m l h e o b =
    let t = walk_step forward_step s ss p' r b in
    let u = walk-last inverse_step (reverse ss) s q p (last-first inverse_step s ss q ∙ e) in
    let n = near u.mid (walk-area inverse_step (reverse ss) q u.mid h u.came) in
    let i = subst (λ (x : Position). Off m p' x) (sym u.went) o in
    let j = kind-forward s.before s.after s.kind ok.0 p' u.mid m n (omega arith) i in
    off-le (omega arith) (back-and-there ss ok.1 q u.mid (forward_step s p') r (m + inexact s.kind) (omega arith) h u.came j t.1)

-- ---- at most eight steps, so at most eight units
count-le : (ss : List Step) → inexact_steps ss ≤ length ss
count-le [] = omega arith
count-le (s ∷ ss) = let h = count-le ss in let l = one s.kind in omega arith
  where
    one : (kind : Kind) → inexact kind ≤ 1
    one (Shift t) = omega arith
    one (Velocity t) = omega arith
    one (BursaWolf t) = omega arith
    one Frame = omega arith

pub eight : (c : Chain) → c.length ≤ 8 → 0 + inexact_steps (steps_of c) ≤ 8
eight c h = omega (arith, count-le (steps_of c), length-take c.length c.steps)

-- ---- the claim, from two conversions that were not refused
returned :
    (n : ℕ) (p q r : Point) (there home : Realization) → q ≡ moved_to p there q.position → r ≡ moved_to q home r.position →
    (home.datum ≡ p.realization.datum) × (home.epoch ≡ p.realization.epoch) → Off (0 + n) r.position p.position → Returned n p r
returned n p q r there home e f d o = record {
  id = ap (λ (t : Point). t.label.id) f ∙ ap (λ (t : Point). t.label.id) e;
  issue = ap (λ (t : Point). t.label.issue) f ∙ ap (λ (t : Point). t.label.issue) e;
  order = ap (λ (t : Point). t.label.order) f ∙ ap (λ (t : Point). t.label.order) e;
  datum = ap (λ (t : Point). t.realization.datum) f ∙ d.0;
  epoch = ap (λ (t : Point). t.realization.epoch) f ∙ d.1;
  x = NatL.le_trans (o.on on_x) (omega arith);
  y = NatL.le_trans (o.on on_y) (omega arith);
  z = NatL.le_trans (o.on on_z) (omega arith);
}

forth : ThereAndBack
forth c p q r e f =
    let ss = steps_of c in
    let a = forward-went c p q e in
    let b = inverse-went c q r f in
    returned (inexact_steps ss) p q r (end_of p.realization ss) (start_of q.realization ss) a.is b.is
    (start-home p.realization q.realization ss a.accept.here (ap (λ (t : Point). t.realization) a.is))
    (there_and_back ss a.accept.sound p.position q.position q.position r.position 0 (eight c a.accept.short) a.accept.area
    a.ended (off_self _) b.ended)

back : BackAndThere
back c p q r e f =
    let ss = steps_of c in
    let a = inverse-went c p q e in
    let b = forward-went c q r f in
    returned (inexact_steps ss) p q r (start_of p.realization ss) (end_of q.realization ss) a.is b.is
    (end-home p.realization q.realization ss a.accept.here (ap (λ (t : Point). t.realization) a.is))
    (back-and-there ss a.accept.sound p.position q.position q.position r.position 0 (eight c a.accept.short) a.accept.area
    a.ended (off_self _) b.ended)

-- within 0 units is equal
same_number : (x y : ℤ) → nat_abs (x -ℤ y) ≤ 0 → x ≡ y
same_number x y h = let f = unabs 0 h (v x ⊖ v y) in eq (v x) (v y) (omega arith)

exactly : Exactly
exactly p r h =
    ap (λ (l : Label). record { label = l; realization = r.realization; position = r.position })
    (ap (λ (i : Id). record { id = i; issue = r.label.issue; order = r.label.order }) h.id
    ∙ ap₂ (λ (n o : ℤ). record { id = p.label.id; issue = n; order = o }) h.issue h.order)
    ∙ ap₂ (moved_to p) (ap₂ (λ (d e : ℤ). record { datum = d; epoch = e }) h.datum h.epoch)
    (of₃ (λ (x y z : ℤ). record { x = x; y = y; z = z }) (same_number _ _ h.x) (same_number _ _ h.y) (same_number _ _ h.z))

pub round_trip : RoundTrip
round_trip = record { forth = forth; back = back; exact = exactly }
