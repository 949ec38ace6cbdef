-- Two marks never become one: what a step does to two positions, carried along a chain in either direction. Assumes nothing.
use Rattle.std.specs.Prelude.{Ok}
use mathlib.Core.Path.{◌≡◌, refl, sym, ◌∙◌, ap, subst}
use mathlib.Core.Bool.{true}
use mathlib.Core.List.{List, [], ◌∷◌, ◌++◌, reverse, reverse_aux-eq}
use Prim.Native.Nat.{ℕ, ◌+◌, ◌≤◌}
use native.Mathlib.Omega.{arith}
use Rattle.chain.specs.declared.Position.{Position}
use Rattle.chain.specs.declared.Realization.{Realization}
use Rattle.chain.specs.declared.Point.{Point}
use Rattle.chain.specs.declared.Kind.{Kind}
use Rattle.chain.specs.declared.Kind.TheVariants.{Shift, Velocity, BursaWolf, Frame}
use Rattle.chain.specs.declared.Step.{Step}
use Rattle.chain.specs.Faults.{KindOk, StepOk, in_area, steps_of}
use Rattle.chain.specs.Parts.{Parts, kind_parts, forward_by, inverse_by}
use Rattle.chain.specs.Convert.{at, walk, forward_of, inverse_of}
use Rattle.theorems.specs.RoundTrip.{inexact, inexact_steps}
use Rattle.theorems.specs.MarksApart.{Beyond, MarksApart}
use Rattle.chain.proofs.Within.{area_small}
use Rattle.chain.proofs.StepLaws.{Off, Milds, Flats, off-le, off_self}
use Rattle.theorems.proofs.Apart.{Spreads, spread, small-off, forward-spreads, inverse-spreads, forward-keeps, inverse-keeps}
use Rattle.chain.proofs.Sizes.{kind-mild, shift-flat, velocity-flat}
use Rattle.chain.proofs.Walk.{walk_none, walk_step}
use Rattle.chain.proofs.Accepted.{Sound}
use Rattle.chain.proofs.Ends.{forward-went, inverse-went}
use Rattle.theorems.proofs.RoundTrip.{eight}

-- ---- one step, by either way over its parts
-- a way over a step: with parts that are mild it spreads, and with flat ones it keeps every distance
record Way (f : Parts → Position → Position) : Type 0 where
  spreads : (t : Parts) → Milds t → Spreads (f t)
  keeps : (t : Parts) → Flats t → (p q : Position) (m : ℕ) → Off m (f t p) (f t q) → Off (m + 0) p q

by-forward : Way forward_by
by-forward = record { spreads = forward-spreads; keeps = forward-keeps }

by-inverse : Way inverse_by
by-inverse = record { spreads = inverse-spreads; keeps = inverse-keeps }

wide : (p q : Position) → in_area p ≡ true → in_area q ≡ true → Off 1280000000000 p q
wide p q h l = small-off p q (area_small p h) (area_small q l)

module _ (f : Parts → Position → Position) (way : Way f) (r a : Realization) (p q : Position) (m : ℕ) (h : in_area p ≡ true) (l : in_area q ≡ true) where
  turned : (kind : Kind) → KindOk kind r a → m + 1 ≤ 8 → Off m (f (kind_parts kind r a) p) (f (kind_parts kind r a) q) → Off (m + 1) p q
  turned kind ok n o = spread (f (kind_parts kind r a)) (way.spreads (kind_parts kind r a) (kind-mild kind r a ok)) p q m (wide p q h l) (omega arith) o

  kind-apart :
      (kind : Kind) → KindOk kind r a → m + inexact kind ≤ 8 → Off m (f (kind_parts kind r a) p) (f (kind_parts kind r a) q) → Off (m + inexact kind) p q
  kind-apart (Shift t) ok n o = way.keeps (kind_parts (Shift t) r a) (shift-flat t r a) p q m o
  kind-apart (Velocity t) ok n o = way.keeps (kind_parts (Velocity t) r a) (velocity-flat t r a) p q m o
  kind-apart (BursaWolf t) ok n o = turned (BursaWolf t) ok n o
  kind-apart Frame ok n o = turned Frame ok n o

-- ---- the steps of a walk, in the order that it takes them
abbrev over : (Parts → Position → Position) → Step → Position → Position
over f s = f (kind_parts s.kind s.before s.after)

-- where two walks end m apart, they began at most m and one for each inexact step apart
walk-apart :
    (f : Parts → Position → Position) → Way f → (ss : List Step) → Sound ss → (p q p' q' : Position) (m : ℕ) → m + inexact_steps ss ≤ 8 →
    in_area p ≡ true → in_area q ≡ true → walk (over f) ss p ≡ at p' → walk (over f) ss q ≡ at q' → Off m p' q' → Off (m + inexact_steps ss) p q
walk-apart f way [] ok p q p' q' m l hp hq e e' o =
    off-le (omega arith)
    (subst (λ (x : Position). Off m x q) (sym (walk_none (over f) p p' e)) (subst (λ (x : Position). Off m p' x) (sym (walk_none (over f) q q' e')) o))
walk-apart f way (s ∷ ss) ok p q p' q' m l hp hq e e' o =
    let t = walk_step (over f) s ss p p' e in
    let u = walk_step (over f) s ss q q' e' in
    let i = walk-apart f way ss ok.1 (over f s p) (over f s q) p' q' m (omega arith) t.0 u.0 t.1 u.1 o in
    off-le (omega arith) (kind-apart f way s.before s.after p q (m + inexact_steps ss) hp hq s.kind ok.0 (omega arith) i)

-- ---- the steps of the inverse are the chain's in the other order
turned_round : (s : Step) (ss : List Step) → reverse (s ∷ ss) ≡ reverse ss ++ (s ∷ [])
turned_round s ss = reverse_aux-eq ss (s ∷ [])

sound-last : (ss : List Step) (s : Step) → Sound ss → StepOk s → Sound (ss ++ (s ∷ []))
sound-last [] s ok e = (e, tt)
sound-last (t ∷ ss) s ok e = (ok.0, sound-last ss s ok.1 e)

sound-reverse : (ss : List Step) → Sound ss → Sound (reverse ss)
sound-reverse [] ok = tt
sound-reverse (s ∷ ss) ok = subst Sound (sym (turned_round s ss)) (sound-last (reverse ss) s (sound-reverse ss ok.1) ok.0)

count-last : (ss : List Step) (s : Step) → inexact_steps (ss ++ (s ∷ [])) ≡ inexact_steps ss + inexact s.kind
count-last [] s = omega arith
count-last (t ∷ ss) s = omega (arith, count-last ss s)

count-reverse : (ss : List Step) → inexact_steps (reverse ss) ≡ inexact_steps ss
count-reverse [] = refl
count-reverse (s ∷ ss) =
    let h = count-reverse ss in
    let rest : inexact_steps (reverse ss) + inexact s.kind ≡ inexact s.kind + inexact_steps ss = omega arith in
    ap inexact_steps (turned_round s ss) ∙ count-last (reverse ss) s ∙ rest

-- ---- the claim
-- points at most n apart on every axis are not more than n apart on one
not_beyond : (n : ℕ) (p q : Point) → Beyond n p q → Off n p.position q.position → ⊥
not_beyond n p q b o = omega (arith, b.far, o.on b.axis)

same-off : {p q : Position} → p ≡ q → Off 0 p q
same-off {p} e = subst (λ (x : Position). Off 0 p x) e (off_self p)

pub marks-apart : MarksApart
marks-apart c p q p' q' b = (forth, back)
  where
    forth : forward_of c p ≡ Ok p' → forward_of c q ≡ Ok q' → p'.position ≡ q'.position → ⊥
    forth e f s =
        let ss = steps_of c in
        let a = forward-went c p p' e in
        let d = forward-went c q q' f in
        not_beyond (inexact_steps ss) p q b
        (off-le (omega arith) (walk-apart forward_by by-forward ss a.accept.sound p.position q.position p'.position q'.position 0
        (eight c a.accept.short) a.accept.area d.accept.area a.ended d.ended (same-off s)))

    back : inverse_of c p ≡ Ok p' → inverse_of c q ≡ Ok q' → p'.position ≡ q'.position → ⊥
    back e f s =
        let ss = steps_of c in
        let a = inverse-went c p p' e in
        let d = inverse-went c q q' f in
        let n = count-reverse ss in
        not_beyond (inexact_steps ss) p q b
        (off-le (omega (arith, n)) (walk-apart inverse_by by-inverse (reverse ss) (sound-reverse ss a.accept.sound) p.position q.position p'.position q'.position 0
        (omega (arith, n, eight c a.accept.short)) a.accept.area d.accept.area a.ended d.ended (same-off s)))
