-- The statements of specs/Joins.antt, from the laws of crate chain. Assumes nothing.
use Rattle.std.specs.Prelude.{Ok, Err}
use mathlib.Core.Path.{◌≡◌, refl, sym, ◌∙◌, ap}
use mathlib.Core.List.{List, ◌++◌, append-nil}
use native.Mathlib.Omega.{arith}
use lib.ListN.{length, length-take}
use Rattle.chain.specs.declared.Point.{Point}
use Rattle.chain.specs.declared.Step.{Step}
use Rattle.chain.specs.declared.Chain.{Chain}
use Rattle.chain.specs.Faults.{steps_of}
use Rattle.chain.specs.Convert.{Answer, forward_of, inverse_of}
use Rattle.chain.specs.Join.{meet, joined_of, join_of}
use Rattle.chain.proofs.Joins.{Joinable, accepted, accepts, is-joined}
use Rattle.chain.proofs.Meeting.{none-meet}
use Rattle.chain.proofs.JoinedLaws.{joined-steps, few-steps, one-chain, one-length, rightward, leftward}
use Rattle.chain.proofs.Legs.{Legs, forward-legs, inverse-legs}
use Rattle.theorems.specs.Joins.{onward, Empty, Same, JoinsTo, Rightward, Leftward, ToTheRight, ToTheLeft, Good, Joins}

-- ---- converting: one leg and then the other
by-legs : {whole : Answer} (leg : Answer) {second : Point → Answer} → Legs whole leg second → whole ≡ onward leg second
by-legs (Ok q) l = l.converted q refl
by-legs (Err n) l = l.refused n refl

-- ---- an empty chain
all-steps : (c : Chain) → Good c → length (steps_of c) ≡ c.length
all-steps c g = omega (arith, g.enough, length-take c.length c.steps)

joins-to : (c d j : Chain) → Joinable c d → Same (joined_of c d) j → JoinsTo c d j
joins-to c d j p same = record { joined = joined_of c d; accepted = accepts c d p; same = same }

empty-first : (e c : Chain) → Good e → Empty e → Good c → e.profile ≡ c.profile → JoinsTo e c c
empty-first e c ge none gc like =
    joins-to e c c
    (record {
      good = ge.tests;
      other = gc.tests;
      meets = ap (λ (l : List Step). meet l (steps_of c)) none ∙ none-meet (steps_of c);
      few = omega (arith, ap length none, few-steps c gc.tests);
      like = like;
    })
    (record {
      profile = like;
      length = omega (arith, ap length none, all-steps c gc);
      steps = joined-steps e c ∙ ap (λ (l : List Step). l ++ steps_of c) none;
    })

empty-second : (c e : Chain) → Good c → Good e → Empty e → c.profile ≡ e.profile → JoinsTo c e c
empty-second c e gc ge none like =
    joins-to c e c
    (record {
      good = gc.tests;
      other = ge.tests;
      meets = ap (meet (steps_of c)) none;
      few = omega (arith, ap length none, few-steps c gc.tests);
      like = like;
    })
    (record {
      profile = refl;
      length = omega (arith, ap length none, all-steps c gc);
      steps = joined-steps c e ∙ ap (λ (l : List Step). steps_of c ++ l) none ∙ append-nil (steps_of c);
    })

-- ---- three chains
right-by : (a b c : Chain) → Joinable a b → Joinable (joined_of a b) c → Rightward a b c (joined_of (joined_of a b) c)
right-by a b c p q =
    let w = rightward a b c p q in
    record {
      inner = joined_of b c;
      accepted = accepts b c w.0;
      outer = joins-to a (joined_of b c) (joined_of (joined_of a b) c) w.1 (record { profile = refl; length = one-length a b c; steps = one-chain a b c });
    }

to-the-right : ToTheRight
to-the-right a b c ab j e f =
    let q = rw (← is-joined a b ab e) at f in
    rw (← is-joined (joined_of a b) c j q) (right-by a b c (accepted a b ab e) (accepted (joined_of a b) c j q))

left-by : (a b c : Chain) → Joinable b c → Joinable a (joined_of b c) → Leftward a b c (joined_of a (joined_of b c))
left-by a b c p q =
    let w = leftward a b c p q in
    record {
      inner = joined_of a b;
      accepted = accepts a b w.0;
      outer = joins-to (joined_of a b) c (joined_of a (joined_of b c)) w.1 (record { profile = refl; length = sym (one-length a b c); steps = sym (one-chain a b c) });
    }

to-the-left : ToTheLeft
to-the-left a b c bc j e f =
    let q = rw (← is-joined b c bc e) at f in
    rw (← is-joined a (joined_of b c) j q) (left-by a b c (accepted b c bc e) (accepted a (joined_of b c) j q))

pub joins-hold : Joins
joins-hold = record {
  forward = λ c d j e m n p. rw (← is-joined c d j e) (by-legs (forward_of c p) (forward-legs c d (accepted c d j e) m n p));
  inverse = λ c d j e m n p. rw (← is-joined c d j e) (by-legs (inverse_of d p) (inverse-legs c d (accepted c d j e) m n p));
  right = to-the-right;
  left = to-the-left;
  before = empty-first;
  after = empty-second;
}
