-- What is promised of joined chains (request A12): converting by the joined chain is converting by the first and then by the second, refusals included; going
-- back along it is back along the second and then the first; how three chains are bracketed does not matter; and an empty chain changes nothing.
use Rattle.std.specs.Prelude.{◌≡◌, List, [], ◌≤◌, length, Ok, Err}
use Rattle.refusal.specs.Order.{first}
use Rattle.chain.specs.declared.Point.{Point}
use Rattle.chain.specs.declared.Step.{Step}
use Rattle.chain.specs.declared.Chain.{Chain}
use Rattle.chain.specs.Faults.{chain_tests, steps_of}
use Rattle.chain.specs.Convert.{Answer, forward_of, inverse_of}
use Rattle.chain.specs.Join.{join_of}

-- ---- converting
-- what a conversion answers, handed on to another; a refusal stays
abbrev pub onward : Answer → (Point → Answer) → Answer
onward (Ok q) convert = convert q
onward (Err n) convert = Err n

-- no step within its length
abbrev pub Empty : Chain → Type 0
Empty c = steps_of c ≡ []

-- c and d are good, join, have at most eight steps together and one profile, as join_of says by giving a chain; neither is empty
abbrev pub JoinedForward : Type 0
JoinedForward =
    (c d j : Chain) → join_of c d ≡ Ok j → (Empty c → ⊥) → (Empty d → ⊥) → (p : Point) → forward_of j p ≡ onward (forward_of c p) (forward_of d)

abbrev pub JoinedInverse : Type 0
JoinedInverse =
    (c d j : Chain) → join_of c d ≡ Ok j → (Empty c → ⊥) → (Empty d → ⊥) → (p : Point) → inverse_of j p ≡ onward (inverse_of d p) (inverse_of c)

-- ---- the same chain: its profile, its length and the steps within it
pub record Same (c d : Chain) : Type 0 where
  pub profile : c.profile ≡ d.profile
  pub length : c.length ≡ d.length
  pub steps : steps_of c ≡ steps_of d

-- c and d are joined, to the same chain as j
pub record JoinsTo (c d j : Chain) : Type 0 where
  pub joined : Chain
  pub accepted : join_of c d ≡ Ok joined
  pub same : Same joined j

-- ---- three chains: where one way of bracketing them is accepted, so is the other, with the same chain
-- b and c are joined, and a to what they give, to the same chain as j
pub record Rightward (a b c j : Chain) : Type 0 where
  pub inner : Chain
  pub accepted : join_of b c ≡ Ok inner
  pub outer : JoinsTo a inner j

abbrev pub ToTheRight : Type 0
ToTheRight = (a b c ab j : Chain) → join_of a b ≡ Ok ab → join_of ab c ≡ Ok j → Rightward a b c j

-- a and b are joined, and what they give to c, to the same chain as j
pub record Leftward (a b c j : Chain) : Type 0 where
  pub inner : Chain
  pub accepted : join_of a b ≡ Ok inner
  pub outer : JoinsTo inner c j

abbrev pub ToTheLeft : Type 0
ToTheLeft = (a b c bc j : Chain) → join_of b c ≡ Ok bc → join_of a bc ≡ Ok j → Leftward a b c j

-- ---- an empty chain of like profile, before a good chain or after it. A chain holds as many steps as its length says: those of the program hold eight
pub record Good (c : Chain) : Type 0 where
  pub tests : first (chain_tests c) ≡ 0
  pub enough : c.length ≤ length c.steps

abbrev pub EmptyFirst : Type 0
EmptyFirst = (e c : Chain) → Good e → Empty e → Good c → e.profile ≡ c.profile → JoinsTo e c c

abbrev pub EmptySecond : Type 0
EmptySecond = (c e : Chain) → Good c → Good e → Empty e → c.profile ≡ e.profile → JoinsTo c e c

pub record Joins : Type 0 where
  pub forward : JoinedForward
  pub inverse : JoinedInverse
  pub right : ToTheRight
  pub left : ToTheLeft
  pub before : EmptyFirst
  pub after : EmptySecond
