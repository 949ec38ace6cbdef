-- A step, steps and what belongs to them, either way: forward, or inverse.
use Rattle.std.specs.Prelude.{◌≡◌, ℕ, zero, suc, ◌+◌, ◌-◌, ◌<◌, List, ◌∷◌, reverse, length, drop}
use Rattle.chain.specs.declared.Position.{Position}
use Rattle.chain.specs.declared.Direction.{Direction}
use Rattle.chain.specs.declared.Direction.TheVariants.{Forward, Inverse}
use Rattle.chain.specs.Parts.{Parts, gain, forward_by, inverse_by, again}
use Rattle.chain.specs.Axes.{Small}

-- one thing forward, another inverse
abbrev pub either : {A : Type 0} → Direction → A → A → A
either Forward a b = a
either Inverse a b = b

abbrev pub by_way : Direction → Parts → Position → Position
by_way Forward = forward_by
by_way Inverse = inverse_by

-- so many turns of the inverse, from q on
abbrev pub turns : Parts → Position → ℕ → Position
turns t q zero = q
turns t q (suc n) = again t q (turns t q n)

-- either way, the inverse by so many turns for its three
abbrev pub by_turns : Direction → ℕ → Parts → Position → Position
by_turns Forward n t p = forward_by t p
by_turns Inverse n t p = turns t p n

-- the order in which steps are gone by
abbrev pub in_order : {A : Type 0} → Direction → List A → List A
in_order Forward l = l
in_order Inverse l = reverse l

-- where the one stands that is gone by after so many others
abbrev pub place : Direction → ℕ → ℕ → ℕ
place Forward n gone = gone
place Inverse n gone = n - 1 - gone

-- a function of indices gives what stands there
abbrev pub StandsAt : {A : Type 0} → List A → (ℕ → A → Type 0) → Type 0
StandsAt l post = (i : ℕ) (x : _) → i < length l → post i x → drop i l ≡ x ∷ drop (i + 1) l

-- a function of positions gives what a step gains
abbrev pub GainsBy : Parts → (Position → Position → Type 0) → Type 0
GainsBy t post = (c g : Position) → Small 650000000000 c → post c g → g ≡ gain t c
