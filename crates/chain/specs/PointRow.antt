-- A row of points in one call: the whole row's refusal, and the row of answers.
use Rattle.std.specs.Prelude.{ℕ, zero, suc, List, [], ◌∷◌, ◌++◌, map, ltb, ℤ, pos, length, drop, replicate, Err}
use Rattle.refusal.specs.Numbers as refusal
use Rattle.refusal.specs.Order.{◌gives◌, first, unless}
use Rattle.chain.specs.declared.Point.{Point}
use Rattle.chain.specs.declared.Step.{Step}
use Rattle.chain.specs.declared.Chain.{Chain}
use Rattle.chain.specs.declared.ReadyChain.{ReadyChain}
use Rattle.chain.specs.declared.Direction.{Direction}
use Rattle.chain.specs.declared.Direction.TheVariants.{Forward, Inverse}
use Rattle.chain.specs.Faults.{point_fault, chain_tests, steps_of}
use Rattle.chain.specs.Convert.{Answer, forward_of, inverse_of}
use Rattle.chain.specs.Prepared.{extended_by, forward_prepared, inverse_prepared}

-- the single conversion, either way
unfoldable pub convert_of : Chain → Direction → Point → Answer
convert_of c Forward p = forward_of c p
convert_of c Inverse p = inverse_of c p

-- a row of n answers for m points: too short first, then the chain by itself
unfoldable pub row_fault : Chain → ℕ → ℕ → ℕ
row_fault c m n = first ((ltb n m gives refusal.row) ∷ chain_tests c)

abbrev pub row_fault_of : Chain → List Point → List Answer → ℕ
row_fault_of c ps rs = row_fault c (length ps) (length rs)

-- the answers where the row is not refused, and else what was there
abbrev pub unless_fault : {A : Type 0} → ℕ → A → A → A
unless_fault zero old new = new
unless_fault (suc n) old new = old

-- an answer for each point, in order; then what was there
unfoldable pub row_answers : Chain → Direction → List Point → List Answer → List Answer
row_answers c d ps rs = unless_fault (row_fault_of c ps rs) rs (map (convert_of c d) ps ++ drop (length ps) rs)

-- ---- a chain made ready for many points. What must hold of it is `ready-converts` in proofs/Readying.antt: a point by it is the single conversion by the chain
-- the prepared chain of no steps, and steps put to one, the first first
abbrev pub no_numbers : List ℤ
no_numbers = replicate 72 (pos 0)

unfoldable pub extended_all : ℤ → List ℤ → List Step → List ℤ
extended_all y l [] = l
extended_all y l (s ∷ ss) = extended_all y (extended_by y l s) ss

-- its own fault, and with none its steps
unfoldable pub ready_chain_of : Chain → ReadyChain
ready_chain_of c = record {
  refusal = first (chain_tests c);
  profile = c.profile;
  numbers = unless (first (chain_tests c)) (λ n. no_numbers) (extended_all c.profile no_numbers (steps_of c));
}

abbrev pub convert_prepared : Direction → List ℤ → Point → Answer
convert_prepared Forward l p = forward_prepared l p
convert_prepared Inverse l p = inverse_prepared l p

-- the chain's fault, then the point's own, then what the prepared chain answers
unfoldable pub convert_ready : ReadyChain → Direction → Point → Answer
convert_ready w d p = unless w.refusal Err (unless (point_fault w.profile p) Err (convert_prepared d w.numbers p))
