-- Laws of a refusal's number: it is never 0, so an examination that ends with it has found a fault.
use mathlib.Core.Path.{◌≡◌, sym}
use Prim.Native.Nat.{ℕ, ◌<◌}
use native.Mathlib.Omega.{arith}
use Rattle.refusal.specs.Order.{unless}
use Rattle.refusal.specs.Refusals.{number}
use Rattle.refusal.specs.declared.Refusal.{Refusal}
use Rattle.refusal.specs.declared.Refusal.TheVariants as refusal
use Rattle.refusal.proofs.Orders.{unless-some}

pub above-none : (e : Refusal) → 0 < number e
above-none refusal.Range = omega arith
above-none refusal.Epoch = omega arith
above-none refusal.Kind = omega arith
above-none refusal.Join = omega arith
above-none refusal.Ninth = omega arith
above-none refusal.Misplaced = omega arith
above-none refusal.Earlier = omega arith
above-none refusal.Start = omega arith
above-none refusal.Area = omega arith
above-none refusal.Left = omega arith
above-none refusal.Geodetic = omega arith
above-none refusal.Apart = omega arith
above-none refusal.Size = omega arith
above-none refusal.Long = omega arith
above-none refusal.Ids = omega arith
above-none refusal.Same = omega arith
above-none refusal.Length = omega arith
above-none refusal.Letter = omega arith
above-none refusal.Count = omega arith
above-none refusal.Id = omega arith
above-none refusal.Plain = omega arith
above-none refusal.Plane = omega arith
above-none refusal.OffGrid = omega arith
above-none refusal.Profile = omega arith
above-none refusal.Row = omega arith
above-none refusal.Buffer = omega arith
above-none refusal.Limit = omega arith
above-none refusal.State = omega arith
above-none refusal.Lines = omega arith

pub short-number : (e : Refusal) → number e < 100
short-number refusal.Range = omega arith
short-number refusal.Epoch = omega arith
short-number refusal.Kind = omega arith
short-number refusal.Join = omega arith
short-number refusal.Ninth = omega arith
short-number refusal.Misplaced = omega arith
short-number refusal.Earlier = omega arith
short-number refusal.Start = omega arith
short-number refusal.Area = omega arith
short-number refusal.Left = omega arith
short-number refusal.Geodetic = omega arith
short-number refusal.Apart = omega arith
short-number refusal.Size = omega arith
short-number refusal.Long = omega arith
short-number refusal.Ids = omega arith
short-number refusal.Same = omega arith
short-number refusal.Length = omega arith
short-number refusal.Letter = omega arith
short-number refusal.Count = omega arith
short-number refusal.Id = omega arith
short-number refusal.Plain = omega arith
short-number refusal.Plane = omega arith
short-number refusal.OffGrid = omega arith
short-number refusal.Profile = omega arith
short-number refusal.Row = omega arith
short-number refusal.Buffer = omega arith
short-number refusal.Limit = omega arith
short-number refusal.State = omega arith
short-number refusal.Lines = omega arith

pub not-none : (e : Refusal) → number e ≡ 0 → ⊥
not-none e h = let k = above-none e in omega arith

-- an answer that a fault refuses
pub unless-number : {A : Type 0} (e : Refusal) (n : ℕ) (r : ℕ → A) (a : A) → number e ≡ n → unless n r a ≡ r (number e)
unless-number e n r a h = rw (sym h) (unless-some (number e) r a (not-none e))
