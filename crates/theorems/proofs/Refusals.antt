-- The statements of specs/Refusals.antt: a number gives back the refusal that it is of.
use Rattle.std.specs.Prelude.{Result, Ok, Err, Option, Some, None}
use mathlib.Core.Path.{◌≡◌, refl, sym, ◌∙◌, ap}
use mathlib.Core.List.{List, [], ◌∷◌}
use Prim.Native.Nat.{ℕ}
use lib.ListN.{get_or}
use Rattle.refusal.specs.Refusals.{number, told, fault_number}
use Rattle.refusal.specs.declared.Refusal.{Refusal}
use Rattle.refusal.specs.declared.Refusal.TheVariants as refusal
use Rattle.refusal.proofs.Refusals.{not-none}
use Rattle.theorems.specs.Refusals.{RefusalLaws}

-- by their numbers, from 0 on
table : List (Option Refusal)
table =
    None
    ∷ None
    ∷ Some refusal.Range
    ∷ Some refusal.Epoch
    ∷ Some refusal.Kind
    ∷ Some refusal.Join
    ∷ Some refusal.Ninth
    ∷ Some refusal.Misplaced
    ∷ Some refusal.Earlier
    ∷ Some refusal.Start
    ∷ Some refusal.Area
    ∷ Some refusal.Left
    ∷ Some refusal.Geodetic
    ∷ Some refusal.Apart
    ∷ Some refusal.Size
    ∷ Some refusal.Long
    ∷ Some refusal.Ids
    ∷ Some refusal.Same
    ∷ Some refusal.Length
    ∷ Some refusal.Letter
    ∷ Some refusal.Count
    ∷ Some refusal.Id
    ∷ Some refusal.Plain
    ∷ Some refusal.Plane
    ∷ Some refusal.OffGrid
    ∷ Some refusal.Profile
    ∷ Some refusal.Row
    ∷ Some refusal.Buffer
    ∷ Some refusal.Limit
    ∷ Some refusal.State
    ∷ Some refusal.Lines
    ∷ []

abbrev named : ℕ → Option Refusal
named n = get_or table n None

named-back : (e : Refusal) → named (number e) ≡ Some e
unfolding table
named-back refusal.Range = refl
named-back refusal.Epoch = refl
named-back refusal.Kind = refl
named-back refusal.Join = refl
named-back refusal.Ninth = refl
named-back refusal.Misplaced = refl
named-back refusal.Earlier = refl
named-back refusal.Start = refl
named-back refusal.Area = refl
named-back refusal.Left = refl
named-back refusal.Geodetic = refl
named-back refusal.Apart = refl
named-back refusal.Size = refl
named-back refusal.Long = refl
named-back refusal.Ids = refl
named-back refusal.Same = refl
named-back refusal.Length = refl
named-back refusal.Letter = refl
named-back refusal.Count = refl
named-back refusal.Id = refl
named-back refusal.Plain = refl
named-back refusal.Plane = refl
named-back refusal.OffGrid = refl
named-back refusal.Profile = refl
named-back refusal.Row = refl
named-back refusal.Buffer = refl
named-back refusal.Limit = refl
named-back refusal.State = refl
named-back refusal.Lines = refl

same : (a b : Refusal) → number a ≡ number b → a ≡ b
same a b e = let s : Some a ≡ Some b = sym (named-back a) ∙ ap named e ∙ named-back b in cc

same-answer : {T : Type 0} (r s : Result T Refusal) → told r ≡ told s → r ≡ s
same-answer (Ok x) (Ok y) e = let s : x ≡ y = cc in ap Ok s
same-answer (Ok x) (Err b) e = absurd cc
same-answer (Err a) (Ok y) e = absurd cc
same-answer (Err a) (Err b) e = let n : number a ≡ number b = cc in ap Err (same a b n)

same-fault : (r s : Result Unit Refusal) → fault_number r ≡ fault_number s → r ≡ s
same-fault (Ok x) (Ok y) e = refl
same-fault (Ok x) (Err b) e = absurd (not-none b (sym e))
same-fault (Err a) (Ok y) e = absurd (not-none a e)
same-fault (Err a) (Err b) e = ap Err (same a b e)

pub refusals : RefusalLaws
refusals = record { numbers = same; answers = same-answer; faults = same-fault }
