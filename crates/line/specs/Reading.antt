-- How the code walks along a line: a reader is handed the place where a field begins, and tells the place where the next one begins.
use Rattle.std.specs.Prelude.{◌≡◌, ℕ, Result, Ok, Err, zero, suc, ◌+◌, ◌*◌, ◌/◌, ◌%◌, ◌^◌, ◌<◌, ◌≤◌, min, true, false, List, [], ◌∷◌, length, take, drop, ℤ, pos, negsuc, neg_ℤ, bit_and, nat_le, slice_index, FitsSigned}
use Rattle.std.proofs.Math.Option.{Option, none, some}
use Rattle.std.specs.Borrow.{Bor}
use Rattle.refusal.specs.Numbers as refusal
use Rattle.refusal.specs.Order.{pick}
use Rattle.chain.specs.declared.Point.{Point}
use Rattle.chain.specs.declared.Kind.{Kind}
use Rattle.chain.specs.declared.Step.{Step}
use Rattle.chain.specs.Carried.{carried_point, carried_kind, carried_step}
use Rattle.angle.specs.declared.OriginNumbers.{OriginNumbers}
use Rattle.angle.specs.Carried.{carried_origin}
use Rattle.line.specs.declared.Geodetic.{Geodetic}
use Rattle.line.specs.declared.GridHeader.{GridHeader}
use Rattle.line.specs.declared.VelocityParts.{VelocityParts}
use Rattle.std.specs.Int.{w64}
use Rattle.line.specs.declared.Fault as declared
use Rattle.line.specs.declared.form.Fields.{Fields}
use Rattle.line.specs.Answers.{Fault, fault_told}
use Rattle.line.specs.Malformed.{fault}
use Rattle.line.specs.Fields.{body, fields, front, head, Form, filled}
use Rattle.line.specs.Name.{word, all_name_bytes, is_name_byte}
use Rattle.line.specs.Bytes.{tab, zero_byte, nine_byte}
use Rattle.line.specs.Number.{digits}
use Rattle.line.specs.Text.{label_text}

-- the fields of s from place `at` on; none past the end
unfoldable pub from : List ℕ → ℕ → List (List ℕ)
from s at = pick (nat_le at (length s)) (fields (drop at s)) []

-- bytes in front of the first of the fields
unfoldable pub fronts : List ℕ → List (List ℕ) → List (List ℕ)
fronts [] fs = fs
fronts (b ∷ s) fs = front b (fronts s fs)

-- (v, next) tells o, a field as it is to be read, with the fields after it: two or more past the end where there is nothing to tell
abbrev pub Tells : {B C : Type 0} → List ℕ → (B → C) → Option (B × List (List ℕ)) → C → ℕ → Type 0
Tells s image none v next = length s + 1 < next
Tells s image (some p) v next = (v ≡ image p.0) × (next ≤ length s + 1) × (from s next ≡ p.1)

-- a record, so that its arguments are inferred from a proof of it
pub record Got {B C : Type 0} (s : List ℕ) (image : B → C) (read : List ℕ → Option B) (at : ℕ) (v : C) (next : ℕ) : Type 0 where
  pub tells : Tells s image (head read (from s at)) v next

-- (v, next) tells o, a whole line's record: one past the end where there is something to tell
abbrev pub TellsLine : {A C : Type 0} → List ℕ → (A → C) → Option A → C → ℕ → Type 0
TellsLine s image none v next = next ≡ length s + 1 → ⊥
TellsLine s image (some a) v next = (v ≡ image a) × (next ≡ length s + 1)

pub record Told {A C : Type 0} (s : List ℕ) (image : A → C) (form : Form A) (at : ℕ) (v : C) (next : ℕ) : Type 0 where
  pub tells : TellsLine s image (filled form (from s at)) v next

-- where a line's bytes before its line feed end: at the line's length where it has none
abbrev pub Framed : List ℕ → ℕ → Option (List ℕ) → Type 0
Framed line r none = length line ≤ r
Framed line r (some s) = (r < length line) × (take r line ≡ s)

-- nothing more in the field
abbrev pub empty : List ℕ → Option (Unit {0})
empty [] = some tt
empty (b ∷ f) = none

abbrev pub itself : {A : Type 0} → A → A
itself a = a

abbrev pub unit : {A : Type 0} → A → Unit {0}
unit a = tt

-- numbers are carried up to this size: no range reaches it, and what is larger is carried as it
abbrev pub cap : ℕ
cap = 10000000000000

abbrev pub capped : ℕ → ℕ
capped n = min n cap

abbrev pub capped_z : ℤ → ℤ
capped_z (pos n) = pos (capped n)
capped_z (negsuc n) = neg_ℤ (pos (capped (suc n)))

-- a number without a sign, and its size as it is carried
pub record Sized (s : List ℕ) (read : List ℕ → Option ℕ) (at v next : ℕ) : Type 0 where
  pub got : Got s capped read at v next
  pub small : v ≤ cap

-- digits after a number that is past the cap leave it there: `next` is all there is to tell
abbrev pub Long : List ℕ → ℕ → ℕ → Type 0
Long s at next = (a : ℕ) → cap ≤ a → Got s capped (digits a) at cap next

-- ---- digits several at a time

-- the k bytes from place p on are digits
pub record Digits (k : ℕ) (s : List ℕ) (p : ℕ) : Type 0 where
  pub low : (i : ℕ) → i < k → zero_byte ≤ slice_index s (p + i)
  pub high : (i : ℕ) → i < k → slice_index s (p + i) ≤ nine_byte

-- k numbers below 256 as one, the first lowest
unfoldable pub together : ℕ → (ℕ → ℕ) → ℕ
together zero f = 0
together (suc k) f = together k (λ i. f (suc i)) * 256 + f 0

abbrev pub byte_from : List ℕ → ℕ → ℕ → ℕ
byte_from s p i = slice_index s (p + i)

-- w is the eight bytes from p on
pub record Word (s : List ℕ) (p w : ℕ) : Type 0 where
  pub is : w ≡ together 8 (byte_from s p)
  pub small : (i : ℕ) → slice_index s i < 256

-- a number that has no bit of the mask, and has none with `more` added, as eight bytes hold it
pub record Clear (mask more d : ℕ) : Type 0 where
  pub plain : bit_and d mask ≡ 0
  pub raised : bit_and ((d + more) % 2 ^ 64) mask ≡ 0

-- of eight bytes the higher half of each, and 6 in each; the same of seven, with the whole of the eighth, and nothing in it
abbrev pub higher_halves : ℕ
higher_halves = 17361641481138401520

abbrev pub sixes : ℕ
sixes = 434041037028460038

abbrev pub seven_halves_and_byte : ℕ
seven_halves_and_byte = 18442505391707320560

abbrev pub seven_sixes : ℕ
seven_sixes = 1695472800892422

-- 9 in each of eight bytes
abbrev pub nines : ℕ
nines = 651061555542690057

-- eight digits, each in a byte: each first of two with the second as a number of up to 99, in two bytes, and two of these as one of up to 9999
unfoldable pub pair_sums : ℕ → ℕ
pair_sums d = bit_and (d * 10 + d / 256) 71777214294589695

unfoldable pub four_sums : ℕ → ℕ
four_sums d = pair_sums d * 100 + pair_sums d / 65536

-- of these the number of the first four digits, and that of the last
abbrev pub first_four : ℕ → ℕ
first_four d = four_sums d % 65536

abbrev pub last_four : ℕ → ℕ
last_four d = four_sums d / 4294967296 % 65536

abbrev pub eight_of : ℕ → ℕ
eight_of d = first_four d * 10000 + last_four d

-- the first seven of eight digits, after a 0
abbrev pub seven_after_zero : ℕ → ℕ
seven_after_zero d = d % 72057594037927936 * 256

-- a field of k digits from place p on: a tab comes after it, or the line's end
pub record Alone (k : ℕ) (s : List ℕ) (p : ℕ) : Type 0 where
  pub inside : p + k ≤ length s
  pub ends : p + k < length s → slice_index s (p + k) ≡ tab
  pub digits : Digits k s p

-- the byte at p is not the digit 0
abbrev pub Led : List ℕ → ℕ → Type 0
Led s p = slice_index s p ≡ zero_byte → ⊥

-- what the digits from p on, after a, are told as is told of those from q on, after b
abbrev pub Onto : List ℕ → ℕ → ℕ → ℕ → ℕ → Type 0
Onto s p a q b = (v next : ℕ) → Got s capped (digits b) q v next → Got s capped (digits a) p v next

-- the k bytes from p on say v, where `scale` is ten to the k
pub record Say (k scale : ℕ) (s : List ℕ) (p v : ℕ) : Type 0 where
  pub less : v < scale
  pub says : (a : ℕ) → Onto s p a (p + k) (a * scale + v)

-- they are digits, the first of them no 0, and say v
pub record Counted (k scale : ℕ) (s : List ℕ) (p v : ℕ) : Type 0 where
  pub digits : Digits k s p
  pub led : Led s p
  pub some : 0 < v
  pub says : Say k scale s p v

pub record Carried (s : List ℕ) (p a q b : ℕ) : Type 0 where
  pub same : Onto s p a q b
  pub small : b < 1000000000

-- the same of the fields from place `at` on, which may itself be the place after a bad field
pub record Tail {A C : Type 0} (s : List ℕ) (image : A → C) (form : Form A) (at : ℕ) (v : C) (next : ℕ) : Type 0 where
  pub told : at ≤ length s + 1 → Told s image form at v next
  pub lost : length s + 1 < at → length s + 1 < next

-- the value of a byte with k - 1 bytes after it
abbrev pub scale_of : ℕ → ℕ
scale_of zero = 0
scale_of (suc k) = 256 ^ k

-- bytes of a name from place `at` on: these, which have the word v, with room in it for `left` bytes more
pub record Run (s : List ℕ) (at v left next : ℕ) : Type 0 where
  pub bytes : List ℕ
  pub there : from s at ≡ fronts bytes (from s next)
  pub place : next ≡ at + length bytes
  pub inside : at < next → next ≤ length s
  pub count : length bytes + left ≡ 8
  pub good : all_name_bytes bytes ≡ true
  pub begun : at < next → is_name_byte (slice_index s at) ≡ true
  pub value : v ≡ word 8 bytes
  pub room : v + 256 ^ left ≤ 256 ^ 8

-- all of them: none after them could be one more of the eight
pub record Packed (s : List ℕ) (at v next : ℕ) : Type 0 where
  pub left : ℕ
  pub run : Run s at v left next
  pub last : 0 < left → is_name_byte (slice_index s next) ≡ false

-- ---- records with their numbers as they are carried
abbrev pub capped_point : Point → Point
capped_point = carried_point capped_z

-- a point, and how long its label is written: its datum begins there
abbrev pub capped_placed : Point → Point × ℕ
capped_placed p = (capped_point p, length (label_text p.label))

abbrev pub capped_kind : Kind → Kind
capped_kind = carried_kind capped_z

abbrev pub capped_step : Step → Step
capped_step = carried_step capped_z

abbrev pub capped_origin : OriginNumbers → OriginNumbers
capped_origin = carried_origin capped_z

abbrev pub capped_geodetic : Geodetic → Geodetic
capped_geodetic g = record { id = g.id; latitude = capped_z g.latitude; longitude = capped_z g.longitude }

abbrev pub capped_header : GridHeader → GridHeader
capped_header g =
    record {
      latitude = capped_z g.latitude;
      longitude = capped_z g.longitude;
      rows = capped_z g.rows;
      columns = capped_z g.columns;
      mesh = capped_z g.mesh;
    }

abbrev pub capped_parts : VelocityParts → VelocityParts
capped_parts p = record { east = capped_z p.east; north = capped_z p.north; up = capped_z p.up }

-- ---- a whole line
-- a line's bytes before its line feed, as the code hands them on: where it has none, it is refused for its length (18)
abbrev pub Bodied : Option (List ℕ) → ℕ → Result (Bor (List ℕ)) declared.Fault → Type 0
Bodied none end (Ok b) = ⊥
Bodied none end (Err f) = fault_told f ≡ fault refusal.length end
Bodied (some s) end (Ok b) = b.now ≡ s
Bodied (some s) end (Err f) = ⊥

-- what a line says, by what its bytes before the line feed say
abbrev pub in_line : {A : Type 0} → (List ℕ → Option A) → Option (List ℕ) → Option A
in_line says none = none
in_line says (some s) = says s

-- a record, or what is wrong with its line
abbrev pub form_as : {A : Type 0} → Fault → Option A → Result A Fault
form_as wrong none = Err wrong
form_as wrong (some a) = Ok a

-- a reader that tells the fields of every body, and a line of which nothing is told, with which something is wrong
abbrev pub TellsFields : {A : Type 0} → (Bor (List ℕ) → Fields A → Type 0) → (List ℕ → Option A) → Type 0
TellsFields post says = (s : Bor (List ℕ)) (r : _) → post s r → TellsLine s.now itself (says s.now) r.record r.next

abbrev pub WrongUnsaid : {A : Type 0} → (List ℕ → Option A) → List ℕ → Fault → Type 0
WrongUnsaid says line f = in_line says (body line) ≡ none → 0 < f.number

-- ---- a record of three numbers or five, as the code makes it, and as it is carried
abbrev pub MakesThree : {A : Type 0} → (ℤ → ℤ → ℤ → A → Type 0) → (ℤ → ℤ → ℤ → A) → Type 0
MakesThree {A} post of = (x y z : ℤ) (r : A) → FitsSigned w64 x → FitsSigned w64 y → FitsSigned w64 z → post x y z r → r ≡ of x y z

abbrev pub CarriesThree : {A : Type 0} → (A → A) → (ℤ → ℤ → ℤ → A) → Type 0
CarriesThree image of = (x y z : ℤ) → of (capped_z x) (capped_z y) (capped_z z) ≡ image (of x y z)

abbrev pub MakesFive : {A : Type 0} → (ℤ → ℤ → ℤ → ℤ → ℤ → A → Type 0) → (ℤ → ℤ → ℤ → ℤ → ℤ → A) → Type 0
MakesFive {A} post of =
    (v w x y z : ℤ) (r : A) → FitsSigned w64 v → FitsSigned w64 w → FitsSigned w64 x → FitsSigned w64 y → FitsSigned w64 z → post v w x y z r → r ≡ of v w x y z

abbrev pub CarriesFive : {A : Type 0} → (A → A) → (ℤ → ℤ → ℤ → ℤ → ℤ → A) → Type 0
CarriesFive image of = (v w x y z : ℤ) → of (capped_z v) (capped_z w) (capped_z x) (capped_z y) (capped_z z) ≡ image (of v w x y z)
