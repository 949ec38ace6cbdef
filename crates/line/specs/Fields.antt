-- A line is fields parted by one tab, and a line feed at the end. A form is a list of fields, in their order, and the record that they make.
use Rattle.std.specs.Prelude.{ℕ, ◌-◌, Bool, true, false, List, [], ◌∷◌, length, take, ◌==◌, nat_le, nat_lt, slice_index}
use Rattle.std.proofs.Math.Option.{Option, none, some}
use Rattle.refusal.specs.Order.{pick}
use Rattle.line.specs.Bytes.{tab, line_feed}

-- a line has at most so many bytes, with the line feed
abbrev pub longest_line : ℕ
longest_line = 200

-- a line's bytes before its line feed; nothing where it has none at its end, or is too long
unfoldable pub body : List ℕ → Option (List ℕ)
body line =
    pick (nat_lt 0 (length line))
    (pick (nat_le (length line) longest_line) (pick (slice_index line (length line - 1) == line_feed) (some (take (length line - 1) line)) none) none)
    none

-- a byte in front of the first of some pieces (fields here, lines of an input elsewhere)
abbrev pub front : ℕ → List (List ℕ) → List (List ℕ)
front b [] = (b ∷ []) ∷ []
front b (f ∷ fs) = (b ∷ f) ∷ fs

-- what stands between the tabs: one field more than there are tabs
unfoldable pub fields : List ℕ → List (List ℕ)
fields [] = [] ∷ []
fields (b ∷ s) = pick (b == tab) ([] ∷ fields s) (front b (fields s))

-- the fields of a line, in their order: how each is read, and what follows it, which a kind of step decides
pub data Form (A : Type 0) : Type 1 where
  ends : A → Form A
  field : {B : Type 0} → (List ℕ → Option B) → (B → Form A) → Form A

abbrev pub either : {A : Type 0} → Bool → Form A → Form A → Form A
either true a b = a
either false a b = b

-- the same fields, for a record that holds theirs
unfoldable pub into : {A B : Type 0} → (A → B) → Form A → Form B
into f (ends a) = ends (f a)
into f (field read k) = field read (λ b. into f (k b))

-- the first of the fields as it is read, with the fields after it
abbrev pub taken : {B : Type 0} → Option B → List (List ℕ) → Option (B × List (List ℕ))
taken none fs = none
taken (some b) fs = some (b, fs)

abbrev pub head : {B : Type 0} → (List ℕ → Option B) → List (List ℕ) → Option (B × List (List ℕ))
head read [] = none
head read (f ∷ fs) = taken (read f) fs

abbrev pub onward : {A B : Type 0} → Option (B × List (List ℕ)) → (B → List (List ℕ) → Option A) → Option A
onward none k = none
onward (some p) k = k p.0 p.1

-- what fields say: all of the form's, and no more
unfoldable pub filled : {A : Type 0} → Form A → List (List ℕ) → Option A
filled (ends a) [] = some a
filled (ends a) (f ∷ fs) = none
filled (field read k) fs = onward (head read fs) (λ b rest. filled (k b) rest)

abbrev pub in_body : {A : Type 0} → Form A → Option (List ℕ) → Option A
in_body form none = none
in_body form (some s) = filled form (fields s)

-- what a line says
abbrev pub said : {A : Type 0} → Form A → List ℕ → Option A
said form line = in_body form (body line)

-- a field of one byte
abbrev pub single : List ℕ → Option ℕ
single [] = none
single (b ∷ []) = some b
single (b ∷ c ∷ s) = none

-- one byte out of these
abbrev pub one_of : List ℕ → Option ℕ → Option ℕ
one_of ls none = none
one_of [] (some b) = none
one_of (l ∷ ls) (some b) = pick (b == l) (some b) (one_of ls (some b))

abbrev pub letter_of : List ℕ → List ℕ → Option ℕ
letter_of ls f = one_of ls (single f)

-- a field that is this one letter
abbrev pub letter : ℕ → List ℕ → Option ℕ
letter l = letter_of (l ∷ [])
