-- The laws of the readers. How long a line of good form is: each of its fields has a byte at least, and a tab or the line feed after it. And what a reader
-- can answer. Assumes nothing.
use Rattle.std.proofs.Common.{◌≡◌, ℕ, zero, suc, ◌+◌, ◌*◌, ◌<◌, ◌≤◌, Bool, true, false, eqb, List, [], ◌∷◌, length, ℤ, sym, refl, ap, ◌∙◌, arith, eqb-true}
use mathlib.Core.Option.{Option, none, some}
use Rattle.refusal.specs.Order.{pick}
use Rattle.chain.specs.declared.Point.{Point}
use Rattle.chain.specs.declared.Step.{Step}
use Rattle.chain.specs.Faults.{point_fault, step_fault}
use Rattle.chain.proofs.PointLaws.{point-fault-short, step-fault-short}
use Rattle.angle.specs.declared.OriginNumbers.{OriginNumbers}
use Rattle.angle.specs.Ranges.{origin_fault}
use Rattle.angle.proofs.Outcomes.{angles-fault-short, origin-fault-short}
use Rattle.line.specs.Answers.{Fault, Line, Good, Malformed, Refused}
use Rattle.std.specs.Prelude.{Some, Result, Ok, Err}
use Rattle.line.specs.declared.Geodetic.{Geodetic}
use Rattle.line.specs.declared.GridHeader.{GridHeader}
use Rattle.line.specs.declared.VelocityParts.{VelocityParts}
use Rattle.line.specs.Fields.{longest_line, body, fields, Form, ends, field, taken, onward, filled, in_body, said}
use Rattle.line.specs.Name.{name_of}
use Rattle.line.specs.Number.{number_of}
use Rattle.line.specs.Forms.{point_form, step_form, origin_form, geodetic_form, edition_form, grid_form, node_form}
use Rattle.line.specs.Reading.{capped_z, capped_header, capped_parts}
use Rattle.line.specs.Malformed.{Shape, edition_shape, unknown_shape, fault_of}
use Rattle.line.specs.Readers.{strange_fault, read_as, read_point, read_step, read_origin, geodetic_fault, read_geodetic, edition_as, read_edition, read_grid_header, hyphen_line, read_node}
use Rattle.line.proofs.Malformed.{nothing, spread, fields-spread, body-length, fault-short, fault-inside, fault-low}

-- ---- a form of n fields, none of which is read from no bytes
Asks : {A : Type 0} → ℕ → Form A → Type 0
Asks zero (ends a) = Unit {0}
Asks zero (field read k) = ⊥
Asks (suc n) (ends a) = ⊥
Asks (suc n) (field read k) = (read [] ≡ none) × ((b : _) → Asks n (k b))

byte : {B : Type 0} (read : List ℕ → Option B) (f : List ℕ) (b : B) → read [] ≡ none → read f ≡ some b → 0 < length f
byte read [] b h e = absurd (nothing (sym h ∙ e))
byte read (c ∷ f) b h e = omega arith

filled-long : {A : Type 0} (n : ℕ) (form : Form A) → Asks n form → (fs : List (List ℕ)) (a : A) → filled form fs ≡ some a → 2 * n ≤ spread fs
unfolding filled Asks
filled-long zero form h fs a e = omega arith
filled-long (suc n) (ends x) h fs a e = absurd h
filled-long (suc n) (field read k) h [] a e = absurd (nothing e)
filled-long (suc n) (field read k) h (f ∷ fs) a e = go (read f) refl (λ b q. filled-long n (k b) (h.1 b) fs a q) e
  where
    go : (o : Option _) → read f ≡ o → ((b : _) → filled (k b) fs ≡ some a → 2 * n ≤ spread fs) → onward (taken o fs) (λ b rest. filled (k b) rest) ≡ some a → 2 * suc n ≤ length f + 1 + spread fs
    go none q on e = absurd (nothing e)
    go (some b) q on e = omega (arith, on b e, byte read f b h.0 q)

said-long : {A : Type 0} (n : ℕ) (form : Form A) → Asks n form → (line : List ℕ) (a : A) → said form line ≡ some a → 2 * n ≤ length line
said-long n form h line a e = go (body line) refl e
  where
    go : (o : Option (List ℕ)) → body line ≡ o → in_body form o ≡ some a → 2 * n ≤ length line
    go none q e = absurd (nothing e)
    go (some s) q e = omega (arith, filled-long n form h (fields s) a e, fields-spread s, (body-length line s q).0)

-- a point line has nine fields, a position line four
point-long : (line : List ℕ) (p : Point) → said point_form line ≡ some p → 18 ≤ length line
unfolding Asks point_form name_of number_of
point-long line p e = said-long 9 point_form (refl, λ _. (refl, λ _. (refl, λ _. (refl, λ _. (refl, λ _. (refl, λ _. (refl, λ _. (refl, λ _. (refl, λ _. tt))))))))) line p e

geodetic-long : (line : List ℕ) (g : Geodetic) → said geodetic_form line ≡ some g → 8 ≤ length line
unfolding Asks geodetic_form name_of number_of
geodetic-long line g e = said-long 4 geodetic_form (refl, λ _. (refl, λ _. (refl, λ _. (refl, λ _. tt)))) line g e

-- ---- what a reader can answer: a record with no fault from a line of good form; malformed; a number of the refusal table. Whatever holds of the three
-- holds of what it answers
module _ {A R : Type 0} (fault_of : A → ℕ) (small : (a : A) → fault_of a < 100) (good : A → R) (refused : ℕ → R) (malformed : R) (P : R → Type 0) where
  outcome : (o : Option A) → ((a : A) → o ≡ some a → fault_of a ≡ 0 → P (good a)) → P malformed → ((n : ℕ) → n < 100 → P (refused n)) → P (read_as fault_of good refused malformed o)
  outcome none G M B = M
  outcome (some a) G M B = go (eqb (fault_of a) 0) refl
    where
      go : (t : Bool) → eqb (fault_of a) 0 ≡ t → P (pick t (good a) (refused (fault_of a)))
      go true e = G a refl (eqb-true (fault_of a) 0 e)
      go false e = B (fault_of a) (small a)

-- a fault's number has two digits at most, and its place lies in the line or at its end
pub record Small (line : List ℕ) (f : Fault) : Type 0 where
  pub number : f.number < 100
  pub inside : f.place ≤ length line
  pub low : f.place ≤ longest_line

-- whatever shape is looked for
fault-small : (shape : Shape) (line : List ℕ) → Small line (fault_of shape line)
fault-small shape line = record { number = fault-short shape line; inside = fault-inside shape line; low = fault-low shape line }

pub strange-small : (line : List ℕ) → Small line (strange_fault line)
strange-small line = fault-small unknown_shape line

pub point-outcome : (y : ℤ) (P : Line Point → Type 0) (line : List ℕ) → ((p : Point) → point_fault y p ≡ 0 → 18 ≤ length line → P (Good p)) → ((f : Fault) → Small line f → P (Malformed f)) → ((n : ℕ) → n < 100 → P (Refused n)) → P (read_point y line)
unfolding read_point
point-outcome y P line G M B = outcome (point_fault y) (point-fault-short y) Good Refused _ P (said point_form line) (λ p e f. G p f (point-long line p e)) (M _ (fault-small _ line)) B

pub step-outcome : (y : ℤ) (P : Line Step → Type 0) (line : List ℕ) → ((s : Step) → step_fault y s ≡ 0 → P (Good s)) → ((f : Fault) → Small line f → P (Malformed f)) → ((n : ℕ) → n < 100 → P (Refused n)) → P (read_step y line)
unfolding read_step
step-outcome y P line G M B = outcome (step_fault y) (step-fault-short y) Good Refused _ P (said step_form line) (λ s e f. G s f) (M _ (fault-small _ line)) B

pub origin-outcome : (P : Line OriginNumbers → Type 0) (line : List ℕ) → ((o : OriginNumbers) → origin_fault o ≡ 0 → P (Good o)) → ((f : Fault) → Small line f → P (Malformed f)) → ((n : ℕ) → n < 100 → P (Refused n)) → P (read_origin line)
unfolding read_origin
origin-outcome P line G M B = outcome origin_fault origin-fault-short Good Refused _ P (said origin_form line) (λ o e f. G o f) (M _ (fault-small _ line)) B

pub geodetic-outcome : (P : Line Geodetic → Type 0) (line : List ℕ) → ((g : Geodetic) → 8 ≤ length line → P (Good g)) → ((f : Fault) → Small line f → P (Malformed f)) → ((n : ℕ) → n < 100 → P (Refused n)) → P (read_geodetic line)
unfolding read_geodetic
geodetic-outcome P line G M B = outcome geodetic_fault (λ g. angles-fault-short g.latitude g.longitude) Good Refused _ P (said geodetic_form line) (λ g e f. G g (geodetic-long line g e)) (M _ (fault-small _ line)) B

pub edition-outcome : (P : Result ℤ Fault → Type 0) (line : List ℕ) → ((y : ℤ) → P (Ok y)) → ((f : Fault) → Small line f → P (Err f)) → P (read_edition line)
unfolding read_edition
edition-outcome P line G M = go (said edition_form line)
  where
    go : (o : Option ℤ) → P (edition_as (Err (fault_of edition_shape line)) o)
    go none = M _ (fault-small _ line)
    go (some y) = G _

-- ---- a reader that gives a record has found no fault
pub point-sound : (y : ℤ) (line : List ℕ) (p : Point) → read_point y line ≡ Good p → point_fault y p ≡ 0
point-sound y line p = point-outcome y (λ (r : Line Point). r ≡ Good p → point_fault y p ≡ 0) line (λ q f h e. let z : q ≡ p = cc in ap (point_fault y) (sym z) ∙ f) (λ f h e. let z : ◌≡◌ {A = ℕ} 0 1 = cc in absurd (omega arith)) (λ n h e. let z : ◌≡◌ {A = ℕ} 0 1 = cc in absurd (omega arith))

pub step-sound : (y : ℤ) (line : List ℕ) (s : Step) → read_step y line ≡ Good s → step_fault y s ≡ 0
step-sound y line s = step-outcome y (λ (r : Line Step). r ≡ Good s → step_fault y s ≡ 0) line (λ q f e. let z : q ≡ s = cc in ap (step_fault y) (sym z) ∙ f) (λ f h e. let z : ◌≡◌ {A = ℕ} 0 1 = cc in absurd (omega arith)) (λ n h e. let z : ◌≡◌ {A = ℕ} 0 1 = cc in absurd (omega arith))

pub origin-sound : (line : List ℕ) (o : OriginNumbers) → read_origin line ≡ Good o → origin_fault o ≡ 0
origin-sound line o = origin-outcome (λ (r : Line OriginNumbers). r ≡ Good o → origin_fault o ≡ 0) line (λ q f e. let z : q ≡ o = cc in ap origin_fault (sym z) ∙ f) (λ f h e. let z : ◌≡◌ {A = ℕ} 0 1 = cc in absurd (omega arith)) (λ n h e. let z : ◌≡◌ {A = ℕ} 0 1 = cc in absurd (omega arith))

-- ---- a line that says a year, a header or a node's parts as its form has it is read as that, carried up to the cap
pub edition-read : (line : List ℕ) (year : ℤ) → said edition_form line ≡ some year → read_edition line ≡ Ok (capped_z year)
unfolding read_edition
edition-read line year e = rw e

pub header_read : (line : List ℕ) (g : GridHeader) → said grid_form line ≡ some g → read_grid_header line ≡ Ok (capped_header g)
unfolding read_grid_header
header_read line g e = rw e

pub node-read : (line : List ℕ) (p : VelocityParts) → hyphen_line line ≡ false → said node_form line ≡ some p → read_node line ≡ Ok (Some (capped_parts p))
unfolding read_node
node-read line p h e = rw (h, e)
