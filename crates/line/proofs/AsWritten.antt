-- A line that is read is the line that is written for what it says: byte for byte, since each number and each name has one text. Assumes nothing.
use Rattle.std.proofs.Common.{◌≡◌, ℕ, zero, suc, ◌+◌, ◌-◌, ◌*◌, ◌<◌, ◌≤◌, Bool, true, false, eqb, ltb, leb, List, [], ◌∷◌, ◌++◌, length, get_or, take, drop, ℤ, pos, negsuc, sym, refl, ap, ◌∙◌, append-nil, arith, take-append-drop, drop_of_length-le, drop-cons, ltb-true, eq-eqb, ne_eqb, eqb-true, leb-true}
use mathlib.Core.Option.{Option, none, some}
use native.Mathlib.Decide.{ℕ_discrete}
use Rattle.refusal.specs.Order.{pick}
use Rattle.chain.specs.declared.Point.{Point}
use Rattle.chain.specs.Faults.{point_fault}
use Rattle.line.specs.Answers.{Fault, Line, PlacedLine, Good, Malformed, Refused}
use Rattle.line.specs.Fields.{body, fields, front, Form, ends, field, onward, taken, filled, in_body, said, letter}
use Rattle.line.specs.Forms.{point_form, point_of}
use Rattle.line.specs.Lines.{line_end, line_at}
use Rattle.line.specs.Malformed.{point_shape, fault_of}
use Rattle.line.specs.Name.{name_of}
use Rattle.line.specs.Number.{is_digit, digits, plain, positive, negative, number_of}
use Rattle.line.specs.Readers.{read_as, read_point, datum_place, placed_point, one_point}
use Rattle.line.specs.Text.{decimal, integer, name_text, line_text, label_text, point_text}
use Rattle.line.proofs.Capped.{never}
use Rattle.line.proofs.Lines.{line-at, line-whole}
use Rattle.line.proofs.Texts as T
use Rattle.line.proofs.Walk as W
use Rattle.line.proofs.WrittenNames.{name-text}

-- ---- numbers
digit-range : (b : ℕ) → is_digit b ≡ true → (48 ≤ b) × (b ≤ 57)
digit-range b e = go (leb 48 b) (leb b 57) refl refl e
  where
    go : (t u : Bool) → leb 48 b ≡ t → leb b 57 ≡ u → pick t u false ≡ true → (48 ≤ b) × (b ≤ 57)
    go true true p q h = (leb-true 48 b p, leb-true b 57 q)
    go true false p q h = absurd (never h)
    go false u p q h = absurd (never h)

digits-text : (f : List ℕ) (a v : ℕ) → 0 < a → digits a f ≡ some v → decimal v ≡ decimal a ++ f
unfolding digits
digits-text [] a v h e =
    let q : a ≡ v = cc in
    ap decimal (sym q) ∙ sym (append-nil (decimal a))
digits-text (b ∷ f) a v h e = go (is_digit b) refl (λ q. digits-text f (a * 10 + (b - 48)) v (omega arith) q) e
  where
    go : (t : Bool) → is_digit b ≡ t → (digits (a * 10 + (b - 48)) f ≡ some v → decimal v ≡ decimal (a * 10 + (b - 48)) ++ f)
        → pick t (digits (a * 10 + (b - 48)) f) none ≡ some v → decimal v ≡ decimal a ++ (b ∷ f)
    go true d on q =
        let r = digit-range b d in
        let m : 48 + (b - 48) ≡ b = omega arith in
        on q ∙ sym (rw m at (T.digit-on a (a * 10 + (b - 48)) (b - 48) f (omega arith) (omega arith) (omega arith)))
    go false d on q = cc

first-text : (b : ℕ) → is_digit b ≡ true → decimal (0 * 10 + (b - 48)) ≡ b ∷ []
first-text b d =
    let r = digit-range b d in
    let m : 48 + (0 * 10 + (b - 48)) ≡ b = omega arith in
    rw m at (T.decimal-one (0 * 10 + (b - 48)) (omega arith))

plain-text : (f : List ℕ) (n : ℕ) → plain f ≡ some n → decimal n ≡ f
unfolding plain digits
plain-text [] n e = cc
plain-text (b ∷ []) n e = go (is_digit b) refl e
  where
    go : (t : Bool) → is_digit b ≡ t → pick t (some (0 * 10 + (b - 48))) none ≡ some n → decimal n ≡ b ∷ []
    go true d q = let i : 0 * 10 + (b - 48) ≡ n = cc in rw (← i) (first-text b d)
    go false d q = cc
plain-text (b ∷ c ∷ f) n e = lead (ℕ_discrete b 48)
  where
    go : (t : Bool) → is_digit b ≡ t → (b ≡ 48 → ⊥) → pick t (digits (0 * 10 + (b - 48)) (c ∷ f)) none ≡ some n → decimal n ≡ b ∷ c ∷ f
    go true d z q =
        let r = digit-range b d in
        digits-text (c ∷ f) (0 * 10 + (b - 48)) n (omega (arith, z)) q ∙ ap (λ (l : List ℕ). l ++ (c ∷ f)) (first-text b d)
    go false d z q = cc

    lead : Dec (b ≡ 48) → decimal n ≡ b ∷ c ∷ f
    lead (yes z) = let q : none ≡ some n = rw (eq-eqb b 48 z) at e in cc
    lead (no z) = go (is_digit b) refl z (rw (ne_eqb b 48 z) at e)

pub number-text : (f : List ℕ) (z : ℤ) → number_of f ≡ some z → integer z ≡ f
unfolding number_of integer
number-text [] z e = cc
number-text (b ∷ f) z e = go (ℕ_discrete b 45)
  where
    below : (o : Option ℕ) → plain f ≡ o → negative o ≡ some z → integer z ≡ 45 ∷ f
    below none p q = cc
    below (some zero) p q = cc
    below (some (suc n)) p q = let i : negsuc n ≡ z = cc in rw (← i) (ap (λ (l : List ℕ). 45 ∷ l) (plain-text f (suc n) p))

    above : (o : Option ℕ) → plain (b ∷ f) ≡ o → positive o ≡ some z → integer z ≡ b ∷ f
    above none p q = cc
    above (some n) p q = let i : pos n ≡ z = cc in rw (← i) (plain-text (b ∷ f) n p)

    go : Dec (b ≡ 45) → integer z ≡ b ∷ f
    go (yes q) = below (plain f) refl (rw (eq-eqb b 45 q) at e) ∙ ap (λ (n : ℕ). n ∷ f) (sym q)
    go (no q) = above (plain (b ∷ f)) refl (rw (ne_eqb b 45 q) at e)

-- a field that is one letter
pub letter-text : (l b : ℕ) (f : List ℕ) → letter l f ≡ some b → f ≡ l ∷ []
letter-text l b [] e = cc
letter-text l b (c ∷ []) e = go (ℕ_discrete c l)
  where
    go : Dec (c ≡ l) → c ∷ [] ≡ l ∷ []
    go (yes q) = rw q
    go (no q) = let n : none ≡ some b = rw (ne_eqb c l q) at e in cc
letter-text l b (c ∷ d ∷ f) e = cc

-- ---- lines
-- the fields of a line's bytes, with their tabs and the line feed, are those bytes
pub fields-line : (s : List ℕ) → line_text (fields s) ≡ s ++ (10 ∷ [])
unfolding fields line_text
fields-line [] = refl
fields-line (b ∷ s) = go (ℕ_discrete b 9) (W.field_at s 0 (omega arith)) (fields-line s)
  where
    longer : (f : List ℕ) (fs : List (List ℕ)) → line_text ((b ∷ f) ∷ fs) ≡ b ∷ line_text (f ∷ fs)
    longer f [] = refl
    longer f (g ∷ fs) = refl

    go : Dec (b ≡ 9) → W.Field s 0 → line_text (fields s) ≡ s ++ (10 ∷ []) → line_text (pick (eqb b 9) ([] ∷ fields s) (front b (fields s))) ≡ b ∷ (s ++ (10 ∷ []))
    go (yes q) x on =
        let e = sym (W.from_start s) ∙ x.is in
        rw (eq-eqb b 9 q, e) (rw q (ap (λ (l : List ℕ). 9 ∷ l) (rw e at on)))
    go (no q) x on =
        let e = sym (W.from_start s) ∙ x.is in
        rw (ne_eqb b 9 q, e) (longer x.first x.rest ∙ ap (λ (l : List ℕ). b ∷ l) (rw e at on))

-- what a form's first field is, where the form is filled
pub record Part {A B : Type 0} (read : List ℕ → Option B) (k : B → Form A) (fs : List (List ℕ)) (a : A) : Type 0 where
  pub f : List ℕ
  pub rest : List (List ℕ)
  pub says : B
  pub is : fs ≡ f ∷ rest
  pub reads : read f ≡ some says
  pub on : filled (k says) rest ≡ some a

pub part : {A B : Type 0} (read : List ℕ → Option B) (k : B → Form A) (fs : List (List ℕ)) (a : A) → filled (field read k) fs ≡ some a → Part read k fs a
unfolding filled
part read k [] a e = let w : ◌≡◌ {A = ℕ} 0 1 = cc in absurd (omega arith)
part read k (f ∷ fs) a e = go (read f) refl e
  where
    go : (o : Option _) → read f ≡ o → onward (taken o fs) (λ b rest. filled (k b) rest) ≡ some a → Part read k (f ∷ fs) a
    go none p q = let w : ◌≡◌ {A = ℕ} 0 1 = cc in absurd (omega arith)
    go (some b) p q = record { f = f; rest = fs; says = b; is = refl; reads = p; on = q }

pub last-part : {A : Type 0} (b a : A) (fs : List (List ℕ)) → filled (ends b) fs ≡ some a → (fs ≡ []) × (b ≡ a)
unfolding filled
last-part b a [] e = (refl, cc)
last-part b a (f ∷ fs) e = let w : ◌≡◌ {A = ℕ} 0 1 = cc in absurd (omega arith)

-- a line's bytes before its line feed, and the line feed
body-line : (line s : List ℕ) → body line ≡ some s → line ≡ s ++ (10 ∷ [])
unfolding body
body-line line s = go (ltb 0 (length line)) (leb (length line) 200) (eqb (get_or line (length line - 1) 0) 10) refl refl
  where
    last : 0 < length line → get_or line (length line - 1) 0 ≡ 10 → drop (length line - 1) line ≡ 10 ∷ []
    last h e =
        drop-cons line (length line - 1) 0 (omega arith)
        ∙ rw (e, drop_of_length-le line {i = suc (length line - 1)} (omega arith))

    go : (t u v : Bool) → ltb 0 (length line) ≡ t → eqb (get_or line (length line - 1) 0) 10 ≡ v
        → pick t (pick u (pick v (some (take (length line - 1) line)) none) none) none ≡ some s → line ≡ s ++ (10 ∷ [])
    go true true true p q e =
        let i : take (length line - 1) line ≡ s = cc in
        rw (← i) (sym (take-append-drop (length line - 1) line) ∙ ap (λ (l : List ℕ). take (length line - 1) line ++ l) (last (ltb-true 0 (length line) p) (eqb-true (get_or line (length line - 1) 0) 10 q)))
    go true true false p q e = cc
    go true false v p q e = cc
    go false u v p q e = cc

-- a filled form's first field as it is written, and what is shown of the fields after it
shown : {A B C : Type 0} (read : List ℕ → Option B) (text : B → List ℕ) → ((f : List ℕ) (b : B) → read f ≡ some b → text b ≡ f)
    → (k : B → Form A) (fs : List (List ℕ)) (a : A) → filled (field read k) fs ≡ some a
    → ((b : B) (rest : List (List ℕ)) → fs ≡ text b ∷ rest → filled (k b) rest ≡ some a → C) → C
shown read text back k fs a e on =
    let p = part read k fs a e in
    on p.says p.rest (p.is ∙ ap (λ (f : List ℕ). f ∷ p.rest) (sym (back p.f p.says p.reads))) p.on

-- a point line of good form is the line of its point
point-form : (s : List ℕ) (p : Point) → filled point_form (fields s) ≡ some p → s ++ (10 ∷ []) ≡ point_text p
unfolding point_form point_text
point-form s p e =
    sym (fields-line s)
    ∙ (shown (letter 80) (λ b. 80 ∷ []) (λ f b q. sym (letter-text 80 b f q)) _ (fields s) p e λ _ r1 e1 h1.
    shown name_of name_text name-text _ r1 p h1 λ id r2 e2 h2.
    shown number_of integer number-text _ r2 p h2 λ issue r3 e3 h3.
    shown number_of integer number-text _ r3 p h3 λ order r4 e4 h4.
    shown number_of integer number-text _ r4 p h4 λ datum r5 e5 h5.
    shown number_of integer number-text _ r5 p h5 λ epoch r6 e6 h6.
    shown number_of integer number-text _ r6 p h6 λ x r7 e7 h7.
    shown number_of integer number-text _ r7 p h7 λ y r8 e8 h8.
    shown number_of integer number-text _ r8 p h8 λ z r9 e9 h9.
    let k = last-part (point_of id issue order datum epoch x y z) p r9 h9 in
    rw (e1, e2, e3, e4, e5, e6, e7, e8, e9, k.0) (ap point_text k.1))

pub point-said-text : (line : List ℕ) (p : Point) → said point_form line ≡ some p → line ≡ point_text p
point-said-text line p = go (body line) refl
  where
    go : (o : Option (List ℕ)) → body line ≡ o → in_body point_form o ≡ some p → line ≡ point_text p
    go none b e = cc
    go (some s) b e = body-line line s b ∙ point-form s p e

-- what a point's line is read as, it says
said-point : (y : ℤ) (line : List ℕ) (p : Point) → read_point y line ≡ Good p → said point_form line ≡ some p
unfolding read_point
said-point y line p = go (fault_of point_shape line) (said point_form line)
  where
    go : (m : Fault) (o : Option Point) → read_as (point_fault y) Good Refused (Malformed m) o ≡ Good p → o ≡ some p
    go m none e = cc
    go m (some a) e = by (eqb (point_fault y a) 0) e
      where
        by : (t : Bool) → pick t (Good a) (Refused (point_fault y a)) ≡ Good p → some a ≡ some p
        by true q = cc
        by false q = cc

-- a line that is read as a point is the line that is written for it, and its datum begins after the label
pub point-text : (y : ℤ) (line : List ℕ) (p : Point) → read_point y line ≡ Good p → line ≡ point_text p
point-text y line p e = point-said-text line p (said-point y line p e)

pub point-place : (y : ℤ) (line : List ℕ) (p : Point) → read_point y line ≡ Good p → datum_place line ≡ length (label_text p.label)
unfolding datum_place
point-place y line p e = rw (said-point y line p e)

-- what is told of the line at a place
pub placed-line : (y : ℤ) (input : List ℕ) (from : ℕ) → (placed_point y input from).line ≡ read_point y (line_at input from)
unfolding placed_point
placed-line y input from = refl

pub placed-place : (y : ℤ) (input : List ℕ) (from : ℕ) → (placed_point y input from).place ≡ datum_place (line_at input from)
unfolding placed_point
placed-place y input from = refl

pub placed_end : (y : ℤ) (input : List ℕ) (from : ℕ) → (placed_point y input from).end ≡ line_end input from
unfolding placed_point
placed_end y input from = refl

pub placed : (y : ℤ) (input : List ℕ) (from : ℕ) {r : Line Point} {place end : ℕ} → (r ≡ read_point y (line_at input from)) × (place ≡ datum_place (line_at input from)) → end ≡ line_end input from → record { line = r; place = place; end = end } ≡ placed_point y input from
unfolding placed_point
placed y input from h e = rw (h.0, h.1, e)

-- what is told of a line by itself
pub one_line : (y : ℤ) (line : List ℕ) → (one_point y line).line ≡ read_point y line
unfolding one_point
one_line y line = refl

pub one_place : (y : ℤ) (line : List ℕ) → (one_point y line).place ≡ datum_place line
unfolding one_point
one_place y line = refl

pub one : (y : ℤ) (line : List ℕ) {r : Line Point} {place end : ℕ} → (r ≡ read_point y line) × (place ≡ datum_place line) → end ≡ length line → record { line = r; place = place; end = end } ≡ one_point y line
unfolding one_point
one y line h e = rw (h.0, h.1, e)

pub one-read : (y : ℤ) (line : List ℕ) {r : PlacedLine} → r ≡ one_point y line → (r.line ≡ read_point y line) × (r.place ≡ datum_place line)
one-read y line e = (ap (λ (p : PlacedLine). p.line) e ∙ one_line y line, ap (λ (p : PlacedLine). p.place) e ∙ one_place y line)

-- the only line of an input
pub one-whole : (y : ℤ) (input : List ℕ) → line_end input 0 ≡ length input → placed_point y input 0 ≡ one_point y input
unfolding one_point placed_point
one-whole y input e = rw (line-whole input e, e)

-- the line is the bytes up to its end
pub placed-read : (y : ℤ) (input : List ℕ) (from : ℕ) {r : PlacedLine} → r ≡ placed_point y input from
    → (r.line ≡ read_point y (take (r.end - from) (drop from input))) × (r.place ≡ datum_place (take (r.end - from) (drop from input)))
placed-read y input from {r} e =
    let l = line-at input from r.end (ap (λ (p : PlacedLine). p.end) e ∙ placed_end y input from) in
    rw l (ap (λ (p : PlacedLine). p.line) e ∙ placed-line y input from, ap (λ (p : PlacedLine). p.place) e ∙ placed-place y input from)
