-- The line of a point that was moved: its label as it stands in the line that was read, copied 32 bytes whatever its length, and the numbers after it. Assumes nothing.
use Rattle.std.proofs.Common.{◌≡◌, ℕ, zero, suc, ◌+◌, ◌-◌, ◌*◌, ◌/◌, ◌%◌, ◌^◌, ◌<◌, ◌≤◌, true, false, List, [], ◌∷◌, ◌++◌, length, get_or, take, drop, ℤ, pos, negsuc, sym, refl, ap, ◌∙◌, append_assoc, pow-suc, add-one, arith, length-append, length-take, length-take-le, drop-cons, ltb-false, leb-true}
use lib.Seq.{sets, take-append_seam}
use lib.Signed.{lt_z, le_z}
use Rattle.chain.specs.declared.Label.{Label}
use Rattle.chain.specs.declared.Point.{Point}
use Rattle.chain.specs.declared.Position.{Position}
use Rattle.chain.specs.declared.Realization.{Realization}
use Rattle.line.specs.Answers.{Good}
use Rattle.line.specs.Readers.{read_point, datum_place}
use Rattle.line.specs.Reading.{Word}
use Rattle.line.specs.Text.{decimal, integer, name_text, line_text, label_text, moved_text, point_of, point_text, word_bytes, Put, Copied}
use Rattle.line.proofs.AsWritten.{point-text, point-place}
use Rattle.line.proofs.Leading as K
use Rattle.line.proofs.Texts as T
use Rattle.line.proofs.Words as W
use Rattle.line.proofs.WrittenNumbers.{written}

-- ---- the text
pub moved-is : (r : Realization) (p : Position)
    → (integer r.datum ++ (9 ∷ []))
    ++ ((integer r.epoch ++ (9 ∷ []))
    ++ ((integer p.x ++ (9 ∷ []))
    ++ ((integer p.y ++ (9 ∷ []))
    ++ (integer p.z ++ (10 ∷ [])))))
    ≡ moved_text r p
unfolding moved_text line_text
moved-is r p = simp append_assoc

-- the same by the parts that are written together
pub moved-put : (r : Realization) (p : Position)
    → ((integer r.datum ++ (9 ∷ [])) ++ (integer r.epoch ++ (9 ∷ [])))
    ++ ((integer p.x ++ (9 ∷ [])) ++ ((integer p.y ++ (9 ∷ [])) ++ (integer p.z ++ (10 ∷ []))))
    ≡ moved_text r p
moved-put r p = append_assoc (integer r.datum ++ (9 ∷ [])) (integer r.epoch ++ (9 ∷ [])) _ ∙ moved-is r p

-- a point's line is its label, and what follows it
pub labelled : (l : Label) (r : Realization) (p : Position) → label_text l ++ moved_text r p ≡ point_text (point_of l r p)
unfolding label_text moved_text point_text line_text
labelled l r p = simp append_assoc

-- the same by the parts that are written one by one
pub label-cut : (l : Label) (r : Realization) (p : Position)
    → (80 ∷ 9 ∷ []) ++ ((name_text l.id ++ (9 ∷ [])) ++ ((integer l.issue ++ (9 ∷ [])) ++ ((integer l.order ++ (9 ∷ [])) ++ moved_text r p))) ≡ point_text (point_of l r p)
unfolding label_text
label-cut l r p =
    let name = name_text l.id ++ (9 ∷ []) in
    let issue = integer l.issue ++ (9 ∷ []) in
    let order = integer l.order ++ (9 ∷ []) in
    ap (λ (t : List ℕ). 80 ∷ 9 ∷ t) (sym (append_assoc name (issue ++ order) (moved_text r p) ∙ ap (λ (t : List ℕ). name ++ t) (append_assoc issue order (moved_text r p)))) ∙ labelled l r p

-- the label of a point's line is its label's text
pub label_of : (l : Label) (r : Realization) (p : Position) → take (length (label_text l)) (point_text (point_of l r p)) ≡ label_text l
label_of l r p = rw (← labelled l r p) (take-append_seam (label_text l) (moved_text r p))

-- the line of a point that was moved: what stands before the datum in the line that was read, and the numbers that it has now
pub moved-line : (y : ℤ) (line : List ℕ) (p q : Point) → read_point y line ≡ Good p → q.label ≡ p.label → take (datum_place line) line ++ moved_text q.realization q.position ≡ point_text q
moved-line y line p q e k =
    ap (λ (t : List ℕ). t ++ moved_text q.realization q.position)
    (ap (λ (n : ℕ). take n line) (point-place y line p e) ∙ ap (take (length (label_text p.label))) (point-text y line p e)
    ∙ label_of p.label p.realization p.position
    ∙ ap label_text (sym k))
    ∙ labelled q.label q.realization q.position

-- ---- how long it is at the least
decimal-least : (k n : ℕ) → 10 ^ k ≤ n → suc k ≤ length (decimal n)
decimal-least zero n h = omega (arith, (written n).some-digit)
decimal-least (suc k) n h =
    let e = pow-suc 10 k in
    let i = decimal-least k (n / 10) (omega arith) in
    let j = above k in
    omega (arith, ap length (T.decimal-more n (omega arith)), length-append (decimal (n / 10)) ((48 + n % 10) ∷ []))
  where
    above : (k : ℕ) → 0 < 10 ^ k
    above zero = omega arith
    above (suc k) = let e = pow-suc 10 k in let h = above k in omega arith

integer-least : (z : ℤ) → 1 ≤ length (integer z)
unfolding integer
integer-least (pos n) = omega (arith, (written n).some-digit)
integer-least (negsuc n) = omega arith

-- a number of eleven digits below 0, and one of twelve
integer-below : (z : ℤ) → lt_z (negsuc 9999999999) z ≡ false → 12 ≤ length (integer z)
unfolding integer
integer-below (pos n) e = let w : ◌≡◌ {A = ℕ} 0 1 = cc in absurd (omega arith)
integer-below (negsuc n) e = let l = decimal-least 10 (suc n) (omega (arith, ltb-false n 9999999999 e)) in omega arith

integer-above : (z : ℤ) → le_z (pos 100000000000) z ≡ true → 12 ≤ length (integer z)
unfolding integer
integer-above (pos n) e = let l = decimal-least 11 n (omega (arith, leb-true 100000000000 n e)) in omega arith
integer-above (negsuc n) e = let w : ◌≡◌ {A = ℕ} 0 1 = cc in absurd (omega arith)

moved_length : (r : Realization) (p : Position) → 12 ≤ length (integer p.x) → 12 ≤ length (integer p.y) → 32 ≤ length (moved_text r p)
moved_length r p hx hy =
    rw (sym (moved-is r p))
    (simp length-append (omega (arith, hx, hy, integer-least r.datum, integer-least r.epoch, integer-least p.z)))

-- what is tested of X and Y before 32 bytes are copied
pub long-enough : (r : Realization) (p : Position) → lt_z (negsuc 9999999999) p.x ≡ false → le_z (pos 100000000000) p.y ≡ true → 32 ≤ length (moved_text r p)
long-enough r p hx hy = moved_length r p (integer-below p.x hx) (integer-above p.y hy)

-- ---- parts of a line
take_none : (k : ℕ) → ◌≡◌ {A = List ℕ} (take k []) []
take_none zero = refl
take_none (suc k) = refl

take_split : (j k : ℕ) (s : List ℕ) → take (j + k) s ≡ take j s ++ take k (drop j s)
take_split zero k s = let e : 0 + k ≡ k = omega arith in rw e
take_split (suc j) k [] = take_none (suc j + k) ∙ sym (take_none k)
take_split (suc j) k (b ∷ s) = let e : suc j + k ≡ suc (j + k) = omega arith in rw e (ap (λ (l : List ℕ). b ∷ l) (take_split j k s))

pub take_all : (k : ℕ) (s : List ℕ) → length s ≤ k → take k s ≡ s
take_all k [] h = take_none k
take_all zero (b ∷ s) h = absurd (omega arith)
take_all (suc k) (b ∷ s) h = ap (λ (l : List ℕ). b ∷ l) (take_all k s (omega arith))

-- k bytes from p on, one by one
bytes : ℕ → List ℕ → ℕ → List ℕ
bytes zero s p = []
bytes (suc k) s p = get_or s p 0 ∷ bytes k s (p + 1)

take-bytes : (k : ℕ) (s : List ℕ) (p : ℕ) → p + k ≤ length s → take k (drop p s) ≡ bytes k s p
unfolding bytes
take-bytes zero s p h = refl
take-bytes (suc k) s p h =
    ap (take (suc k)) (drop-cons s p 0 (omega arith))
    ∙ ap (λ (n : ℕ). get_or s p 0 ∷ take k (drop n s)) (sym (add-one p))
    ∙ ap (λ (l : List ℕ). get_or s p 0 ∷ l) (take-bytes k s (p + 1) (omega arith))

-- a byte more
pub take_next : (s : List ℕ) (i : ℕ) → i < length s → take (i + 1) s ≡ take i s ++ (get_or s i 0 ∷ [])
unfolding bytes
take_next s i h = take_split i 1 s ∙ ap (λ (l : List ℕ). take i s ++ l) (take-bytes 1 s i (omega arith))

-- ---- eight bytes in one number, and out of it
-- two bytes, and the rest
pub record Apart (v x a b : ℕ) : Type 0 where
  pub one : v % 256 ≡ a
  pub two : v / 256 % 256 ≡ b
  pub rest : v / 65536 ≡ x

apart : (v x a b : ℕ) → a < 256 → b < 256 → v ≡ (x * 256 + b) * 256 + a → Apart v x a b
apart v x a b ha hb e = record { one = omega arith; two = omega arith; rest = omega arith }

twice : (v : ℕ) → v / 4294967296 ≡ v / 65536 / 65536
twice v = omega arith

word-parts : (w a b c d e f g h : ℕ) → a < 256 → b < 256 → c < 256 → d < 256 → e < 256 → f < 256 → g < 256 → h < 256
    → w ≡ h * 72057594037927936 + g * 281474976710656 + f * 1099511627776 + e * 4294967296 + d * 16777216 + c * 65536 + b * 256 + a
    → word_bytes w ≡ a ∷ b ∷ c ∷ d ∷ e ∷ f ∷ g ∷ h ∷ []
word-parts w a b c d e f g h ha hb hc hd he hf hg hh q =
    let x6 = h * 256 + g in
    let x4 = (x6 * 256 + f) * 256 + e in
    let x2 = (x4 * 256 + d) * 256 + c in
    let p = apart w x2 a b ha hb (omega arith) in
    let o = apart (w / 65536) x4 c d hc hd p.rest in
    let half : w / 4294967296 ≡ x4 = twice w ∙ o.rest in
    let n = apart (w / 4294967296) x6 e f he hf half in
    let m = apart (w / 4294967296 / 65536) 0 g h hg hh (n.rest ∙ omega arith) in
    rw (p.one, p.two, o.one, o.two, n.one, n.two, m.one, m.two)

pub word-bytes : {s : List ℕ} {p w : ℕ} → Word s p w → p + 8 ≤ length s → word_bytes w ≡ take 8 (drop p s)
unfolding bytes
word-bytes {s} {p} {w} d h =
    let n2 : p + 1 + 1 ≡ p + 2 = omega arith in
    let n3 : p + 2 + 1 ≡ p + 3 = omega arith in
    let n4 : p + 3 + 1 ≡ p + 4 = omega arith in
    let n5 : p + 4 + 1 ≡ p + 5 = omega arith in
    let n6 : p + 5 + 1 ≡ p + 6 = omega arith in
    let n7 : p + 6 + 1 ≡ p + 7 = omega arith in
    let e = take-bytes 8 s p h in
    word-parts w _ _ _ _ _ _ _ _ (d.small p) (d.small (p + 1)) (d.small (p + 2)) (d.small (p + 3)) (d.small (p + 4)) (d.small (p + 5)) (d.small (p + 6)) (d.small (p + 7)) (d.is ∙ sym (W.word-is s p))
    ∙ sym (rw (n2, n3, n4, n5, n6, n7) at e)

-- four of them side by side
drop-twice : (j k : ℕ) (s : List ℕ) → drop k (drop j s) ≡ drop (j + k) s
drop-twice zero k s = let e : 0 + k ≡ k = omega arith in rw e
drop-twice (suc j) k [] = drop-none k ∙ sym (drop-none (suc j + k))
  where
    drop-none : (k : ℕ) → ◌≡◌ {A = List ℕ} (drop k []) []
    drop-none zero = refl
    drop-none (suc k) = refl
drop-twice (suc j) k (b ∷ s) = let e : suc j + k ≡ suc (j + k) = omega arith in rw e (drop-twice j k s)

pub thirty_two : (s : List ℕ) → take 8 (drop 0 s) ++ (take 8 (drop 8 s) ++ (take 8 (drop 16 s) ++ take 8 (drop 24 s))) ≡ take 32 s
thirty_two s =
    let c : take 16 (drop 16 s) ≡ take 8 (drop 16 s) ++ take 8 (drop 24 s) = take_split 8 8 (drop 16 s) ∙ ap (λ (l : List ℕ). take 8 (drop 16 s) ++ take 8 l) (drop-twice 16 8 s) in
    let b : take 24 (drop 8 s) ≡ take 8 (drop 8 s) ++ take 16 (drop 16 s) = take_split 8 16 (drop 8 s) ∙ ap (λ (l : List ℕ). take 8 (drop 8 s) ++ take 16 l) (drop-twice 8 8 s) in
    sym (take_split 8 24 s ∙ ap (λ (l : List ℕ). take 8 s ++ l) (b ∙ ap (λ (l : List ℕ). take 8 (drop 8 s) ++ l) c))

-- 32 bytes of a line, and then what follows those before a place: what is too much is taken away
pub relabel : {l m o : List ℕ} {at place e q : ℕ} (line : List ℕ) (p : Position) (r : Realization)
    → Copied line place p → at + 173 ≤ length l → Put 32 l at (take 32 line) m e → Put 110 m (at + place) (moved_text r p) o q
    → Put 142 l at (take place line ++ moved_text r p) o q
relabel {l} {m} {o} {at} {place} {e} {q} line p r c room a b =
    let n : length (take place line) ≡ place = length-take-le place line (omega (arith, c.few, c.enough)) in
    let k : place + (32 - place) ≡ 32 = omega (arith, c.few) in
    let t : take 32 line ≡ take place line ++ take (32 - place) (drop place line) = ap (λ (i : ℕ). take i line) (sym k) ∙ take_split place (32 - place) line in
    let few : length (take (32 - place) (drop place line)) ≤ 32 = omega (arith, length-take (32 - place) (drop place line)) in
    let is : m ≡ sets l at (take place line ++ take (32 - place) (drop place line)) = a.wrote.list ∙ ap (sets l at) t in
    let size : length m ≡ length l = T.same_size a.wrote in
    record {
      wrote = record {
        place = omega (arith, b.wrote.place, n, size, room, b.most, c.few, length-append (take place line) (moved_text r p));
        list =
            b.wrote.list ∙ ap (λ (x : List ℕ). sets x (at + place) (moved_text r p)) is
            ∙ ap (λ (i : ℕ). sets (sets l at (take place line ++ take (32 - place) (drop place line))) (at + i) (moved_text r p)) (sym n)
            ∙ K.over (take place line) (take (32 - place) (drop place line)) (moved_text r p) l at (omega (arith, few, c.long r));
      };
      most = omega (arith, b.most, c.few);
    }
