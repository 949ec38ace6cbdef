-- The lines that are written, byte for byte.
use Rattle.std.specs.Prelude.{◌≡◌, ℕ, zero, suc, ◌+◌, ◌*◌, ◌/◌, ◌%◌, ◌<◌, ◌≤◌, min, max, List, [], ◌∷◌, ◌++◌, length, ℤ, pos, negsuc, ◌==◌, nat_lt}
use Rattle.std.proofs.lemmas.List.Edits.{sets}
use Rattle.refusal.specs.Order.{pick}
use Rattle.chain.specs.declared.Id.{Id}
use Rattle.chain.specs.declared.Label.{Label}
use Rattle.chain.specs.declared.Realization.{Realization}
use Rattle.chain.specs.declared.Position.{Position}
use Rattle.chain.specs.declared.Point.{Point}
use Rattle.line.specs.Bytes.{tab, line_feed, minus, zero_byte, letter_p, letter_c, letter_r}

-- the digits of n, if k are enough
unfoldable pub last_digits : ℕ → ℕ → List ℕ
last_digits zero n = []
last_digits (suc k) n = pick (nat_lt n 10) ((zero_byte + n) ∷ []) (last_digits k (n / 10) ++ ((zero_byte + n % 10) ∷ []))

-- a number in decimal, with no spare zeros
unfoldable pub decimal : ℕ → List ℕ
decimal n = last_digits (suc n) n

-- a number with its sign
unfoldable pub integer : ℤ → List ℕ
integer (pos n) = decimal n
integer (negsuc n) = minus ∷ decimal (suc n)

-- the value of the highest of a word's eight bytes
abbrev pub highest : ℕ
highest = 72057594037927936

-- the first k bytes of a word, the highest first, up to a zero byte
unfoldable pub letters : ℕ → ℕ → List ℕ
letters zero w = []
letters (suc k) w = pick (w / highest == 0) [] (w / highest ∷ letters k (w % highest * 256))

unfoldable pub name_text : Id → List ℕ
name_text id = letters 8 id.high ++ letters 8 id.low

-- fields parted by one tab, and the line feed
unfoldable pub line_text : List (List ℕ) → List ℕ
line_text [] = line_feed ∷ []
line_text (f ∷ []) = f ++ (line_feed ∷ [])
line_text (f ∷ g ∷ fs) = f ++ (tab ∷ line_text (g ∷ fs))

-- a point of these parts
abbrev pub point_of : Label → Realization → Position → Point
point_of l r p = record { label = l; realization = r; position = p }

-- P, id, issue, order, datum, epoch, X, Y, Z
unfoldable pub point_text : Point → List ℕ
point_text p =
    line_text
    ((letter_p ∷ [])
    ∷ name_text p.label.id
    ∷ integer p.label.issue
    ∷ integer p.label.order
    ∷ integer p.realization.datum
    ∷ integer p.realization.epoch
    ∷ integer p.position.x
    ∷ integer p.position.y
    ∷ integer p.position.z
    ∷ [])

-- what stands before the datum on a point's line: P, id, issue, order, each with the tab after it
unfoldable pub label_text : Label → List ℕ
label_text l =
    (letter_p ∷ tab ∷ [])
    ++ ((name_text l.id ++ (tab ∷ []))
    ++ ((integer l.issue ++ (tab ∷ []))
    ++ (integer l.order ++ (tab ∷ []))))

-- from the datum on: datum, epoch, X, Y, Z
unfoldable pub moved_text : Realization → Position → List ℕ
moved_text r p = line_text (integer r.datum ∷ integer r.epoch ∷ integer p.x ∷ integer p.y ∷ integer p.z ∷ [])

-- C, id, E, N
unfoldable pub projected_text : Id → ℤ → ℤ → List ℕ
projected_text id e n = line_text ((letter_c ∷ []) ∷ name_text id ∷ integer e ∷ integer n ∷ [])

-- R, line number, refusal number, place in the line
unfoldable pub refusal_text : ℕ → ℕ → ℕ → List ℕ
refusal_text line number place = line_text ((letter_r ∷ []) ∷ decimal line ∷ decimal number ∷ decimal place ∷ [])

-- the place past a text of n bytes that begins at `at` in a slice of `size` bytes: its end where the text is cut off there
abbrev pub past : ℕ → ℕ → ℕ → ℕ
past size at n = max at (min (at + n) size)

-- what a writer does: the slice held l and now holds m, which is l with the text vs from place `at` on, as far as there is room; r is the place past it.
-- A record, so that its arguments are inferred from a proof of it
pub record Wrote (l : List ℕ) (at : ℕ) (vs m : List ℕ) (r : ℕ) : Type 0 where
  pub place : r ≡ past (length l) at (length vs)
  pub list : m ≡ sets l at vs

-- a writer that was shown its room: what it does, and that it used no more than k bytes
pub record Put (k : ℕ) (l : List ℕ) (at : ℕ) (vs m : List ℕ) (r : ℕ) : Type 0 where
  pub wrote : Wrote l at vs m r
  pub most : r ≤ at + k

-- ---- how the code takes digits apart

-- the two digits of a number below 100
abbrev pub two : ℕ → List ℕ
two v = (zero_byte + v / 10) ∷ (zero_byte + v % 10) ∷ []

abbrev pub four : ℕ → List ℕ
four n = two (n / 100) ++ two (n % 100)

abbrev pub eight : ℕ → List ℕ
eight n = four (n / 10000) ++ four (n % 10000)

-- a number's sign
abbrev pub sign_of : ℤ → List ℕ
sign_of (pos n) = []
sign_of (negsuc n) = minus ∷ []

-- ---- how digits are written side by side, out of one number

-- the lowest two, four and eight bytes of a number, the lowest first
abbrev pub pair_bytes : ℕ → List ℕ
pair_bytes w = w % 256 ∷ w / 256 % 256 ∷ []

abbrev pub half_bytes : ℕ → List ℕ
half_bytes w = pair_bytes w ++ pair_bytes (w / 65536)

abbrev pub word_bytes : ℕ → List ℕ
word_bytes w = half_bytes w ++ half_bytes (w / 4294967296)

-- four numbers below 100, each in sixteen bits, the first lowest
abbrev pub Pairs : ℕ → Type 0
Pairs w = (w % 65536 < 100) × (w / 65536 % 65536 < 100) × (w / 4294967296 % 65536 < 100) × (w / 281474976710656 < 100)

-- a number of eight digits as four of two
abbrev pub pairs_of : ℕ → ℕ
pairs_of n = ((n % 10000 % 100 * 65536 + n % 10000 / 100) * 65536 + n / 10000 % 100) * 65536 + n / 10000 / 100

-- the lowest four bytes of w are the digits of a and b
pub record Half (w a b : ℕ) : Type 0 where
  pub one : w % 256 ≡ zero_byte + a / 10
  pub two : w / 256 % 256 ≡ zero_byte + a % 10
  pub three : w / 65536 % 256 ≡ zero_byte + b / 10
  pub four : w / 65536 / 256 % 256 ≡ zero_byte + b % 10

-- the bytes of r are the digits of the four pairs of w
pub record Spread (w r : ℕ) : Type 0 where
  pub low : Half r (w % 65536) (w / 65536 % 65536)
  pub high : Half (r / 4294967296) (w / 4294967296 % 65536) (w / 281474976710656)

-- r digits follow the first of n
pub record Further (n r : ℕ) : Type 0 where
  pub one : n < 10 → r ≡ 0
  pub two : 10 ≤ n → n < 100 → r ≡ 1
  pub three : 100 ≤ n → n < 1000 → r ≡ 2
  pub four : 1000 ≤ n → r ≡ 3
  pub most : r ≤ 3

-- a text of at most k bytes, and up to j bytes after it that what follows it takes away
pub record Begun (k j : ℕ) (l : List ℕ) (at : ℕ) (vs m : List ℕ) (r : ℕ) : Type 0 where
  pub place : r ≡ at + length vs
  pub most : length vs ≤ k
  pub size : length m ≡ length l
  pub on : (ws : List ℕ) → j ≤ length ws → sets m r ws ≡ sets l at (vs ++ ws)

-- 32 bytes of a line can stand for those before a place: there are so many, and what follows takes away what is too much
pub record Copied (line : List ℕ) (place : ℕ) (p : Position) : Type 0 where
  pub enough : 32 ≤ length line
  pub few : place ≤ 32
  pub long : (r : Realization) → 32 ≤ length (moved_text r p)
