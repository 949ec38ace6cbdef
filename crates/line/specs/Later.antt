-- The later of two point lines: the one with the greater issue; the first where they are byte-equal.
use Rattle.std.specs.Prelude.{◌≡◌, ℕ, Result, Ok, Err, Bool, true, false, not, ◌&&◌, List, [], ◌∷◌, ◌==◌, int_lt}
use Rattle.std.specs.Borrow.{Bor}
use Rattle.refusal.specs.Numbers as refusal
use Rattle.refusal.specs.Order.{pick, Test, first, ◌gives◌, unless}
use Rattle.chain.specs.declared.Id.{Id}
use Rattle.chain.specs.declared.Point.{Point}
use Rattle.refusal.specs.Refusals as refusals
use Rattle.chain.specs.Faults.{latest}
use Rattle.line.specs.declared.LaterFault as declared
use Rattle.line.specs.declared.Neither.{Neither}
use Rattle.line.specs.declared.Which.{Which}
use Rattle.line.specs.declared.Which.TheVariants as which
use Rattle.line.specs.Answers as P
use Rattle.line.specs.Answers.{Fault, Line, fault_told}
use Rattle.line.specs.declared.Unread.{Unread}
use Rattle.line.specs.declared.Unread.TheVariants as unread
use Rattle.line.specs.Readers.{read_point}

unfoldable pub same_bytes : List ℕ → List ℕ → Bool
same_bytes [] [] = true
same_bytes [] (b ∷ t) = false
same_bytes (a ∷ s) [] = false
same_bytes (a ∷ s) (b ∷ t) = pick (a == b) (same_bytes s t) false

abbrev pub same_name : Id → Id → Bool
same_name a b = pick (a.high == b.high) (a.low == b.low) false

-- neither issue is the later one
abbrev pub same_issue : Point → Point → Bool
same_issue p q = pick (int_lt p.label.issue q.label.issue) false (not (int_lt q.label.issue p.label.issue))

-- ---- which is the later one, or why neither is: a number of the refusal table, the line it is given for, and the place in that line
pub record LaterFault : Type 0 where
  pub number : ℕ
  pub line : ℕ
  pub place : ℕ

pub data Verdict : Type 0 where
  First : Verdict
  Second : Verdict
  Refused : LaterFault → Verdict

-- ---- why neither is the later one, and on which line: 1, 2, or 0 where neither alone is at fault
-- a line of bad form
abbrev pub malformed_in : ℕ → Fault → Verdict
malformed_in line f = Refused (record { number = f.number; line = line; place = f.place })

-- what a line says is refused, or what the two say together: no place in it
abbrev pub refused_in : ℕ → ℕ → Verdict
refused_in line number = Refused (record { number = number; line = line; place = 0 })

-- two points that were read; `equal` says whether their lines are byte-equal
abbrev pub weigh_tests : Point → Point → Bool → List Test
weigh_tests p q equal = (not (same_name p.label.id q.label.id) gives refusal.ids) ∷ ((same_issue p q && not equal) gives refusal.same) ∷ []

-- 16, 17, and then the greater issue
abbrev pub weighed : Point → Point → Bool → Verdict
weighed p q equal = unless (first (weigh_tests p q equal)) (refused_in 0) (pick (int_lt p.label.issue q.label.issue) Second First)

-- the form, 2, 3 of the first line, then of the second; there is no profile here, and the latest has every datum
abbrev pub compared : Line Point → Line Point → Bool → Verdict
compared (P.Malformed f) b equal = malformed_in 1 f
compared (P.Refused n) b equal = refused_in 1 n
compared (P.Good p) (P.Malformed f) equal = malformed_in 2 f
compared (P.Good p) (P.Refused n) equal = refused_in 2 n
compared (P.Good p) (P.Good q) equal = weighed p q equal

unfoldable pub later_of : List ℕ → List ℕ → Verdict
later_of s t = compared (read_point latest s) (read_point latest t) (same_bytes s t)

-- what is refused; three zeros for nothing
abbrev pub no_fault : LaterFault
no_fault = record { number = 0; line = 0; place = 0 }

abbrev pub later_fault_of : Verdict → LaterFault
later_fault_of First = no_fault
later_fault_of Second = no_fault
later_fault_of (Refused f) = f

-- ---- the code's answers, by the same numbers
abbrev pub reason_told : declared.LaterFault → LaterFault
reason_told f = record { number = refusals.number f.refusal; line = f.line; place = f.place }

abbrev pub verdict_told : Result Which declared.LaterFault → Verdict
verdict_told (Ok which.First) = First
verdict_told (Ok which.Second) = Second
verdict_told (Err f) = Refused (reason_told f)

abbrev pub later_fault_told : Result Unit declared.LaterFault → LaterFault
later_fault_told (Ok x) = no_fault
later_fault_told (Err f) = reason_told f

-- the part handed back is the first line itself, or the second itself; or why neither is, beside an empty part that begins where the first begins
abbrev pub Handed : Verdict → Bor (List ℕ) → Bor (List ℕ) → Result (Bor (List ℕ)) Neither → Type 0
Handed First a b r = r ≡ Ok a
Handed Second a b r = r ≡ Ok b
Handed (Refused f) a b (Ok r) = ⊥
Handed (Refused f) a b (Err e) = (reason_told e.fault ≡ f) × (e.part.now ≡ []) × (e.part.ref_ptr ≡ a.ref_ptr)

-- a line that is not read as a point
abbrev pub unread_in : ℕ → Unread → Verdict
unread_in line (unread.Malformed f) = malformed_in line (fault_told f)
unread_in line (unread.Refused refusal) = refused_in line (refusals.number refusal)
