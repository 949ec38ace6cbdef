-- A chain prepared for many points, so that it is not checked and its rotations are not made again for each: nine rows of eight numbers. The first row holds the
-- chain's length and where it starts and ends, each row after it a step. The rows are ours to choose; what must hold of them is `Holds`: proofs/Keeping.antt has
-- `extended-holds`, and `prepared-forward` and `prepared-inverse`: what is answered from them is what the conversion answers.
use Rattle.std.specs.Prelude.{◌≡◌, Bool, true, not, ◌&&◌, ◌||◌, List, [], ◌∷◌, ◌++◌, reverse, ℕ, zero, suc, ◌+◌, ◌*◌, ℤ, pos, nat_abs, ◌+ℤ◌, eqb, length, get_or, Ok, Err, Option, Some, None}
use Rattle.std.proofs.lemmas.List.Edits.{sets}
use Rattle.refusal.specs.Numbers as refusal
use Rattle.refusal.specs.Order.{Test, ◌gives◌, first, pick, unless}
use Rattle.ranges.specs.Ranges.{within, equal, up_to, shift_range, scale_range}
use Rattle.chain.specs.declared.Position.{Position}
use Rattle.chain.specs.declared.Realization.{Realization}
use Rattle.chain.specs.declared.Point.{Point}
use Rattle.chain.specs.declared.Step.{Step}
use Rattle.chain.specs.declared.Chain.{Chain}
use Rattle.chain.specs.declared.Direction.{Direction}
use Rattle.chain.specs.declared.steps.Ready.{Ready}
use Rattle.chain.specs.declared.steps.Ready.TheVariants.{Fixed, Turned, Scaled}
use Rattle.chain.specs.Faults.{in_area, same_realization, step_tests, chain_tests}
use Rattle.chain.specs.Parts.{Parts, forward_by, inverse_by}
use Rattle.chain.specs.Ways.{by_way}
use Rattle.chain.specs.Convert.{Answer, moved_to, start_of, end_of}
use Rattle.chain.specs.Ready.{ready_parts, ready_for, Prepares}

-- the j-th number of the i-th row
abbrev pub number : List ℤ → ℕ → ℕ → ℤ
number l i j = get_or l (8 * i + j) (pos 0)

-- ---- the first row: the length, and datum and epoch of the start and of the end
abbrev pub length_in : List ℤ → ℤ
length_in l = number l 0 0

abbrev pub start_in : List ℤ → Realization
start_in l = record { datum = number l 0 1; epoch = number l 0 2 }

abbrev pub end_in : List ℤ → Realization
end_in l = record { datum = number l 0 3; epoch = number l 0 4 }

-- ---- a step's row: its form, and its figures
-- the forms: the same gain everywhere, Bursa-Wolf, a frame
abbrev pub fixed_form : ℤ
fixed_form = pos 0

abbrev pub turned_form : ℤ
turned_form = pos 1

abbrev pub scaled_form : ℤ
scaled_form = pos 2

abbrev pub form_range : ℤ → Bool
form_range form = within fixed_form form scaled_form

abbrev pub numbers_of : Ready → List ℤ
numbers_of (Fixed g) = fixed_form ∷ g.x ∷ g.y ∷ g.z ∷ pos 0 ∷ pos 0 ∷ pos 0 ∷ pos 0 ∷ []
numbers_of (Turned t) = turned_form ∷ t.dx ∷ t.dy ∷ t.dz ∷ t.rx ∷ t.ry ∷ t.rz ∷ t.s ∷ []
numbers_of (Scaled t) = scaled_form ∷ t.kx ∷ t.ky ∷ t.kz ∷ t.slope ∷ pos 0 ∷ pos 0 ∷ pos 0 ∷ []

-- what eight numbers say, where their form is one of the three
abbrev pub ready_of : ℤ → ℤ → ℤ → ℤ → ℤ → ℤ → ℤ → ℤ → Ready
ready_of form a b c d e f g =
    pick (equal fixed_form form) (Fixed (record { x = a; y = b; z = c }))
    (pick (equal turned_form form) (Turned (record { dx = a; dy = b; dz = c; rx = d; ry = e; rz = f; s = g })) (Scaled (record { kx = a; ky = b; kz = c; slope = d })))

unfoldable pub ready_at : List ℤ → ℕ → Ready
ready_at l i = ready_of (number l i 0) (number l i 1) (number l i 2) (number l i 3) (number l i 4) (number l i 5) (number l i 6) (number l i 7)

-- whether no figure is larger than any step gives: rotations reach 1,000,000 times 4.84813681110; a frame's shift 2,610,000 + 190·90,000 thousandths over
-- 10^14, its scale 212,000 + 11·90,000
unfoldable pub ready_range : Ready → Bool
ready_range (Fixed g) = shift_range g.x && shift_range g.y && shift_range g.z
ready_range (Turned t) =
    shift_range t.dx && shift_range t.dy && shift_range t.dz && (up_to 4848234 t.rx && up_to 4848234 t.ry && up_to 4848234 t.rz && scale_range t.s)
ready_range (Scaled t) =
    up_to 1971000000000000000 t.kx && up_to 1971000000000000000 t.ky && up_to 1971000000000000000 t.kz && up_to 1202000 t.slope

pub record Row : Type 0 where
  pub good : Bool
  pub ready : Ready

-- a row is good where a step can have given its form and its figures
unfoldable pub row_at : List ℤ → ℕ → Row
row_at l i = record { good = form_range (number l i 0) && ready_range (ready_at l i); ready = ready_at l i }

-- where a row leads from q, if it is good
abbrev pub stepped : Direction → Bool → Parts → Position → Option Position
stepped d good t q = pick good (Some (by_way d t q)) None

-- n of them, from the i-th on
unfoldable pub rows_of : List ℤ → ℕ → ℕ → List Row
rows_of l i zero = []
rows_of l i (suc n) = row_at l i ∷ rows_of l (suc i) n

-- ---- a step more, of a profile: its own 2, 3, 25, 4, then 5, 6
abbrev pub extend_tests : ℤ → ℤ → Realization → Step → List Test
extend_tests y n end s =
    step_tests y s
    ++ ((not (equal (pos 0) n || same_realization end s.before) gives refusal.join)
    ∷ (not (within (pos 0) n (pos 7)) gives refusal.ninth)
    ∷ [])

unfoldable pub extend_fault : ℤ → List ℤ → Step → ℕ
extend_fault y l s = first (extend_tests y (length_in l) (end_in l) s)

-- the first row with a step more: the first step's beginning stays
abbrev pub start_with : ℤ → Realization → Step → Realization
start_with n start s = pick (equal (pos 0) n) s.before start

abbrev pub first_row : ℤ → Realization → Realization → List ℤ
first_row n start end = n ∷ start.datum ∷ start.epoch ∷ end.datum ∷ end.epoch ∷ []

-- the step in the row past the last, and the first row
unfoldable pub kept_of : List ℤ → Step → List ℤ
kept_of l s =
    sets (sets l (8 * (nat_abs (length_in l) + 1)) (numbers_of (ready_for s))) 0
    (first_row (length_in l +ℤ pos 1) (start_with (length_in l) (start_in l) s) s.after)

-- a step that is refused leaves the numbers as they were
unfoldable pub extended_by : ℤ → List ℤ → Step → List ℤ
extended_by y l s = pick (eqb (extend_fault y l s) 0) (kept_of l s) l

-- ---- converting from the rows, for a point with no fault of its own: 6 for a length that no chain has, 9, 10, then at each step 2 for a row that no step gives,
-- and 11
abbrev pub prepared_tests : ℤ → Realization → Point → List Test
prepared_tests n wanted p =
    (not (within (pos 0) n (pos 8)) gives refusal.ninth)
    ∷ (not (equal (pos 0) n || same_realization p.realization wanted) gives refusal.start)
    ∷ (not (in_area p.position) gives refusal.area)
    ∷ []

unfoldable pub carried : (Parts → Position → Position) → Point → Realization → List Row → Position → Answer
carried f p end [] q = Ok (moved_to p end q)
carried f p end (r ∷ rs) q =
    pick r.good (pick (in_area (f (ready_parts r.ready) q)) (carried f p end rs (f (ready_parts r.ready) q)) (Err refusal.left)) (Err refusal.range)

-- the empty chain ends where the point is
abbrev pub reached_with : ℤ → Realization → Realization → Realization
reached_with n here end = pick (equal (pos 0) n) here end

unfoldable pub forward_prepared : List ℤ → Point → Answer
forward_prepared l p =
    unless (first (prepared_tests (length_in l) (start_in l) p)) Err
    (carried forward_by p (reached_with (length_in l) p.realization (end_in l)) (rows_of l 1 (nat_abs (length_in l))) p.position)

unfoldable pub inverse_prepared : List ℤ → Point → Answer
inverse_prepared l p =
    unless (first (prepared_tests (length_in l) (end_in l) p)) Err
    (carried inverse_by p (reached_with (length_in l) p.realization (start_in l)) (reverse (rows_of l 1 (nat_abs (length_in l)))) p.position)

-- ---- the numbers hold a chain of these steps, of a profile
abbrev pub chain_of : ℤ → List Step → Chain
chain_of y ss = record { steps = ss; length = length ss; profile = y }

-- each row is ready for its step
abbrev pub Readied : List Step → List Row → Type 0
Readied [] [] = Unit {0}
Readied [] (r ∷ rs) = ⊥
Readied (s ∷ ss) [] = ⊥
Readied (s ∷ ss) (r ∷ rs) = (r.good ≡ true) × (Prepares s r.ready) × Readied ss rs

-- start and end are those of the steps, if there are any
pub record ChainEnds (start end : Realization) (ss : List Step) : Type 0 where
  pub starts : start ≡ start_of start ss
  pub ends : end ≡ end_of end ss

pub record Holds (y : ℤ) (l : List ℤ) (ss : List Step) : Type 0 where
  pub room : length l ≡ 72
  pub count : length_in l ≡ pos (length ss)
  pub ends : ChainEnds (start_in l) (end_in l) ss
  pub rows : Readied ss (rows_of l 1 (length ss))
  pub sound : first (chain_tests (chain_of y ss)) ≡ 0
