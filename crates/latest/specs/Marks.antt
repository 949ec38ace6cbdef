-- What the two passes over the places in order compute: a mark for each place, and the standing of its row.
use Rattle.std.specs.Prelude.{Bool, true, false, cond, not, ◌||◌, List, ℕ, zero, suc, eqb, get_or}
use Rattle.line.specs.Later.{same_bytes}

-- from the mark before: 1 where the group begins, 17 from the first two texts that differ, else 0
abbrev pub next_mark : ℕ → Bool → Bool → ℕ
next_mark before false alike = 1
next_mark before true alike = cond (eqb before 17 || not alike) 17 0

unfoldable pub mark_of : (ℕ → ℕ) → (ℕ → List ℕ) → List ℕ → ℕ → ℕ
mark_of g x o zero = 1
mark_of g x o (suc k) = next_mark (mark_of g x o k) (eqb (g (get_or o k 0)) (g (get_or o (suc k) 0))) (same_bytes (x (get_or o k 0)) (x (get_or o (suc k) 0)))

-- at the last place of an id: 17 where its last group has a 17
abbrev pub fresh : ℕ → ℕ
fresh mark = cond (eqb mark 17) 17 1

-- the standing at a place, from that at the next place
abbrev pub stand : Bool → Bool → Bool → ℕ → ℕ → ℕ
stand last sameKey same_top after mark = cond last (fresh mark) (cond same_top after (cond sameKey 0 (fresh mark)))

abbrev pub settle : ℕ → ℕ → ℕ
settle standing mark = cond (eqb standing 1) mark standing
