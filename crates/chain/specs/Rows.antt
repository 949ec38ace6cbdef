-- The ITRF rows to ITRF2014, figures from IGN's table. Rotations are zero in these rows.
use Rattle.std.specs.Prelude.{List, [], ◌∷◌, ℕ, ℤ, pos, neg_ℤ, get_or}
use Rattle.refusal.specs.Order.{pick}
use Rattle.ranges.specs.Ranges.{equal}

-- T x, y, z in units; Tv x, y, z in units a year; D in 10^-11; Dv in 10^-11 a year
abbrev pub rows : List (List ℤ)
rows =
    -- ITRF2000, datums 5 to 8
    (pos 70 ∷ pos 120 ∷ neg_ℤ (pos 2610) ∷ pos 10 ∷ pos 10 ∷ neg_ℤ (pos 190) ∷ pos 212 ∷ pos 11 ∷ [])
    -- ITRF2008, datum 9
    ∷ (pos 160 ∷ pos 190 ∷ pos 240 ∷ pos 0 ∷ pos 0 ∷ neg_ℤ (pos 10) ∷ neg_ℤ (pos 2) ∷ pos 3 ∷ [])
    ∷ []

-- the row of a datum before
unfoldable pub row_index : ℤ → ℕ
row_index datum = pick (equal (pos 9) datum) 1 0

unfoldable pub row_of : ℤ → List ℤ
row_of datum = get_or rows (row_index datum) []

-- a row's figures
abbrev pub figure : List ℤ → ℕ → ℤ
figure row i = get_or row i (pos 0)
