-- Worked values: the turn bit for bit, each step from the bits of those before it (docs/ORDERS.md, section 6: station ARAU); and a grid of three rows and
-- three columns, whose last node has no value: halves, edges, corners, and refusals in their order. Assumes nothing.
use mathlib.Core.Path.{◌≡◌, refl}
use mathlib.Core.List.{List, [], ◌∷◌, ◌++◌}
use Rattle.std.specs.Prelude.{Result, Ok, Err}
use Prim.Native.Nat.{ℕ}
use lib.IntN.{ℤ, pos, negsuc, neg_ℤ}
use lib.Ieee.{Float, binary64, round, neg, sub, add, mul, div, of_int, of_bits}
use Rattle.elementary.specs.Series.{sine_of, cosine_of}
use Rattle.refusal.specs.Numbers as refusal
use Rattle.elementary.specs.Floats.{whole}
use Rattle.angle.specs.Units.{radians}
use Rattle.angle.specs.Worked.{open_angles}
use Rattle.chain.specs.Case.{answer}
use Rattle.velocity_grid.specs.Bilinear.{blend, weighted_sum, bilinear}
use Rattle.velocity_grid.specs.OnGrid.{size_range, mesh_range, grid_range, mesh_of, nodes_of, on_axis, axis_cell_of, on_grid, along_of, cell_of}
use Rattle.velocity_grid.specs.AtPoint.{known, cell_known, corners_of, part_of, parts_in, parts_at}
use Rattle.velocity_grid.specs.Turn.{turned_by, in_units}
use Rattle.velocity_grid.specs.Step.{velocity_for}
use Rattle.line.specs.declared.GridHeader.{GridHeader}
use Rattle.velocity_grid.specs.declared.Turned.{Turned}
use Rattle.chain.specs.declared.Velocity.{Velocity}
use Rattle.line.specs.declared.VelocityParts.{VelocityParts}

abbrev f64 : ℕ → Float
f64 n = of_bits binary64 n

-- ---- ARAU: φ and w, their sines and cosines, and the three rows
found : List Float
found =
    radians (pos 2322056909)
    ∷ radians (pos 3700705076)
    ∷ sine_of (f64 0x3fbcd1d02fac2dde)
    ∷ cosine_of (f64 0x3fbcd1d02fac2dde)
    ∷ cosine_of (f64 0x3fc6f71428f7ac12)
    ∷ neg (sine_of (f64 0x3fc6f71428f7ac12))
    ∷ []

expected : List Float
expected = f64 0x3fbcd1d02fac2dde ∷ f64 0x3fc6f71428f7ac12 ∷ f64 0x3fbcc23d4646210c ∷ f64 0x3fefcc24ef6af4b4 ∷ f64 0x3fef7c80f679be33 ∷ f64 0xbfc6d796a06aae4a ∷ []

angles-worked : found ≡ expected
unfolding found expected open_angles round neg add mul div of_int of_bits
angles-worked = refl

at-arau : Turned
at-arau =
    turned_by (f64 0x3fbcc23d4646210c) (f64 0x3fefcc24ef6af4b4) (f64 0x3fef7c80f679be33) (f64 0xbfc6d796a06aae4a)
    (whole (neg_ℤ (pos 18079))) (whole (neg_ℤ (pos 10098))) (whole (neg_ℤ (pos 1687)))

turn-worked : at-arau ≡ record { x = f64 0x40d177608793c32d; y = f64 0x40a50a195b973a08; z = f64 0xc0c3f7cc2494afb4 }
unfolding at-arau turned_by round neg sub add mul of_int of_bits
turn-worked = refl

-- rounded; and the faults of a step of it: the datum, its epoch, an epoch 0
answers : List (Result Velocity ℕ)
answers =
    let v = in_units (record { x = f64 0x40d177608793c32d; y = f64 0x40a50a195b973a08; z = f64 0xc0c3f7cc2494afb4 }) in
    let small = Ok (record { vx = negsuc 1873; vy = negsuc 168; vz = negsuc 501 }) in
    v
    ∷ velocity_for small (pos 10) (pos 2010000) (pos 2020000)
    ∷ velocity_for small (pos 11) (pos 2010000) (pos 2020000)
    ∷ velocity_for small (pos 10) (pos 0) (pos 2020000)
    ∷ velocity_for small (pos 1) (pos 0) (pos 0)
    ∷ []

answered : answers
    ≡ (Ok (record { vx = pos 17886; vy = pos 2693; vz = negsuc 10223 })
    ∷ Ok (record { vx = negsuc 1873; vy = negsuc 168; vz = negsuc 501 })
    ∷ Err refusal.range
    ∷ Err refusal.epoch
    ∷ Err refusal.kind
    ∷ [])
unfolding answers in_units velocity_for answer round of_bits
answered = refl

-- ---- a grid from 4 degrees north and 102 degrees east, a mesh of 5 minutes (30,000,000 units)
header : GridHeader
header = record { latitude = pos 1440000000; longitude = pos 36720000000; rows = pos 3; columns = pos 3; mesh = pos 5 }

-- east, north and up of each node, eastward, rows going north
first_eight : List ℤ
first_eight =
    pos 0 ∷ pos 0 ∷ pos 10
    ∷ pos 1 ∷ negsuc 0 ∷ pos 2500
    ∷ negsuc 2499 ∷ pos 2500 ∷ pos 0
    ∷ pos 1 ∷ negsuc 0 ∷ pos 13
    ∷ pos 1001 ∷ negsuc 1000 ∷ pos 7
    ∷ pos 400 ∷ negsuc 299 ∷ negsuc 8
    ∷ pos 3 ∷ pos 4 ∷ pos 5
    ∷ negsuc 5 ∷ negsuc 6 ∷ negsuc 7
    ∷ []

-- the ninth without a value, and with one
missing : List ℤ
missing = first_eight ++ (pos 9999 ∷ pos 0 ∷ pos 0 ∷ [])

whole-grid : List ℤ
whole-grid = first_eight ++ (pos 12 ∷ negsuc 12 ∷ pos 14 ∷ [])

abbrev parts : ℤ → ℤ → ℤ → Result VelocityParts ℕ
parts e n u = Ok (record { east = e; north = n; up = u })

abbrev at : ℕ → ℕ → Result VelocityParts ℕ
at lat lon = parts_at header missing (pos lat) (pos lon)

-- a node; halves of both signs; a quarter north and a half east; off the middle; nodes on the outer edges, and next to them; the cell to the north-east,
-- whose node has no value; the cell just south of it; the corner; one unit off each edge; angles out of their ranges; a number too few; a header's mesh
points : List (Result VelocityParts ℕ)
points =
    at 1440000000 36720000000
    ∷ at 1455000000 36720000000
    ∷ at 1447500000 36735000000
    ∷ at 1450000000 36750000001
    ∷ at 1440000000 36750000000
    ∷ at 1500000000 36720000000
    ∷ at 1500000000 36749999999
    ∷ at 1470000000 36750000000
    ∷ at 1469999999 36780000000
    ∷ at 1500000000 36780000000
    ∷ parts_at header whole-grid (pos 1500000000) (pos 36780000000)
    ∷ parts_at header whole-grid (pos 1470000000) (pos 36750000000)
    ∷ at 1439999999 36720000000
    ∷ at 1440000000 36719999999
    ∷ at 1500000001 36720000000
    ∷ at 1440000000 36780000001
    ∷ parts_at header missing (negsuc 0) (pos 36720000000)
    ∷ at 1440000000 43200000001
    ∷ parts_at header first_eight (negsuc 0) (pos 0)
    ∷ parts_at (record { latitude = pos 1440000000; longitude = pos 36720000000; rows = pos 3; columns = pos 3; mesh = pos 6 }) [] (pos 0) (pos 0)
    ∷ []

points-worked : points
    ≡ (parts (pos 0) (pos 0) (pos 10)
    ∷ parts (pos 1) (negsuc 0) (pos 12)
    ∷ parts (pos 126) (negsuc 125) (pos 944)
    ∷ parts (pos 334) (negsuc 333) (pos 1669)
    ∷ parts (pos 1) (negsuc 0) (pos 2500)
    ∷ parts (pos 3) (pos 4) (pos 5)
    ∷ parts (negsuc 5) (negsuc 6) (negsuc 7)
    ∷ Err refusal.off_grid
    ∷ parts (pos 400) (negsuc 299) (negsuc 8)
    ∷ Err refusal.off_grid
    ∷ parts (pos 12) (negsuc 12) (pos 14)
    ∷ parts (pos 1001) (negsuc 1000) (pos 7)
    ∷ Err refusal.off_grid
    ∷ Err refusal.off_grid
    ∷ Err refusal.off_grid
    ∷ Err refusal.off_grid
    ∷ Err refusal.geodetic
    ∷ Err refusal.geodetic
    ∷ Err refusal.lines
    ∷ Err refusal.range
    ∷ [])
unfolding points header first_eight missing whole-grid parts_at parts_in part_of corners_of cell_known known cell_of along_of axis_cell_of on_grid on_axis mesh_of nodes_of grid_range size_range mesh_range bilinear weighted_sum blend answer
points-worked = refl
