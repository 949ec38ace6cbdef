-- The table of ranges: the one place that says which numbers the product takes. All ends are allowed. A range is said as `within low number high`, in this
-- order everywhere. Coordinates, shifts and heights are in units of 0.00001 m, angles and rotations in 0.00001", scales in 10^-11, epochs in thousandths of a
-- year, false eastings and northings in millimetres.
use Rattle.std.specs.Prelude.{Bool, ◌&&◌, ◌||◌, ℕ, ℤ, pos, neg_ℤ}
use Rattle.std.specs.Int.Signed.{le_z}

-- whether lo ≤ z ≤ hi
unfoldable pub within : ℤ → ℤ → ℤ → Bool
within lo z hi = le_z lo z && le_z z hi

-- whether z is at most m in size, and whether a and b are one number
abbrev pub up_to : ℕ → ℤ → Bool
up_to m z = within (neg_ℤ (pos m)) z (pos m)

abbrev pub equal : ℤ → ℤ → Bool
equal a b = within a b a

-- ---- positions and steps
-- X, Y, Z as given
abbrev pub given_range : ℤ → Bool
given_range = up_to 640000000000

-- the area, by axis
abbrev pub area_x : ℤ → Bool
area_x x = within (neg_ℤ (pos 330000000000)) x (neg_ℤ (pos 90000000000))

abbrev pub area_y : ℤ → Bool
area_y y = within (pos 540000000000) y (pos 640000000000)

abbrev pub area_z : ℤ → Bool
area_z z = within (pos 0) z (pos 90000000000)

-- the area: X, Y and Z
abbrev pub area : ℤ → ℤ → ℤ → Bool
area x y z = area_x x && area_y y && area_z z

-- dx, dy, dz
abbrev pub shift_range : ℤ → Bool
shift_range = up_to 100000000

-- rx, ry, rz
abbrev pub rotation_range : ℤ → Bool
rotation_range = up_to 1000000

-- s
abbrev pub scale_range : ℤ → Bool
scale_range = up_to 2000000

-- vx, vy, vz, units a year
abbrev pub velocity_range : ℤ → Bool
velocity_range = up_to 10000

abbrev pub datum_range : ℤ → Bool
datum_range d = within (pos 1) d (pos 10)

abbrev pub issue_range : ℤ → Bool
issue_range i = within (pos 1) i (pos 65535)

-- the order of control, first to fourth
abbrev pub order_range : ℤ → Bool
order_range o = within (pos 1) o (pos 4)

-- an epoch, or 0 for none
abbrev pub epoch_range : ℤ → Bool
epoch_range e = equal (pos 0) e || within (pos 1980000) e (pos 2100000)

-- a profile: the year of the circular that a job is under
abbrev pub profile_range : ℤ → Bool
profile_range y = equal (pos 2009) y || equal (pos 2021) y

-- ---- angles and projections
-- a code of the table of ellipsoids
abbrev pub ellipsoid_range : ℤ → Bool
ellipsoid_range z = within (pos 1) z (pos 4)

abbrev pub latitude_range : ℤ → Bool
latitude_range z = within (pos 0) z (pos 2880000000)

abbrev pub longitude_range : ℤ → Bool
longitude_range z = within (pos 35640000000) z (pos 43200000000)

abbrev pub height_range : ℤ → Bool
height_range z = within (neg_ℤ (pos 50000000)) z (pos 900000000)

-- a false easting or northing
abbrev pub offset_range : ℤ → Bool
offset_range = up_to 2000000000
