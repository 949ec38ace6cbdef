-- The lines that are read: each a list of fields, in their order, and the record that they make.
use Rattle.std.specs.Prelude.{ℕ, [], ◌∷◌, ℤ, ◌==◌}
use Rattle.refusal.specs.Order.{pick}
use Rattle.chain.specs.declared.Id.{Id}
use Rattle.chain.specs.declared.Realization.{Realization}
use Rattle.chain.specs.declared.Point.{Point}
use Rattle.chain.specs.declared.Convention.{Convention}
use Rattle.chain.specs.declared.Convention.TheVariants.{PositionVector, CoordinateFrame}
use Rattle.chain.specs.declared.Kind.{Kind}
use Rattle.chain.specs.declared.Kind.TheVariants.{Shift, Velocity, BursaWolf, Frame}
use Rattle.chain.specs.declared.Step.{Step}
use Rattle.angle.specs.declared.OriginNumbers.{OriginNumbers}
use Rattle.line.specs.declared.Geodetic.{Geodetic}
use Rattle.line.specs.declared.GridHeader.{GridHeader}
use Rattle.line.specs.declared.VelocityParts.{VelocityParts}
use Rattle.line.specs.Bytes.{letter_p, letter_s, letter_t, letter_v, letter_b, letter_f, letter_c, letter_o, letter_g, letter_e}
use Rattle.line.specs.Fields.{Form, ends, field, either, into, letter, letter_of}
use Rattle.line.specs.Name.{name_of}
use Rattle.line.specs.Number.{number_of}

abbrev pub point_of : Id → ℤ → ℤ → ℤ → ℤ → ℤ → ℤ → ℤ → Point
point_of id issue order datum epoch x y z = record { label = record { id = id; issue = issue; order = order }; realization = record { datum = datum; epoch = epoch }; position = record { x = x; y = y; z = z } }

-- P, id, issue, order, datum, epoch, X, Y, Z
unfoldable pub point_form : Form Point
point_form =
    field (letter letter_p) λ _.
    field name_of λ id.
    field number_of λ issue.
    field number_of λ order.
    field number_of λ datum.
    field number_of λ epoch.
    field number_of λ x.
    field number_of λ y.
    field number_of λ z.
    ends (point_of id issue order datum epoch x y z)

abbrev pub step_of : Realization → Realization → Kind → Step
step_of before after kind = record { kind = kind; before = before; after = after }

-- T or V: three numbers
unfoldable pub three_form : {A : Type 0} → (ℤ → ℤ → ℤ → A) → Form A
three_form of =
    field number_of λ x.
    field number_of λ y.
    field number_of λ z.
    ends (of x y z)

abbrev pub shift : ℤ → ℤ → ℤ → Kind
shift x y z = Shift (record { dx = x; dy = y; dz = z })

abbrev pub velocity : ℤ → ℤ → ℤ → Kind
velocity x y z = Velocity (record { vx = x; vy = y; vz = z })

abbrev pub convention_of : ℕ → Convention
convention_of l = pick (l == letter_p) PositionVector CoordinateFrame

-- B: P or C, dx, dy, dz, rx, ry, rz, s
unfoldable pub bursa_wolf_form : Form Kind
bursa_wolf_form =
    field (letter_of (letter_p ∷ letter_c ∷ [])) λ l.
    field number_of λ dx.
    field number_of λ dy.
    field number_of λ dz.
    field number_of λ rx.
    field number_of λ ry.
    field number_of λ rz.
    field number_of λ s.
    ends (BursaWolf (record { convention = convention_of l; dx = dx; dy = dy; dz = dz; rx = rx; ry = ry; rz = rz; s = s }))

-- F: none
unfoldable pub frame_form : Form Kind
frame_form = ends Frame

-- what stands after the second epoch, by the kind's letter
abbrev pub kind_form : ℕ → Form Kind
kind_form l = either (l == letter_t) (three_form shift) (either (l == letter_v) (three_form velocity) (either (l == letter_b) bursa_wolf_form frame_form))

-- S, kind, datum, epoch, datum, epoch, then by kind
unfoldable pub step_form : Form Step
step_form =
    field (letter letter_s) λ _.
    field (letter_of (letter_t ∷ letter_v ∷ letter_b ∷ letter_f ∷ [])) λ kind.
    field number_of λ datum.
    field number_of λ epoch.
    field number_of λ datum'.
    field number_of λ epoch'.
    into (step_of (record { datum = datum; epoch = epoch }) (record { datum = datum'; epoch = epoch' })) (kind_form kind)

-- a letter and five numbers
unfoldable pub five_form : {A : Type 0} → ℕ → (ℤ → ℤ → ℤ → ℤ → ℤ → A) → Form A
five_form l of =
    field (letter l) λ _.
    field number_of λ v.
    field number_of λ w.
    field number_of λ x.
    field number_of λ y.
    field number_of λ z.
    ends (of v w x y z)

-- O, ellipsoid, latitude, longitude, FE, FN
unfoldable pub origin_form : Form OriginNumbers
origin_form =
    field (letter letter_o) λ _.
    field number_of λ ellipsoid.
    field number_of λ latitude.
    field number_of λ longitude.
    field number_of λ easting.
    field number_of λ northing.
    ends (record { ellipsoid = ellipsoid; latitude = latitude; longitude = longitude; false_easting = easting; false_northing = northing })

-- G, id, latitude, longitude
unfoldable pub geodetic_form : Form Geodetic
geodetic_form =
    field (letter letter_g) λ _.
    field name_of λ id.
    field number_of λ latitude.
    field number_of λ longitude.
    ends (record { id = id; latitude = latitude; longitude = longitude })

-- E, year
unfoldable pub edition_form : Form ℤ
edition_form =
    field (letter letter_e) λ _.
    field number_of λ year.
    ends year

-- G, latitude, longitude, rows, columns, mesh: the header of a velocity grid
unfoldable pub grid_form : Form GridHeader
grid_form =
    field (letter letter_g) λ _.
    field number_of λ latitude.
    field number_of λ longitude.
    field number_of λ rows.
    field number_of λ columns.
    field number_of λ mesh.
    ends (record { latitude = latitude; longitude = longitude; rows = rows; columns = columns; mesh = mesh })

-- a node of one: east, north, up
unfoldable pub node_form : Form VelocityParts
node_form =
    field number_of λ east.
    field number_of λ north.
    field number_of λ up.
    ends (record { east = east; north = north; up = up })
