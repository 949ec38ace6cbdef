-- East, north and up turned to X, Y, Z: document 002's matrix (3.4.2), in the order of docs/ORDERS.md, section 6.
use Rattle.std.specs.Prelude.{ℕ, ℤ, pos, ◌-ℤ◌, Float, Result, Ok, Err}
use Rattle.std.specs.Float.Ieee.{neg}
use Rattle.rounding.specs.Decimals.{Rounded, rounded_of}
use Rattle.elementary.specs.Floats.{◌⊗◌, ◌⊕◌, ◌⊖◌, whole}
use Rattle.elementary.specs.Series.{sine_of, cosine_of}
use Rattle.angle.specs.Units.{radians}
use Rattle.chain.specs.declared.Velocity.{Velocity}
use Rattle.line.specs.declared.VelocityParts.{VelocityParts}
use Rattle.velocity_grid.specs.declared.Turned.{Turned}

-- of the sines and cosines of the latitude φ and the longitude λ, and the three parts as f64
unfoldable pub turned_by : Float → Float → Float → Float → Float → Float → Float → Turned
turned_by sinφ cosφ sinλ cosλ e n u = record {
  x = (neg sinλ ⊗ e ⊖ (sinφ ⊗ cosλ) ⊗ n) ⊕ (cosφ ⊗ cosλ) ⊗ u;
  y = (cosλ ⊗ e ⊖ (sinφ ⊗ sinλ) ⊗ n) ⊕ (cosφ ⊗ sinλ) ⊗ u;
  z = cosφ ⊗ n ⊕ sinφ ⊗ u;
}

-- the longitude goes in as w, its part past 90 degrees, the difference in whole numbers: cos λ = -sin w, sin λ = cos w
unfoldable pub turned_at : VelocityParts → ℤ → ℤ → Turned
unfolding turned_by
turned_at p latitude longitude =
    let φ = radians latitude in
    let w = radians (longitude -ℤ pos 32400000000) in
    turned_by (sine_of φ) (cosine_of φ) (cosine_of w) (neg (sine_of w)) (whole p.east) (whole p.north) (whole p.up)

-- all three, or the first refusal
abbrev pub three : Rounded → Rounded → Rounded → Result Velocity ℕ
three (Err n) y z = Err n
three (Ok x) (Err n) z = Err n
three (Ok x) (Ok y) (Err n) = Err n
three (Ok x) (Ok y) (Ok z) = Ok (record { vx = x; vy = y; vz = z })

-- whole units a year: each by the rounding, 0 places
unfoldable pub in_units : Turned → Result Velocity ℕ
in_units t = three (rounded_of t.x 0) (rounded_of t.y 0) (rounded_of t.z 0)
