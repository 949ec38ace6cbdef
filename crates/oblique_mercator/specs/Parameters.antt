-- The parameters of the projection, in whole numbers: their ranges, and an angle used less a full turn. Angles in units of 0.00001", the scale in 10^-11.
use Rattle.std.specs.Prelude.{Bool, ◌&&◌, ◌||◌, ℤ, pos, ◌-ℤ◌}
use Rattle.refusal.specs.Order.{pick}
use Rattle.ranges.specs.Ranges.{within, ellipsoid_range, longitude_range, offset_range}
use Rattle.oblique_mercator.specs.declared.Parameters.{Parameters}

-- the centre's latitude: 1 to 8 degrees
abbrev pub centre_range : ℤ → Bool
centre_range z = within (pos 360000000) z (pos 2880000000)

-- 300 to 330 degrees
abbrev pub past_turn : ℤ → Bool
past_turn z = within (pos 108000000000) z (pos 118800000000)

-- the azimuth and the rectified angle: 30 to 60 degrees, or 300 to 330
abbrev pub angle_range : ℤ → Bool
angle_range z = within (pos 10800000000) z (pos 21600000000) || past_turn z

-- the latter are used less 360 degrees
unfoldable pub reduced : ℤ → ℤ
reduced z = pick (past_turn z) (z -ℤ pos 129600000000) z

-- 0.99 to 1.01
abbrev pub centre_scale_range : ℤ → Bool
centre_scale_range z = within (pos 99000000000) z (pos 101000000000)

unfoldable pub parameters_range : Parameters → Bool
parameters_range p =
    ellipsoid_range p.ellipsoid
    && centre_range p.latitude
    && longitude_range p.longitude
    && angle_range p.azimuth
    && angle_range p.rectified
    && centre_scale_range p.scale
    && offset_range p.false_easting
    && offset_range p.false_northing
