-- `oblique_mercator::limits::in_range` meets its contract. Assumes nothing.
use mathlib.Core.Path.{◌∙◌, ap, ap₂}
use mathlib.Core.Bool.{◌&&◌}
use Rattle.rounding.proofs.Machine.{told}
use Rattle.ranges.specs.Ranges.{ellipsoid_range, longitude_range, offset_range}
use Rattle.oblique_mercator.specs.Parameters.{centre_range, angle_range, centre_scale_range, parameters_range}
use Rattle.oblique_mercator.proofs.limits.in_range.Goals as goal

pub returns : goal.returns
unfolding parameters_range
returns c =
    let t = c.struct_told-1.given in
    ap₂ ◌&&◌
    (ap₂ ◌&&◌
    (ap₂ ◌&&◌
    (ap₂ ◌&&◌
    (ap₂ ◌&&◌
    (ap₂ ◌&&◌
    (ap₂ ◌&&◌ (c.is_ellipsoid.ensures ∙ ap ellipsoid_range (told t.0.1)) (c.within.ensures ∙ ap centre_range (told t.1.0.1)))
    (c.is_longitude.ensures ∙ ap longitude_range (told t.1.1.0.1)))
    (c.is_angle.ensures ∙ ap angle_range (told t.1.1.1.0.1)))
    (c.is_angle-2.ensures ∙ ap angle_range (told t.1.1.1.1.0.1)))
    (c.within-2.ensures ∙ ap centre_scale_range (told t.1.1.1.1.1.0.1)))
    (c.is_offset.ensures ∙ ap offset_range (told t.1.1.1.1.1.1.0.1)))
    (c.is_offset-2.ensures ∙ ap offset_range (told t.1.1.1.1.1.1.1.0.1))
