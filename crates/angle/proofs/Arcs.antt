-- The meridian's length by the terms of its ellipsoid, and the projection by what the point's latitude decides, are the printed ones. Assumes nothing.
use mathlib.Core.Path.{◌≡◌, refl, ap, ◌∙◌}
use lib.IntN.{ℤ, ◌-ℤ◌}
use lib.Ieee.{Float}
use Rattle.elementary.specs.Floats.{◌⊗◌, ◌⊕◌, ◌⊖◌}
use Rattle.angle.specs.Ellipsoids.{arc_with, meridian_arc}
use Rattle.angle.specs.Units.{radians}
use Rattle.angle.specs.Terms.{terms_of, parallel_of}
use Rattle.angle.specs.Cassini.{cassini_with, cassini_at}
use Rattle.angle.specs.declared.Ellipsoid.{Ellipsoid}
use Rattle.angle.specs.declared.Origin.{Origin}
use Rattle.angle.specs.declared.Parallel.{Parallel}
use Rattle.angle.specs.declared.Terms.{Terms}

abbrev pub arc_by : Ellipsoid → Terms → Float → Float → Float → Float → Float
arc_by e t φ s2 s4 s6 = e.a ⊗ (((t.m0 ⊗ φ ⊖ t.m2 ⊗ s2) ⊕ t.m4 ⊗ s4) ⊖ t.m6 ⊗ s6)

pub arc-is : (e : Ellipsoid) (t : Terms) (φ s2 s4 s6 : Float) → t ≡ terms_of e → arc_by e t φ s2 s4 s6 ≡ arc_with e φ s2 s4 s6
unfolding terms_of arc_with
arc-is e t φ s2 s4 s6 h = ap (λ (u : Terms). arc_by e u φ s2 s4 s6) h ∙ refl

pub at-is : (o : Origin) (lat lon : ℤ) (p : Parallel) (m d : Float)
    → p ≡ parallel_of o.ellipsoid lat → m ≡ meridian_arc o.ellipsoid p.phi → d ≡ radians (lon -ℤ o.longitude)
    → cassini_with o p.sine p.cosine p.nu m d ≡ cassini_at o lat lon
unfolding parallel_of cassini_at
at-is o lat lon p m d P M D = rw (D, M, P) refl
