-- Points and steps with each of their numbers carried another way. An id and a convention stay as they are.
use Rattle.std.specs.Prelude.{ℤ}
use Rattle.chain.specs.declared.Position.{Position}
use Rattle.chain.specs.declared.Realization.{Realization}
use Rattle.chain.specs.declared.Label.{Label}
use Rattle.chain.specs.declared.Point.{Point}
use Rattle.chain.specs.declared.Kind.{Kind}
use Rattle.chain.specs.declared.Kind.TheVariants.{Shift, Velocity, BursaWolf, Frame}
use Rattle.chain.specs.declared.Step.{Step}

abbrev pub carried_realization : (ℤ → ℤ) → Realization → Realization
carried_realization f r = record { datum = f r.datum; epoch = f r.epoch }

abbrev pub carried_position : (ℤ → ℤ) → Position → Position
carried_position f p = record { x = f p.x; y = f p.y; z = f p.z }

abbrev pub carried_label : (ℤ → ℤ) → Label → Label
carried_label f l = record { id = l.id; issue = f l.issue; order = f l.order }

abbrev pub carried_point : (ℤ → ℤ) → Point → Point
carried_point f p =
    record {
      label = carried_label f p.label;
      realization = carried_realization f p.realization;
      position = carried_position f p.position;
    }

abbrev pub carried_kind : (ℤ → ℤ) → Kind → Kind
carried_kind f (Shift t) = Shift (record { dx = f t.dx; dy = f t.dy; dz = f t.dz })
carried_kind f (Velocity t) = Velocity (record { vx = f t.vx; vy = f t.vy; vz = f t.vz })
carried_kind f (BursaWolf t) =
    BursaWolf
    (record {
      convention = t.convention;
      dx = f t.dx;
      dy = f t.dy;
      dz = f t.dz;
      rx = f t.rx;
      ry = f t.ry;
      rz = f t.rz;
      s = f t.s;
    })
carried_kind f Frame = Frame

abbrev pub carried_step : (ℤ → ℤ) → Step → Step
carried_step f s = record { kind = carried_kind f s.kind; before = carried_realization f s.before; after = carried_realization f s.after }
