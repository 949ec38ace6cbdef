-- `angle::ellipsoids::arc_with` meets its contract: with the terms of its ellipsoid it is the printed length. Assumes nothing.
use Rattle.angle.proofs.Arcs.{arc-is}
use Rattle.angle.proofs.ellipsoids.arc_with.Goals as goal

pub returns : goal.returns
returns c = let a = c.args in arc-is a.k.ellipsoid a.k.terms a.latitude a.s2 a.s4 a.s6 a.k.own
