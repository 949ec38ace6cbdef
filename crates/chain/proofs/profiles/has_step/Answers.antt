-- `chain::profiles::has_step` meets its contract. Assumes nothing.
use mathlib.Core.Path.{◌≡◌, sym, ◌∙◌, ap}
use mathlib.Core.Bool.{true, false, ◌&&◌}
use lib.IntN.{ℤ, pos}
use Rattle.rounding.proofs.Machine.{rd}
use Rattle.ranges.specs.Ranges.{equal}
use Rattle.chain.specs.declared.Kind.{Kind}
use Rattle.chain.specs.declared.Kind.TheVariants.{Shift, Velocity, BursaWolf, Frame}
use Rattle.chain.specs.declared.Step.{Step}
use Rattle.chain.specs.Faults.{has_datum, has_kind, has_step}
use Rattle.chain.proofs.profiles.has_step.Goals as goal

-- an edition that lacks nothing
lacks-none : (y : ℤ) (s : Step) → equal (pos 2009) y ≡ false → true ≡ has_step y s
unfolding has_step has_kind has_datum
lacks-none y s e = go s.kind
  where
    go : (k : Kind) → true ≡ has_kind y k && has_datum y s.before && has_datum y s.after
    go (Shift t) = rw e
    go (Velocity t) = rw e
    go (BursaWolf t) = rw e
    go Frame = rw e

pub returns-then-not-equal : goal.returns-then-not-equal
returns-then-not-equal c =
    let s = c in
    let e = c.equal.ensures ∙ ap (λ (z : ℤ). equal (pos 2009) z) (rd s.ranges.profile) in
    lacks-none s.args.profile s.args.step (sym e ∙ c.if-not-equal.true)
