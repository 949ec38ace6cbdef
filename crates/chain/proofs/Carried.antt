-- What a point or a step is refused for by itself cannot tell it from the same with its numbers carried another way, where the ranges can't. Assumes nothing.
use Prim.Native.Nat.{ℕ}
use mathlib.Core.Path.{◌≡◌, refl, ap}
use mathlib.Core.Bool.{Bool, true, false, not, ◌&&◌}
use mathlib.Core.List.{[], ◌∷◌}
use lib.IntN.{ℤ}
use native.Mathlib.Omega.{arith}
use Rattle.refusal.specs.Order.{first, pick, ◌gives◌}
use Rattle.refusal.specs.Numbers as refusal
use Rattle.ranges.specs.Ranges.{datum_range, epoch_range, issue_range, order_range, shift_range, rotation_range, scale_range}
use Rattle.ranges.proofs.Ranges.{both}
use Rattle.ranges.proofs.Carried.{Sure, Careful, Carries, same-both, three-same, three-kept, sure-datum, sure-epoch, sure-issue, sure-order, sure-given, sure-shift, sure-velocity, sure-rotation, sure-scale}
use Rattle.chain.specs.declared.Kind.{Kind}
use Rattle.chain.specs.declared.Kind.TheVariants.{Shift, Velocity, BursaWolf, Frame}
use Rattle.chain.specs.Faults.{realization_range, agrees, has_datum, has_step, given_position, label_range, point_range, point_fault, kind_range, kind_rule, step_range, step_fault}
use Rattle.chain.specs.Carried.{carried_realization, carried_position, carried_label, carried_point, carried_kind, carried_step}

-- the first test of a fault is sure: so is the fault
careful-first : {A : Type 0} {carried : A → A} {test : A → Bool} (rest : A → ℕ) (n : ℕ) → (n ≡ 0 → ⊥) → Sure carried test
    → Careful (λ a. pick (not (test a)) n (rest a)) carried
careful-first {A} {carried} {test} rest n z p = record { same = λ a. same a (test a) refl; kept = λ a e. kept a (test a) refl e }
  where
    same : (a : A) (b : Bool) → test a ≡ b → pick (not (test (carried a))) n (rest (carried a)) ≡ pick (not (test a)) n (rest a)
    same a true e = ap (λ (x : A). pick (not (test x)) n (rest x)) (p.kept a e)
    same a false e = rw (p.same a, e)

    kept : (a : A) (b : Bool) → test a ≡ b → pick (not b) n (rest a) ≡ 0 → carried a ≡ a
    kept a true e q = p.kept a e
    kept a false e q = absurd (z q)

module _ {carried : ℤ → ℤ} (c : Carries carried) where
  -- ---- points
  sure-label : Sure (carried_label carried) label_range
  unfolding label_range
  sure-label =
      record {
        same = λ l. same-both ((sure-issue c).same l.issue) ((sure-order c).same l.order);
        kept = λ l e. let s = both (issue_range l.issue) (order_range l.order) e in rw ((sure-issue c).kept l.issue s.0, (sure-order c).kept l.order s.1);
      }

  sure-realization : Sure (carried_realization carried) realization_range
  unfolding realization_range
  sure-realization =
      record {
        same = λ r. same-both ((sure-datum c).same r.datum) ((sure-epoch c).same r.epoch);
        kept = λ r e. let s = both (datum_range r.datum) (epoch_range r.epoch) e in rw ((sure-datum c).kept r.datum s.0, (sure-epoch c).kept r.epoch s.1);
      }

  sure-position : Sure (carried_position carried) given_position
  unfolding given_position
  sure-position =
      record {
        same = λ p. three-same (sure-given c) p.x p.y p.z;
        kept = λ p e. let s = three-kept (sure-given c) p.x p.y p.z e in rw (s.0, s.1, s.2);
      }

  sure-point : Sure (carried_point carried) point_range
  unfolding point_range
  sure-point =
      record {
        same = λ p. same-both (same-both (sure-label.same p.label) (sure-realization.same p.realization)) (sure-position.same p.position);
        kept =
            λ p e.
            let s = both (label_range p.label && realization_range p.realization) (given_position p.position) e in
            let t = both (label_range p.label) (realization_range p.realization) s.0 in
            rw (sure-label.kept p.label t.0, sure-realization.kept p.realization t.1, sure-position.kept p.position s.1);
      }

  pub careful-point : (y : ℤ) → Careful (point_fault y) (carried_point carried)
  unfolding point_fault
  careful-point y =
      careful-first (λ p. first ((not (agrees p.realization) gives refusal.epoch) ∷ (not (has_datum y p.realization) gives refusal.profile) ∷ [])) refusal.range (λ e. omega arith) sure-point

  -- ---- steps
  sure-kind : Sure (carried_kind carried) kind_range
  unfolding kind_range
  sure-kind = record { same = same; kept = kept }
    where
      same : (k : Kind) → kind_range (carried_kind carried k) ≡ kind_range k
      same (Shift t) = three-same (sure-shift c) t.dx t.dy t.dz
      same (Velocity t) = three-same (sure-velocity c) t.vx t.vy t.vz
      same (BursaWolf t) =
          same-both (three-same (sure-shift c) t.dx t.dy t.dz) (same-both (three-same (sure-rotation c) t.rx t.ry t.rz) ((sure-scale c).same t.s))
      same Frame = refl

      kept : (k : Kind) → kind_range k ≡ true → carried_kind carried k ≡ k
      kept (Shift t) e = let s = three-kept (sure-shift c) t.dx t.dy t.dz e in rw (s.0, s.1, s.2)
      kept (Velocity t) e = let s = three-kept (sure-velocity c) t.vx t.vy t.vz e in rw (s.0, s.1, s.2)
      kept (BursaWolf t) e =
          let h = both (shift_range t.dx && shift_range t.dy && shift_range t.dz) (rotation_range t.rx && rotation_range t.ry && rotation_range t.rz && scale_range t.s) e in
          let d = three-kept (sure-shift c) t.dx t.dy t.dz h.0 in
          let k = both (rotation_range t.rx && rotation_range t.ry && rotation_range t.rz) (scale_range t.s) h.1 in
          let r = three-kept (sure-rotation c) t.rx t.ry t.rz k.0 in
          rw (d.0, d.1, d.2, r.0, r.1, r.2, (sure-scale c).kept t.s k.1)
      kept Frame e = refl

  sure_step : Sure (carried_step carried) step_range
  unfolding step_range
  sure_step =
      record {
        same = λ s. same-both (same-both (sure-kind.same s.kind) (sure-realization.same s.before)) (sure-realization.same s.after);
        kept =
            λ s e.
            let h = both (kind_range s.kind && realization_range s.before) (realization_range s.after) e in
            let k = both (kind_range s.kind) (realization_range s.before) h.0 in
            rw (sure-kind.kept s.kind k.0, sure-realization.kept s.before k.1, sure-realization.kept s.after h.1);
      }

  pub careful-step : (y : ℤ) → Careful (step_fault y) (carried_step carried)
  unfolding step_fault
  careful-step y =
      careful-first
      (λ s. first ((not (agrees s.before && agrees s.after) gives refusal.epoch) ∷ (not (has_step y s) gives refusal.profile) ∷ (not (kind_rule s.kind s.before s.after) gives refusal.kind) ∷ []))
      refusal.range (λ e. omega arith) sure_step
