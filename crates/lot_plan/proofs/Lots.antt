-- A lot, part by part: where each part answers, the lot is what the next part makes of it. Assumes nothing.
use mathlib.Core.Path.{◌≡◌, refl, sym, ap, ◌∙◌}
use mathlib.Core.List.{List}
use native.Mathlib.Omega.{arith}
use Prim.Native.Nat.{ℕ}
use lib.IntN.{ℤ}
use Rattle.std.proofs.Common.{Result, Ok, Err}
use Rattle.chain.specs.declared.Point.{Point}
use Rattle.chain.specs.Prepared.{forward_prepared}
use Rattle.chain.proofs.Keeping.{prepared-forward}
use Rattle.angle.specs.declared.OriginNumbers.{OriginNumbers}
use Rattle.line.specs.Answers.{Line, Good, Malformed, Refused}
use Rattle.line.specs.Readers.{read_point}
use Rattle.line.proofs.Readers.{point-sound}
use Rattle.lot_plan.specs.LotPlan.{Laid, Chained, refused, chain_text, on_point, on_answer, laid_from, lot_of}
use Rattle.lot_plan.specs.Reading.{point_told}
use Rattle.lot_plan.proofs.Text.{Found}

pub good : (l : Line Point) (p : Point) → Ok p ≡ point_told l → l ≡ Good p
good (Good q) p e = cc
good (Malformed f) p e = let z : ◌≡◌ {A = ℕ} 0 1 = cc in absurd (omega arith)
good (Refused n) p e = let z : ◌≡◌ {A = ℕ} 0 1 = cc in absurd (omega arith)

bad : (l : Line Point) (n : ℕ) (next : Point → Laid) → Err n ≡ point_told l → on_point l next ≡ Err n
bad (Good q) n next e = let z : ◌≡◌ {A = ℕ} 0 1 = cc in absurd (omega arith)
bad (Malformed f) n next e = cc
bad (Refused m) n next e = cc

module _ (text point : List ℕ) (o : OriginNumbers) where
  pub no-chain : (n : ℕ) → chain_text text ≡ refused n → lot_of text point o ≡ Err n
  unfolding lot_of
  no-chain n e = rw e

  module _ (numbers : List ℤ) (y : ℤ) (f : Found (chain_text text) y numbers) where
    pub no-point : (n : ℕ) → Err n ≡ point_told (read_point y point) → lot_of text point o ≡ Err n
    unfolding lot_of
    no-point n e = rw f.is (bad (read_point y point) n _ e)

    pub along : (p : Point) → Ok p ≡ point_told (read_point y point) → lot_of text point o ≡ on_answer (forward_prepared numbers p) (laid_from o)
    unfolding lot_of
    along p e =
        let g = good (read_point y point) p e in
        rw (f.is, g) (ap (λ (a : Result Point ℕ). on_answer a (laid_from o)) (sym (prepared-forward _ _ f.steps f.holds _ (point-sound _ _ _ g))))
