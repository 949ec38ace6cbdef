-- What a forward conversion can answer: a point with no fault of its own, which can be handed in again, or a number of the refusal table. Assumes nothing.
use mathlib.Core.Path.{◌≡◌, refl, ◌∙◌, ap}
use mathlib.Core.Bool.{true}
use mathlib.Core.List.{List, [], ◌∷◌, ◌++◌}
use Prim.Native.Nat.{ℕ, zero, suc, ◌<◌}
use native.Mathlib.Omega.{arith}
use lib.Dec.{T}
use lib.IntN.{ℤ}
use Rattle.refusal.specs.Order.{first, unless}
use Rattle.refusal.proofs.Orders.{short, first_short, short-append}
use Rattle.chain.specs.declared.Position.{Position}
use Rattle.chain.specs.declared.Realization.{Realization}
use Rattle.chain.specs.declared.Point.{Point}
use Rattle.chain.specs.declared.Step.{Step}
use Rattle.chain.specs.declared.Chain.{Chain}
use Rattle.chain.specs.Convert.{Answer}
use Rattle.std.specs.Prelude.{Ok, Err}
use Rattle.chain.specs.Faults.{has_datum, has_kind, has_step, given_position, in_area, point_tests, point_fault, later_tests, steps_tests, chain_tests, steps_of}
use Rattle.chain.specs.Axes.{on_x, on_y, on_z}
use Rattle.chain.specs.Convert.{Walk, at, left, walk, forward_step, start_of, end_of, realization_and_area_tests, conversion_tests, moved_to, answer_of, convert, forward_of}
use Rattle.ranges.proofs.Ranges.{all, up-to-holds}
use Rattle.chain.proofs.Within.{area_small}
use Rattle.chain.proofs.PointLaws.{Dated, point-ok, faultless}
use Rattle.chain.proofs.Walk.{walk-area}
use Rattle.chain.proofs.Accepted.{Sound, Held, converted}

-- ---- a converted point
-- where a chain ends
pub end-dated : (y : ℤ) (r : Realization) (ss : List Step) → Sound ss → Held y ss → Dated y r → Dated y (end_of r ss)
unfolding end_of has_step
end-dated y r [] ok had d = d
end-dated y r (s ∷ ss) ok had d =
    let o = ok.0 in
    let h = all (has_kind y s.kind) (has_datum y s.before) (has_datum y s.after) had.0 in
    end-dated y s.after ss ok.1 had.1 (record { range = o.after; agree = o.agreed; had = h.2 })

-- the area lies within the range of a coordinate
pub area-given : (p : Position) → in_area p ≡ true → given_position p ≡ true
unfolding given_position
area-given p h = let s = area_small p h in rw (up-to-holds 640000000000 p.x (s.on on_x), up-to-holds 640000000000 p.y (s.on on_y), up-to-holds 640000000000 p.z (s.on on_z))

module _ (c : Chain) (p : Point) where
  pub converted-faultless : (q : Point) → point_fault c.profile p ≡ 0 → forward_of c p ≡ Ok q → point_fault c.profile q ≡ 0
  unfolding forward_of
  converted-faultless q f e =
      let ss = steps_of c in
      let a = converted c p (start_of p.realization ss) (end_of p.realization ss) (walk forward_step ss p.position) q e in
      let o = point-ok c.profile p f in
      let i = walk-area forward_step ss p.position q.position a.accept.area a.ended in
      ap (point_fault c.profile) a.is
      ∙ faultless c.profile (moved_to p (end_of p.realization ss) q.position)
      (record { label = o.label; dated = end-dated c.profile p.realization ss a.accept.sound a.accept.held o.dated; given = area-given q.position i })

  -- ---- a refusal
  short-later : (s : Step) (ss : List Step) → T (short (later_tests c.profile s ss))
  short-later s [] = tt
  short-later s (t ∷ ts) = short-later t ts

  short-steps : (ss : List Step) → T (short (steps_tests c.profile ss))
  short-steps [] = tt
  short-steps (s ∷ ss) = short-later s ss

  short-tests : (wanted : Realization) → T (short (conversion_tests c p wanted))
  short-tests wanted = short-append (chain_tests c) (point_tests c.profile p ++ realization_and_area_tests p wanted) (short-steps (steps_of c)) tt

  from-walk : (r : Realization) (w : Walk) (k n : ℕ) → k < 100 → unless k Err (answer_of p r w) ≡ Err n → n < 100
  unfolding answer_of
  from-walk r (at q) zero n l e = let z : ◌≡◌ {A = ℕ} 0 1 = cc in absurd (omega arith)
  from-walk r left zero n l e = let z : 11 ≡ n = cc in omega arith
  from-walk r w (suc k) n l e = let z : suc k ≡ n = cc in omega arith

  pub refused-short : (n : ℕ) → forward_of c p ≡ Err n → n < 100
  unfolding forward_of convert
  refused-short n e =
      let ss = steps_of c in
      let wanted = start_of p.realization ss in
      from-walk (end_of p.realization ss) (walk forward_step ss p.position) (first (conversion_tests c p wanted)) n (first_short (conversion_tests c p wanted) (short-tests wanted)) e

  -- ---- so whatever holds of both holds of the answer
  pub outcome : (P : Answer → Type 0) → point_fault c.profile p ≡ 0 → ((q : Point) → point_fault c.profile q ≡ 0 → P (Ok q)) → ((n : ℕ) → n < 100 → P (Err n)) → P (forward_of c p)
  outcome P f C R = go (forward_of c p) refl
    where
      go : (a : Answer) → forward_of c p ≡ a → P a
      go (Ok q) e = C q (converted-faultless q f e)
      go (Err n) e = R n (refused-short n e)
