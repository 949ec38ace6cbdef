-- A prepared chain holds its steps, with a step more too, and what is answered from it is what the conversion answers. Assumes nothing.
use mathlib.Core.Path.{◌≡◌, refl, sym, ◌∙◌, ap, ap₂}
use mathlib.Core.Bool.{Bool, true, false, not, ◌||◌}
use mathlib.Core.List.{List, [], ◌∷◌, ◌++◌, reverse, append-nil}
use Prim.Native.Nat.{ℕ, suc, ◌+◌, ◌*◌, ◌<◌, ◌≤◌}
use native.Mathlib.Omega.{arith}
use borrow.Author.Tests.{lt-ltb, le-ltb, leb-true, leb-false, eq-eqb, ne_eqb, ltb-false}
use lib.Dec.{ltb, leb}
use lib.IntN.{ℤ, pos, nat_abs, ◌+ℤ◌}
use lib.ListN.{length, get_or, replicate, length-append}
use lib.Seq.{sets, take-length, length-sets}
use Rattle.refusal.specs.Numbers as refusal
use Rattle.refusal.specs.Order.{Test, ◌gives◌, first, unless}
use Rattle.refusal.proofs.Orders.{or_else, first-append, both-pass, head-holds, step-passed}
use Rattle.ranges.specs.Ranges.{within, equal, profile_range}
use Rattle.ranges.proofs.Ranges.{above, natural-holds, equal-self}
use Rattle.chain.specs.declared.Realization.{Realization}
use Rattle.chain.specs.declared.Point.{Point}
use Rattle.chain.specs.declared.Step.{Step}
use Rattle.chain.specs.Convert.{Answer}
use Rattle.std.specs.Prelude.{Err}
use Rattle.chain.specs.Faults.{StepOk, latest, step_fault, point_fault, profile_fault, same_realization, point_tests, step_tests, join_test, later_tests, steps_tests, chain_tests}
use Rattle.chain.specs.Parts.{forward_by, inverse_by}
use Rattle.chain.specs.Convert.{forward_step, inverse_step, start_of, end_of, joins, more_tests, realization_and_area_tests, convert, forward_of, inverse_of}
use Rattle.chain.specs.Ready.{ready_for}
use Rattle.chain.specs.Prepared.{number, length_in, start_in, end_in, numbers_of, rows_of, extend_fault, first_row, start_with, kept_of, extended_by, prepared_tests, reached_with, forward_prepared, inverse_prepared, chain_of, Readied, ChainEnds, Holds}
use Rattle.chain.proofs.Sizes.{step_ok}
use Rattle.chain.proofs.Prepared.{prepares, forward-same, inverse-same}
use Rattle.chain.proofs.Accepted.{numbered-steps}
use Rattle.chain.proofs.Meeting.{steps-joined}
use Rattle.chain.proofs.KeptRows.{before, here, after_first, first-at, same_rows, more, readied-more, readied-back}
use Rattle.chain.proofs.KeptTurns.{carried-walk}
pub use Rattle.chain.proofs.Within.{same_self}

-- ---- a length, as the code tests it
no_steps : equal (pos 0) (pos 0) ≡ true
no_steps = equal-self (pos 0)

some-steps : (n : ℕ) → equal (pos 0) (pos (suc n)) ≡ false
some-steps n = above (pos 0) (pos (suc n)) (pos 0) (lt-ltb 0 (suc n) (omega arith))

few-steps : (n m : ℕ) → n ≤ m → within (pos 0) (pos n) (pos m) ≡ true
few-steps n m h = natural-holds 0 n m (omega arith) h

many-steps : (n : ℕ) → 8 ≤ n → within (pos 0) (pos n) (pos 7) ≡ false
many-steps n h = above (pos 0) (pos n) (pos 7) (lt-ltb 7 n h)

eight-steps : (n : ℕ) → not (within (pos 0) (pos n) (pos 7)) ≡ leb 8 n
eight-steps n = go (leb 8 n) refl
  where
    go : (b : Bool) → leb 8 n ≡ b → not (within (pos 0) (pos n) (pos 7)) ≡ b
    go true e = let a = many-steps n (leb-true 8 n e) in rw a
    go false e = let a = few-steps n 7 (omega (arith, leb-false 8 n e)) in rw a

-- ---- a step in the middle of good steps
later-at : (y : ℤ) (s : Step) (a : List Step) (t : Step) (b : List Step) → first (later_tests y s (a ++ (t ∷ b))) ≡ 0 → (step_fault y t ≡ 0) × (same_realization (end_of s.after a) t.before ≡ true)
unfolding step_fault end_of
later-at y s [] t b e =
    let p = both-pass (step_tests y t) (join_test s t ∷ later_tests y t b) tt e in
    (p.0, (head-holds (same_realization s.after t.before) _ (first (later_tests y t b)) p.1).0)
later-at y s (u ∷ us) t b e =
    let p = both-pass (step_tests y u) (join_test s u ∷ later_tests y u (us ++ (t ∷ b))) tt e in
    later-at y u us t b (head-holds (same_realization s.after u.before) _ (first (later_tests y u (us ++ (t ∷ b)))) p.1).1

pub steps-at : (y : ℤ) (a : List Step) (t : Step) (b : List Step) → first (steps_tests y (a ++ (t ∷ b))) ≡ 0 → (step_fault y t ≡ 0) × (joins a t ≡ true)
unfolding step_fault end_of
steps-at y [] t b e = ((both-pass (step_tests y t) (later_tests y t b) tt e).0, same_self t.before)
steps-at y (s ∷ ss) t b e = later-at y s ss t b (both-pass (step_tests y s) (later_tests y s (ss ++ (t ∷ b))) tt e).1

-- ---- what a chain is refused for
abbrev own_tests : ℤ → ℕ → List Step → List Test
own_tests y n ss = (not (profile_range y) gives refusal.range) ∷ (ltb 8 n gives refusal.ninth) ∷ steps_tests y ss

-- what a prepared chain answers, of a point with no fault of its own, is what the conversion answers
module _ (y : ℤ) (l : List ℤ) (ss : List Step) (holds : Holds y l ss) where
  short : length ss ≤ 8
  short =
      let g = rw (take-length ss) at holds.sound in
      let f = head-holds (profile_range y) _ _ g in
      ltb-false 8 (length ss) (step-passed (ltb 8 (length ss)) refusal.ninth (first (steps_tests y ss)) tt f.1).0

  module _ (p : Point) where
    tests : (n : ℕ) (given wanted : Realization) → n ≤ 8 → (equal (pos 0) (pos n) || same_realization p.realization given) ≡ same_realization p.realization wanted → first (prepared_tests (pos n) given p) ≡ first (realization_and_area_tests p wanted)
    tests n given wanted h e = rw (few-steps n 8 h, e)

    wanted-start : (ts : List Step) → ChainEnds (start_in l) (end_in l) ts → (equal (pos 0) (pos (length ts)) || same_realization p.realization (start_in l)) ≡ same_realization p.realization (start_of p.realization ts)
    unfolding start_of
    wanted-start [] e = rw (no_steps, same_self p.realization)
    wanted-start (s ∷ ts) e = rw (some-steps (length ts)) (ap (same_realization p.realization) e.starts)

    wanted-end : (ts : List Step) → ChainEnds (start_in l) (end_in l) ts → (equal (pos 0) (pos (length ts)) || same_realization p.realization (end_in l)) ≡ same_realization p.realization (end_of p.realization ts)
    unfolding end_of
    wanted-end [] e = rw (no_steps, same_self p.realization)
    wanted-end (s ∷ ts) e = rw (some-steps (length ts)) (ap (same_realization p.realization) e.ends)

    reached-end : (ts : List Step) → ChainEnds (start_in l) (end_in l) ts → reached_with (pos (length ts)) p.realization (end_in l) ≡ end_of p.realization ts
    unfolding end_of
    reached-end [] e = rw no_steps
    reached-end (s ∷ ts) e = rw (some-steps (length ts)) e.ends

    reached-start : (ts : List Step) → ChainEnds (start_in l) (end_in l) ts → reached_with (pos (length ts)) p.realization (start_in l) ≡ start_of p.realization ts
    unfolding start_of
    reached-start [] e = rw no_steps
    reached-start (s ∷ ts) e = rw (some-steps (length ts)) e.starts

    -- a sound chain and a point with no fault leave the tests of its realization and of the area
    point-then : (n : ℕ) (wanted : Realization) → first (own_tests y n ss) ≡ 0 → point_fault y p ≡ 0 → first (own_tests y n ss ++ (point_tests y p ++ realization_and_area_tests p wanted)) ≡ first (realization_and_area_tests p wanted)
    unfolding point_fault
    point-then n wanted good fault =
        first-append (own_tests y n ss) (point_tests y p ++ realization_and_area_tests p wanted) (numbered-steps y ss)
        ∙ ap (λ (m : ℕ). or_else m (first (point_tests y p ++ realization_and_area_tests p wanted))) good
        ∙ first-append (point_tests y p) (realization_and_area_tests p wanted) tt
        ∙ ap (λ (m : ℕ). or_else m (first (realization_and_area_tests p wanted))) fault

    pub prepared-forward : point_fault y p ≡ 0 → forward_prepared l p ≡ forward_of (chain_of y ss) p
    unfolding forward_prepared forward_of convert
    prepared-forward fault =
        let g = rw (take-length ss) at holds.sound in
        rw (take-length ss, holds.count, reached-end ss holds.ends)
        (ap₂ (λ (m : ℕ) (a : Answer). unless m Err a)
        (tests (length ss) (start_in l) (start_of p.realization ss) short (wanted-start ss holds.ends) ∙ sym (point-then (length ss) (start_of p.realization ss) g fault))
        (carried-walk forward_by forward_step forward-same p (end_of p.realization ss) ss (rows_of l 1 (length ss)) p.position holds.rows))

    pub prepared-inverse : point_fault y p ≡ 0 → inverse_prepared l p ≡ inverse_of (chain_of y ss) p
    unfolding inverse_prepared inverse_of convert
    prepared-inverse fault =
        let g = rw (take-length ss) at holds.sound in
        rw (take-length ss, holds.count, reached-start ss holds.ends)
        (ap₂ (λ (m : ℕ) (a : Answer). unless m Err a)
        (tests (length ss) (end_in l) (end_of p.realization ss) short (wanted-end ss holds.ends) ∙ sym (point-then (length ss) (end_of p.realization ss) g fault))
        (carried-walk inverse_by inverse_step inverse-same p (start_of p.realization ss) (reverse ss) (reverse (rows_of l 1 (length ss))) p.position (readied-back ss (rows_of l 1 (length ss)) holds.rows)))

-- ---- a sound chain with one sound step more that joins it
alone-passes : (y : ℤ) (t : Step) → step_fault y t ≡ 0 → first (steps_tests y (t ∷ [])) ≡ 0
unfolding step_fault
alone-passes y t f = ap first (append-nil (step_tests y t)) ∙ f

pub sound_more : (y : ℤ) (ss : List Step) (t : Step) → first (chain_tests (chain_of y ss)) ≡ 0 → length ss < 8 → step_fault y t ≡ 0 → same_realization (end_of t.before ss) t.before ≡ true → first (chain_tests (chain_of y (ss ++ (t ∷ [])))) ≡ 0
sound_more y ss t e h f j =
    let g = rw (take-length ss) at e in
    let m = head-holds (profile_range y) _ _ g in
    let n = step-passed (ltb 8 (length ss)) refusal.ninth (first (steps_tests y ss)) tt m.1 in
    let a : ltb 8 (length (ss ++ (t ∷ []))) ≡ false = le-ltb 8 (length (ss ++ (t ∷ []))) (simp length-append (omega arith)) in
    rw (take-length (ss ++ (t ∷ [])), m.0, a) (steps-joined y ss (t ∷ []) n.1 (alone-passes y t f) j)

-- ---- a prepared chain with a step more
joined : (ss : List Step) (l : List ℤ) (s : Step) → ChainEnds (start_in l) (end_in l) ss → (equal (pos 0) (pos (length ss)) || same_realization (end_in l) s.before) ≡ joins ss s
unfolding end_of
joined [] l s e = rw (no_steps, same_self s.before)
joined (t ∷ ss) l s e = rw (some-steps (length ss)) (ap (λ (r : Realization). same_realization r s.before) e.ends)

-- what the numbers say of it is what the steps say
pub extend-refuses : (y : ℤ) (l : List ℤ) (ss : List Step) (s : Step) → Holds y l ss → extend_fault y l s ≡ first (step_tests y s ++ more_tests ss s)
unfolding extend_fault
extend-refuses y l ss s h = rw (h.count, joined ss l s h.ends, eight-steps (length ss))

-- of a step with no fault of its own
pub extend-joins : (y : ℤ) (l : List ℤ) (ss : List Step) (s : Step) → Holds y l ss → step_fault y s ≡ 0 → extend_fault y l s ≡ first (more_tests ss s)
unfolding step_fault
extend-joins y l ss s h f = extend-refuses y l ss s h ∙ first-append (step_tests y s) (more_tests ss s) tt ∙ ap (λ (n : ℕ). or_else n (first (more_tests ss s))) f

start-more : (ss : List Step) (start : Realization) (t : Step) → start ≡ start_of start ss → start_with (pos (length ss)) start t ≡ start_of (start_with (pos (length ss)) start t) (ss ++ (t ∷ []))
unfolding start_of
start-more [] start t e = rw no_steps
start-more (s ∷ ss) start t e = rw (some-steps (length ss)) e

end_more : (ss : List Step) (r : Realization) (t : Step) → t.after ≡ end_of r (ss ++ (t ∷ []))
unfolding end_of
end_more [] r t = refl
end_more (s ∷ ss) r t = end_more ss s.after t

module _ (y : ℤ) (l : List ℤ) (ss : List Step) (s : Step) (holds : Holds y l ss) (passed : first (step_tests y s ++ more_tests ss s) ≡ 0) where
  alone : step_fault y s ≡ 0
  unfolding step_fault
  alone = (both-pass (step_tests y s) (more_tests ss s) tt passed).0

  ok : StepOk s
  ok = step_ok y s alone

  joins-and-fits : (joins ss s ≡ true) × (leb 8 (length ss) ≡ false)
  joins-and-fits =
      let f = (both-pass (step_tests y s) (more_tests ss s) tt passed).1 in
      let g = head-holds (joins ss s) _ _ f in
      (g.0, (step-passed (leb 8 (length ss)) _ 0 tt g.1).0)

  few : length ss < 8
  few = leb-false 8 (length ss) joins-and-fits.1

  abbrev mid : List ℤ
  mid = sets l (8 * (length ss + 1)) (numbers_of (ready_for s))

  abbrev start : Realization
  start = start_with (pos (length ss)) (start_in l) s

  abbrev more_numbers : List ℤ
  more_numbers = sets mid 0 (first_row (pos (length ss) +ℤ pos 1) start s.after)

  kept-is : kept_of l s ≡ more_numbers
  unfolding kept_of
  kept-is = rw holds.count

  mid-room : length mid ≡ 72
  mid-room = length-sets l (8 * (length ss + 1)) (numbers_of (ready_for s)) ∙ holds.room

  at_first : (j : ℕ) → j < 5 → number more_numbers 0 j ≡ get_or (first_row (pos (length ss) +ℤ pos 1) start s.after) j (pos 0)
  at_first j h = first-at mid (pos (length ss) +ℤ pos 1) start s.after j h mid-room

  rows : Readied (ss ++ (s ∷ [])) (rows_of more_numbers 1 (length ss + 1))
  rows =
      let z : 1 + length ss ≡ length ss + 1 = omega arith in
      let a = same_rows l more_numbers 1 (length ss) (λ k f g. after_first mid (pos (length ss) +ℤ pos 1) start s.after k f ∙ before l (length ss + 1) (ready_for s) k (omega arith)) in
      let b = after_first mid (pos (length ss) +ℤ pos 1) start s.after (length ss + 1) (omega arith) ∙ here l (length ss + 1) (ready_for s) (omega (arith, holds.room, few)) (prepares s ok).ok in
      rw (more more_numbers 1 (length ss), a, z, b) (readied-more ss (rows_of l 1 (length ss)) s (record { good = true; ready = ready_for s }) holds.rows refl (prepares s ok))

  held : Holds y more_numbers (ss ++ (s ∷ []))
  held = record {
    room = length-sets mid 0 (first_row (pos (length ss) +ℤ pos 1) start s.after) ∙ mid-room;
    count = at_first 0 (omega arith) ∙ ap pos (sym (length-append ss (s ∷ [])));
    ends = rw (at_first 1 (omega arith), at_first 2 (omega arith), at_first 3 (omega arith), at_first 4 (omega arith)) (record { starts = start-more ss (start_in l) s holds.ends.starts; ends = end_more ss s.after s });
    rows = rw (length-append) rows;
    sound = sound_more y ss s holds.sound few alone joins-and-fits.0;
  }

  -- the extended numbers hold the chain with the step
  pub extended-holds : Holds y (extended_by y l s) (ss ++ (s ∷ []))
  unfolding extended_by
  extended-holds = rw (eq-eqb (extend_fault y l s) 0 (extend-refuses y l ss s holds ∙ passed), kept-is) held

pub extend-holds : (y : ℤ) (l : List ℤ) (ss : List Step) (s : Step) → Holds y l ss → extend_fault y l s ≡ 0 → Holds y (extended_by y l s) (ss ++ (s ∷ []))
extend-holds y l ss s h e = extended-holds y l ss s h (sym (extend-refuses y l ss s h) ∙ e)

-- what a step that extends a chain keeps
pub extend-passed : (y : ℤ) (l : List ℤ) (s : Step) → extend_fault y l s ≡ 0 → (step_fault y s ≡ 0) × (within (pos 0) (length_in l) (pos 7) ≡ true)
unfolding extend_fault step_fault
extend-passed y l s e =
    let rest = (not (equal (pos 0) (length_in l) || same_realization (end_in l) s.before) gives refusal.join) ∷ (not (within (pos 0) (length_in l) (pos 7)) gives refusal.ninth) ∷ [] in
    let f = both-pass (step_tests y s) rest tt e in
    let g = head-holds (equal (pos 0) (length_in l) || same_realization (end_in l) s.before) _ _ f.1 in
    (f.0, (head-holds (within (pos 0) (length_in l) (pos 7)) _ 0 g.1).0)

pub extended-is : (y : ℤ) (l : List ℤ) (s : Step) → extend_fault y l s ≡ 0 → extended_by y l s ≡ sets (sets l (8 * (nat_abs (length_in l) + 1)) (numbers_of (ready_for s))) 0 (first_row (length_in l +ℤ pos 1) (start_with (length_in l) (start_in l) s) s.after)
unfolding extended_by kept_of
extended-is y l s e = rw (eq-eqb (extend_fault y l s) 0 e)

pub refused-is : (y : ℤ) (l : List ℤ) (s : Step) → (extend_fault y l s ≡ 0 → ⊥) → extended_by y l s ≡ l
unfolding extended_by
refused-is y l s h = rw (ne_eqb (extend_fault y l s) 0 h)

-- all zeros hold the empty chain, and so does anything with no step
pub holds-none : (y : ℤ) (l : List ℤ) → profile_range y ≡ true → length l ≡ 72 → length_in l ≡ pos 0 → Holds y l []
unfolding rows_of start_of end_of
holds-none y l g e f = record { room = e; count = f; ends = record { starts = refl; ends = refl }; rows = tt; sound = rw g }

pub holds-fresh : Holds latest (replicate 72 (pos 0)) []
holds-fresh = holds-none latest (replicate 72 (pos 0)) (rw (above (pos 2009) latest (pos 2009) refl, equal-self latest)) refl refl

-- numbers with no step hold no step under any profile that is one
pub holds-under : (y z : ℤ) (l : List ℤ) → Holds y l [] → profile_fault z ≡ 0 → Holds z l []
unfolding profile_fault
holds-under y z l h e = holds-none z l (head-holds (profile_range z) _ _ e).0 h.room h.count
