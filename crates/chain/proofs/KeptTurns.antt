-- How the code goes over a prepared chain's rows: the tests before, a turn, the end; and that the walk over the rows is the walk over the steps. Assumes nothing.
use mathlib.Core.Path.{◌≡◌, refl, sym, ◌∙◌, ap, subst}
use mathlib.Core.Bool.{Bool, true, false, ◌||◌}
use mathlib.Core.List.{List, [], ◌∷◌}
use Prim.Native.Nat.{ℕ, zero, suc, ◌+◌, ◌<◌, ◌≤◌}
use native.Mathlib.Omega.{arith}
use lib.IntN.{ℤ, pos, nat_abs}
use lib.ListN.{length, drop}
use Rattle.refusal.specs.Numbers as refusal
use Rattle.refusal.specs.Order.{first, pick, unless}
use Rattle.refusal.proofs.Orders.{head-holds, unless-some, unless-none}
use Rattle.ranges.specs.Ranges.{within, equal}
use Rattle.chain.specs.declared.Position.{Position}
use Rattle.chain.specs.declared.Realization.{Realization}
use Rattle.chain.specs.declared.Point.{Point}
use Rattle.chain.specs.declared.Step.{Step}
use Rattle.chain.specs.declared.steps.Ready.{Ready}
use Rattle.chain.specs.Prepared.{Row}
use Rattle.chain.specs.declared.Label.{Label}
use Rattle.chain.specs.declared.Arrival.{Arrival}
use Rattle.chain.specs.declared.Direction.{Direction}
use Rattle.chain.specs.declared.Direction.TheVariants.{Forward, Inverse}
use Rattle.std.specs.Prelude.{Ok, Err, Option, Some, None}
use Rattle.chain.specs.Faults.{in_area, same_realization}
use Rattle.chain.specs.Parts.{Parts}
use Rattle.chain.specs.Ways.{either, by_way, in_order, place}
use Rattle.chain.specs.Convert.{Answer, at, left, onward, walk, answer_of, arrival_of, moved_to}
use Rattle.chain.specs.Ready.{ready_parts, Prepares}
use Rattle.chain.specs.Prepared.{length_in, start_in, end_in, row_at, rows_of, prepared_tests, carried, reached_with, stepped, Readied}
use Rattle.chain.specs.Prepared.{forward_prepared, inverse_prepared}
use Rattle.chain.specs.PointRow.{convert_prepared}
use Rattle.chain.proofs.Ways.{rest, rest_none, rest_more}
use Rattle.chain.proofs.Turns.{place_below}
use Rattle.chain.proofs.Arrivals.{KeepsLabel, arrived}

-- ---- the walk over the rows is the walk over the steps
module _ (f : Parts → Position → Position) (g : Step → Position → Position) (same : (s : Step) (r : Ready) → Prepares s r → (q : Position) → f (ready_parts r) q ≡ g s q) (p : Point) (end : Realization) where
  pub carried-walk : (ss : List Step) (rs : List Row) (q : Position) → Readied ss rs → carried f p end rs q ≡ answer_of p end (walk g ss q)
  unfolding carried walk answer_of
  carried-walk [] [] q h = refl
  carried-walk [] (r ∷ rs) q h = absurd h
  carried-walk (s ∷ ss) [] q h = absurd h
  carried-walk (s ∷ ss) (r ∷ rs) q h = rw (h.0, same s r.ready h.1 q) (inside (in_area (g s q)) (carried-walk ss rs (g s q) h.2))
    where
      inside : (b : Bool) → carried f p end rs (g s q) ≡ answer_of p end (walk g ss (g s q)) → pick b (carried f p end rs (g s q)) (Err refusal.left) ≡ answer_of p end (onward (pick b (at (g s q)) left) (walk g ss))
      inside true e = e
      inside false e = refl

-- what a point that is not refused keeps, and what is answered
pub prepared-passed : (n : ℤ) (wanted : Realization) (p : Point) → first (prepared_tests n wanted p) ≡ 0 → (within (pos 0) n (pos 8) ≡ true) × (in_area p.position ≡ true)
prepared-passed n wanted p e =
    let f = head-holds (within (pos 0) n (pos 8)) _ _ e in
    let g = head-holds (equal (pos 0) n || same_realization p.realization wanted) _ _ f.1 in
    (f.0, (head-holds (in_area p.position) _ 0 g.1).0)

-- ---- how the code answers: the tests before, then the rows
module _ (d : Direction) (l : List ℤ) (p : Point) where
  abbrev pub wanted_in : Realization
  wanted_in = either d (start_in l) (end_in l)

  abbrev pub reached_in : Realization
  reached_in = reached_with (length_in l) p.realization (either d (end_in l) (start_in l))

  abbrev pub rows_in : List Row
  rows_in = in_order d (rows_of l 1 (nat_abs (length_in l)))

prepared-is : (d : Direction) (l : List ℤ) (p : Point)
    → unless (first (prepared_tests (length_in l) (wanted_in d l p) p)) Err (carried (by_way d) p (reached_in d l p) (rows_in d l p) p.position) ≡ convert_prepared d l p
unfolding forward_prepared inverse_prepared
prepared-is Forward l p = refl
prepared-is Inverse l p = refl

module _ (d : Direction) (l : List ℤ) (p : Point) where
  pub prepared-refuses : (n : ℕ) → n ≡ first (prepared_tests (length_in l) (wanted_in d l p) p) → (n ≡ 0 → ⊥) → Err n ≡ convert_prepared d l p
  prepared-refuses n e h = rw e (sym (unless-some _ Err _ (λ z. h (e ∙ z)))) ∙ prepared-is d l p

  pub prepared-goes : first (prepared_tests (length_in l) (wanted_in d l p) p) ≡ 0 → carried (by_way d) p (reached_in d l p) (rows_in d l p) p.position ≡ convert_prepared d l p
  prepared-goes h = sym (unless-none _ Err _ h) ∙ prepared-is d l p

-- ---- a conversion keeps the label
carried-keeps : (f : Parts → Position → Position) (p : Point) (end : Realization) (rs : List Row) (q : Position) → KeepsLabel p (carried f p end rs q)
unfolding carried
carried-keeps f p end [] q = refl
carried-keeps f p end (r ∷ rs) q = go r.good (in_area (f (ready_parts r.ready) q)) _ (carried-keeps f p end rs (f (ready_parts r.ready) q))
  where
    go : (a b : Bool) (x : Answer) → KeepsLabel p x → KeepsLabel p (pick a (pick b x (Err refusal.left)) (Err refusal.range))
    go true true x h = h
    go true false x h = tt
    go false b x h = tt

pub prepared-keeps : (d : Direction) (l : List ℤ) (p : Point) → KeepsLabel p (convert_prepared d l p)
prepared-keeps d l p = subst (KeepsLabel p) (prepared-is d l p) (go (first (prepared_tests (length_in l) (wanted_in d l p) p)) _ (carried-keeps (by_way d) p (reached_in d l p) (rows_in d l p) p.position))
  where
    go : (n : ℕ) (a : Answer) → KeepsLabel p a → KeepsLabel p (unless n Err a)
    go zero a h = h
    go (suc n) a h = tt

-- the label of an answer, and where a point arrives
abbrev pub label_in : Label → Answer → Label
label_in l (Ok q) = q.label
label_in l (Err n) = l

pub forward-label : (l : List ℤ) (p : Point) → label_in p.label (forward_prepared l p) ≡ p.label
forward-label l p = go (forward_prepared l p) (prepared-keeps Forward l p)
  where
    go : (a : Answer) → KeepsLabel p a → label_in p.label a ≡ p.label
    go (Ok q) h = h
    go (Err n) h = refl

pub arrival-converted : (l : List ℤ) (p : Point) {r : Arrival} → Ok r ≡ arrival_of (forward_prepared l p) → Ok (moved_to p r.realization r.position) ≡ forward_prepared l p
arrival-converted l p {r} e = arrived p (forward_prepared l p) r (prepared-keeps Forward l p) e

-- ---- a turn of the code's loops over the rows
pub rows_long : (l : List ℤ) (k n : ℕ) → length (rows_of l k n) ≡ n
unfolding rows_of
rows_long l k zero = refl
rows_long l k (suc n) = ap suc (rows_long l (suc k) n)

pub rows_stand : (l : List ℤ) (k n i : ℕ) → i < n → drop i (rows_of l k n) ≡ row_at l (k + i) ∷ drop (i + 1) (rows_of l k n)
unfolding rows_of
rows_stand l k zero i h = absurd (omega arith)
rows_stand l k (suc n) zero h = let e : k + 0 ≡ k = omega arith in rw e refl
rows_stand l k (suc n) (suc i) h =
    let e : k + suc i ≡ suc k + i = omega arith in
    let f : suc i + 1 ≡ suc (i + 1) = omega arith in
    rw (e, f) (rows_stand l (suc k) n i (omega arith))

-- what is left after so many rows
pub rows_left : (d : Direction) (l : List ℤ) (n gone : ℕ) → gone < n
    → rest d (rows_of l 1 n) gone ≡ row_at l (1 + place d n gone) ∷ rest d (rows_of l 1 n) (gone + 1)
rows_left d l n gone h =
    let long = rows_long l 1 n in
    let at : place d (length (rows_of l 1 n)) gone ≡ place d n gone = ap (λ (m : ℕ). place d m gone) long in
    rest_more d (rows_of l 1 n) _ gone (omega (arith, long)) (rw at (rows_stand l 1 n (place d n gone) (place_below d n gone h)))

pub rows_done : (d : Direction) (l : List ℤ) (n gone : ℕ) → n ≤ gone → rest d (rows_of l 1 n) gone ≡ []
rows_done d l n gone h = rest_none d (rows_of l 1 n) gone (omega (arith, rows_long l 1 n))

module _ (f : Parts → Position → Position) (p : Point) (end : Realization) (rs more : List Row) (r : Row) (is : rs ≡ r ∷ more) (q : Position) where
  pub turn-range : r.good ≡ false → carried f p end rs q ≡ Err refusal.range
  unfolding carried
  turn-range e = rw (is, e)

  pub turn-left : r.good ≡ true → in_area (f (ready_parts r.ready) q) ≡ false → carried f p end rs q ≡ Err refusal.left
  unfolding carried
  turn-left e g = rw (is, e, g)

  pub turn_on : r.good ≡ true → in_area (f (ready_parts r.ready) q) ≡ true → carried f p end rs q ≡ carried f p end more (f (ready_parts r.ready) q)
  unfolding carried
  turn_on e g = rw (is, e, g)

pub turn_end : (f : Parts → Position → Position) (p : Point) (end : Realization) (q : Position) → carried f p end [] q ≡ Ok (moved_to p end q)
unfolding carried
turn_end f p end q = refl

-- ---- a turn of the code's loop, by where the next row leads
module _ (d : Direction) (l : List ℤ) (p : Point) (end : Realization) (n gone row : ℕ) (below : gone < n) (is : row ≡ place d n gone) (q : Position) (w : Answer)
    (leads : carried (by_way d) p end (rest d (rows_of l 1 n) gone) q ≡ w) where
  abbrev here : Row
  here = row_at l (1 + place d n gone)

  abbrev pub Moved : Option Position → Type 0
  Moved m = m ≡ stepped d (row_at l (1 + row)).good (ready_parts (row_at l (1 + row)).ready) q

  moved : (m : Option Position) → Moved m → m ≡ stepped d here.good (ready_parts here.ready) q
  moved m e = rw is at e

  missed : (good : Bool) (x : Position) → ◌≡◌ {A = Option Position} None (pick good (Some x) None) → good ≡ false
  missed true x e = cc
  missed false x e = refl

  got : (good : Bool) (x y : Position) → Some y ≡ pick good (Some x) None → (good ≡ true) × (y ≡ x)
  got true x y e = (refl, cc)
  got false x y e = (cc, cc)

  pub no_row : (m : Option Position) → Moved m → m ≡ None → Err refusal.range ≡ w
  no_row m e h =
      let bad = missed here.good _ (sym h ∙ moved m e) in
      sym (turn-range (by_way d) p end (rest d (rows_of l 1 n) gone) _ here (rows_left d l n gone below) q bad) ∙ leads

  module _ (m : Option Position) (e : Moved m) (y : Position) (h : m ≡ Some y) where
    there : (here.good ≡ true) × (y ≡ by_way d (ready_parts here.ready) q)
    there = got here.good _ y (sym h ∙ moved m e)

    pub row_out : in_area y ≡ false → Err refusal.left ≡ w
    row_out f =
        sym (turn-left (by_way d) p end (rest d (rows_of l 1 n) gone) _ here (rows_left d l n gone below) q there.0 (ap in_area (sym there.1) ∙ f)) ∙ leads

    pub row_on : in_area y ≡ true → carried (by_way d) p end (rest d (rows_of l 1 n) (gone + 1)) y ≡ w
    row_on f =
        ap (carried (by_way d) p end (rest d (rows_of l 1 n) (gone + 1))) there.1
        ∙ sym (turn_on (by_way d) p end (rest d (rows_of l 1 n) gone) _ here (rows_left d l n gone below) q there.0 (ap in_area (sym there.1) ∙ f)) ∙ leads
