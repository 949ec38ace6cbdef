-- A grid's text, line by line: what the walk over it keeps, and what an accepted text has. Assumes nothing.
use mathlib.Core.Path.{◌≡◌, refl, sym, ◌∙◌, ap, ap₂, subst}
use mathlib.Core.Bool.{Bool, true, false}
use mathlib.Core.List.{List, [], ◌∷◌}
use Rattle.std.specs.Prelude.{Result, Ok, Err}
use Prim.Native.Nat.{ℕ, zero, suc, ◌+◌, ◌-◌, ◌*◌, ◌≤◌, ◌<◌}
use native.Mathlib.Decide.{dec_lt}
use native.Mathlib.Numerals.{add-one}
use native.Mathlib.Omega.{arith}
use borrow.Author.Tests.{eq-eqb, ne_eqb, eqb-true, eqb-false}
use lib.Dec.{eqb}
use lib.IntN.{ℤ, nat_abs}
use lib.ListN.{length, take, drop, length-drop, length-take}
use lib.Seq.{sets}
use Rattle.refusal.specs.Numbers as refusal
use Rattle.refusal.specs.Order.{pick}
use Rattle.line.specs.Lines.{lines, line_end}
use Rattle.line.specs.Malformed.{fault}
use Rattle.line.specs.Readers.{read_grid_header, read_node}
use Rattle.line.specs.declared.GridHeader.{GridHeader}
use Rattle.line.specs.Answers.{Fault}
use Rattle.line.proofs.Lines.{at-end, Piece, piece, lines_none}
use Rattle.velocity_grid.specs.OnGrid.{grid_range, nodes_of}
use Rattle.velocity_grid.proofs.OnGrid as on-grid
use Rattle.velocity_grid.specs.Text.{on_line, miscounted, or_else, node_fault, nodes_fault, unless_grid_fault, headed, grid_in, grid_of, values_of, three_numbers, nodes_in, after_first, grid_numbers}
use Rattle.velocity_grid.specs.Reading.{awaited_fault}
use Rattle.velocity_grid.specs.Answers.{GridFault, faultless}

-- ---- the line that begins at `from`, which past the end of the text is empty
pub record LineEnds (s : List ℕ) (from e : ℕ) : Type 0 where
  pub after : from ≤ e
  pub inside : e ≤ length s

pub ends : (s : List ℕ) (from e : ℕ) → e ≡ line_end s from → from ≤ length s → LineEnds s from e
ends s from e q h = go (dec_lt from (length s))
  where
    go : Dec (from < length s) → LineEnds s from e
    go (yes l) = let p = piece s from e q l in record { after = omega (arith, p.some); inside = p.inside }
    go (no l) = let z = at-end s from from (record { ends = refl }) (omega arith) in record { after = omega arith; inside = omega arith }

-- ---- what is wrong with the nodes' lines: the next one decides, or those after it
pub nodes-on : (s : List ℕ) (from e n left : ℕ) → e ≡ line_end s from → from ≤ length s → 0 < left
    → nodes_fault left n (lines (drop from s)) ≡ or_else (awaited_fault n (take (e - from) (drop from s))) (nodes_fault (left - 1) (n + 1) (lines (drop e s)))
unfolding nodes_fault awaited_fault
nodes-on s from e n zero q h l = absurd (omega arith)
nodes-on s from e n (suc k) q h l = go (dec_lt from (length s))
  where
    less : suc k - 1 ≡ k
    less = omega arith

    go : Dec (from < length s) → nodes_fault (suc k) n (lines (drop from s)) ≡ or_else (awaited_fault n (take (e - from) (drop from s))) (nodes_fault (suc k - 1) (n + 1) (lines (drop e s)))
    go (yes i) =
        let p = piece s from e q i in
        rw (p.others, ne_eqb (length (take (e - from) (drop from s))) 0 (λ z. omega (arith, p.some, p.size)), add-one n, less)
    go (no i) =
        let z : length (take (e - from) (drop from s)) ≡ 0 = rw (length-take, length-drop) (omega arith) in
        rw (lines_none s from (omega arith), eq-eqb (length (take (e - from) (drop from s))) 0 z)

-- between two lines: what is left to find is what there was
pub record Going (s : List ℕ) (start count from number : ℕ) : Type 0 where
  pub inside : from ≤ length s
  pub counted : number ≤ count + 2
  pub same : nodes_fault (count + 2 - number) number (lines (drop from s)) ≡ nodes_fault count 2 (lines (drop start s))

pub going : (s : List ℕ) (start count : ℕ) → start ≤ length s → Going s start count start 2
going s start count h =
    let e : count + 2 - 2 ≡ count = omega arith in
    record { inside = h; counted = omega arith; same = ap (λ (k : ℕ). nodes_fault k 2 (lines (drop start s))) e }

module _ {s : List ℕ} {start count from number : ℕ} (k : Going s start count from number) where
  module _ {e : ℕ} {f : GridFault} (q : e ≡ line_end s from) (some : number < count + 2) (g : f ≡ awaited_fault number (take (e - from) (drop from s))) where
    fewer : count + 2 - number - 1 ≡ count + 2 - (number + 1)
    fewer = omega arith

    next : or_else f (nodes_fault (count + 2 - (number + 1)) (number + 1) (lines (drop e s))) ≡ nodes_fault count 2 (lines (drop start s))
    next =
        ap₂ (λ (x : GridFault) (left : ℕ). or_else x (nodes_fault left (number + 1) (lines (drop e s)))) g (sym fewer)
        ∙ sym (nodes-on s from e number (count + 2 - number) q k.inside (omega arith)) ∙ k.same

    pub stops : (f.number ≡ 0 → ⊥) → f ≡ nodes_fault count 2 (lines (drop start s))
    stops z = rw (ne_eqb f.number 0 z) at next

    pub goes_on : f.number ≡ 0 → Going s start count e (number + 1)
    goes_on z = record {
      inside = (ends s from e q k.inside).inside;
      counted = omega arith;
      same = rw (eq-eqb f.number 0 z) at next;
    }

  module _ (z : number ≡ count + 2) where
    last : nodes_fault 0 number (lines (drop from s)) ≡ nodes_fault count 2 (lines (drop start s))
    last = let e : count + 2 - number ≡ 0 = omega arith in rw e at k.same

    pub over : from < length s → miscounted ≡ nodes_fault count 2 (lines (drop start s))
    unfolding nodes_fault
    over h = go (piece s from (line_end s from) refl h) last
      where
        go : {e : ℕ} → Piece s from e → nodes_fault 0 number (lines (drop from s)) ≡ nodes_fault count 2 (lines (drop start s)) → miscounted ≡ nodes_fault count 2 (lines (drop start s))
        go p g = rw p.others at g

    pub complete : length s ≤ from → faultless ≡ nodes_fault count 2 (lines (drop start s))
    unfolding nodes_fault
    complete h = rw (lines_none s from h) at last

-- ---- the numbers, put into the room
pub record Filling (s : List ℕ) (start : ℕ) (nodes₀ : List ℤ) (from at : ℕ) (nodes : List ℤ) : Type 0 where
  pub inside : from ≤ length s
  pub room : at + 3 * length (lines (drop from s)) ≤ 12000
  pub list : sets nodes at (nodes_in (lines (drop from s))) ≡ sets nodes₀ 0 (nodes_in (lines (drop start s)))

pub filling : (s : List ℕ) (start : ℕ) (nodes₀ : List ℤ) → start ≤ length s → 3 * length (lines (drop start s)) ≤ 12000 → Filling s start nodes₀ start 0 nodes₀
filling s start nodes₀ h r = record { inside = h; room = omega arith; list = refl }

module _ {s : List ℕ} {start : ℕ} {nodes₀ : List ℤ} {from at : ℕ} {nodes : List ℤ} (k : Filling s start nodes₀ from at nodes) where
  module _ {e : ℕ} (q : e ≡ line_end s from) (h : from < length s) where
    abbrev line : List ℕ
    line = take (e - from) (drop from s)

    pub fits : at + 3 ≤ 12000
    fits = let p = piece s from e q h in omega (arith, k.room, ap length p.others)

    pub filling-on : {nodes' : List ℤ} → nodes' ≡ sets nodes at (three_numbers (values_of (read_node line))) → Filling s start nodes₀ e (at + 3) nodes'
    unfolding nodes_in
    filling-on {nodes'} w =
        let p = piece s from e q h in
        let t : at + 3 ≡ suc (suc (suc at)) = omega arith in
        record {
          inside = p.inside;
          room = omega (arith, k.room, ap length p.others);
          list = rw (w, t) (rw p.others at k.list);
        }

  pub filled : length s ≤ from → nodes ≡ sets nodes₀ 0 (nodes_in (lines (drop start s)))
  unfolding nodes_in
  filled h = rw (lines_none s from h) at k.list

-- ---- an accepted text
-- as many lines as there are nodes
as_many : (k n : ℕ) (ls : List (List ℕ)) → (nodes_fault k n ls).number ≡ 0 → length ls ≡ k
unfolding nodes_fault
as_many zero n [] e = refl
as_many zero n (l ∷ ls) e = absurd (omega arith)
as_many (suc k) n [] e = absurd (omega arith)
as_many (suc k) n (l ∷ ls) e = go (node_fault n (read_node l)) (eqb (node_fault n (read_node l)).number 0) refl (as_many k (suc n) ls) e
  where
    go : (f : GridFault) (b : Bool) → eqb f.number 0 ≡ b → ((nodes_fault k (suc n) ls).number ≡ 0 → length ls ≡ k) → (pick b (nodes_fault k (suc n) ls) f).number ≡ 0 → suc (length ls) ≡ suc k
    go f true q on e = ap suc (on e)
    go f false q on e = absurd (eqb-false f.number 0 q e)

pub numbers-length : (ls : List (List ℕ)) → length (nodes_in ls) ≡ 3 * length ls
unfolding nodes_in
numbers-length [] = refl
numbers-length (l ∷ ls) = omega (arith, numbers-length ls)

pub record GridAccepted (s : List ℕ) (g : GridHeader) : Type 0 where
  pub some : 0 < length s
  pub range : grid_range g ≡ true
  pub nodes : length (after_first (lines s)) ≡ nodes_of g

same-grid : (a b : GridHeader) → ◌≡◌ {A = Result GridHeader GridFault} (Ok a) (Ok b) → a ≡ b
same-grid a b h = cc

no-grid : (f : GridFault) (g : GridHeader) → ◌≡◌ {A = Result GridHeader GridFault} (Err f) (Ok g) → ⊥
no-grid f g h = let z : ◌≡◌ {A = ℕ} 0 1 = cc in omega arith

some-line : (s l : List ℕ) (ls : List (List ℕ)) → lines s ≡ l ∷ ls → 0 < length s
some-line [] l ls e = absurd (omega (arith, ap length (sym (lines_none [] 0 (omega arith)) ∙ e)))
some-line (x ∷ s) l ls e = omega arith

by-fault : (f : GridFault) (a g : GridHeader) → unless_grid_fault f a ≡ Ok g → (f.number ≡ 0) × (a ≡ g)
by-fault f a g = go (eqb f.number 0) refl
  where
    go : (b : Bool) → eqb f.number 0 ≡ b → pick b (Ok a) (Err f) ≡ Ok g → (f.number ≡ 0) × (a ≡ g)
    go true q h = (eqb-true f.number 0 q, same-grid a g h)
    go false q h = absurd (no-grid f g h)

by-header : (l : Result GridHeader Fault) (ls : List (List ℕ)) (g : GridHeader) → headed l ls ≡ Ok g → (grid_range g ≡ true) × (length ls ≡ nodes_of g)
unfolding headed
by-header (Err f) ls g h = absurd (no-grid (on_line 1 f) g h)
by-header (Ok a) ls g h = go (grid_range a) refl h
  where
    go : (b : Bool) → grid_range a ≡ b → pick b (unless_grid_fault (nodes_fault (nodes_of a) 2 ls) a) (Err (on_line 1 (fault refusal.range 0))) ≡ Ok g → (grid_range g ≡ true) × (length ls ≡ nodes_of g)
    go true q h =
        let p = by-fault (nodes_fault (nodes_of a) 2 ls) a g h in
        (ap grid_range (sym p.1) ∙ q, as_many (nodes_of a) 2 ls p.0 ∙ ap nodes_of p.1)
    go false q h = absurd (no-grid (on_line 1 (fault refusal.range 0)) g h)

pub accepted : (s : List ℕ) (g : GridHeader) → grid_of s ≡ Ok g → GridAccepted s g
unfolding grid_of grid_in
accepted s g h = go (lines s) refl h
  where
    go : (ls : List (List ℕ)) → lines s ≡ ls → grid_in ls ≡ Ok g → GridAccepted s g
    go [] e h = absurd (no-grid miscounted g h)
    go (l ∷ ls) e h =
        let p = by-header (read_grid_header l) ls g h in
        record { some = some-line s l ls e; range = p.0; nodes = ap (λ (x : List (List ℕ)). length (after_first x)) e ∙ p.1 }

-- the header's line, and those after it
pub split : (s : List ℕ) (e : ℕ) → e ≡ line_end s 0 → 0 < length s → lines s ≡ take e s ∷ lines (drop e s)
split s e q h = rw less at (piece s 0 e q h).others
  where
    less : e - 0 ≡ e
    less = omega arith

pub by_first : (s : List ℕ) (e : ℕ) → e ≡ line_end s 0 → 0 < length s → (w : Result GridHeader Fault) → read_grid_header (take e s) ≡ w → headed w (lines (drop e s)) ≡ grid_of s
unfolding grid_of grid_in
by_first s e q h w r = rw (split s e q h, r)

pub by-none : (s : List ℕ) → length s ≡ 0 → Err miscounted ≡ grid_of s
unfolding grid_of grid_in
by-none s h = rw (lines_none s 0 (omega arith))

pub after-header : (s : List ℕ) (e : ℕ) → e ≡ line_end s 0 → 0 < length s → after_first (lines s) ≡ lines (drop e s)
after-header s e q h = ap after_first (split s e q h)

pub numbers_after : (s : List ℕ) (e : ℕ) → e ≡ line_end s 0 → (g : GridHeader) → grid_of s ≡ Ok g → grid_numbers s ≡ nodes_in (lines (drop e s))
unfolding grid_numbers
numbers_after s e q g h = ap nodes_in (after-header s e q (accepted s g h).some)

-- what the room takes: three numbers a node, and at most 4,000 nodes
pub few-nodes : (g : GridHeader) → grid_range g ≡ true → nodes_of g ≤ 4000
unfolding nodes_of
few-nodes g r =
    let z = (on-grid.header g r).size in
    subst (λ (n : ℕ). n ≤ 4000) (sym (ap₂ (λ (a b : ℤ). nat_abs a * nat_abs b) z.rows.is z.columns.is))
    (on-grid.few z.rows.n z.columns.n g.rows g.columns z.rows.is z.columns.is z.nodes)

pub for-filling : (s : List ℕ) (e : ℕ) → e ≡ line_end s 0 → (g : GridHeader) → grid_of s ≡ Ok g → (e ≤ length s) × (3 * length (lines (drop e s)) ≤ 12000)
for-filling s e q g h =
    let a = accepted s g h in
    let n = ap length (after-header s e q a.some) in
    ((ends s 0 e q (omega arith)).inside, omega (arith, n, a.nodes, few-nodes g a.range))

pub numbers-many : (s : List ℕ) (g : GridHeader) → grid_of s ≡ Ok g → length (grid_numbers s) ≡ 3 * nodes_of g
unfolding grid_numbers
numbers-many s g h = numbers-length (after_first (lines s)) ∙ ap (λ (n : ℕ). 3 * n) (accepted s g h).nodes
