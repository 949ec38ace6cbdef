-- What the code answers to one line by value is what the sheet's rules say of it. Assumes nothing.
use mathlib.Core.Path.{◌≡◌, refl, sym, ◌∙◌, ap}
use mathlib.Core.Bool.{Bool, true, false, not, ◌&&◌}
use mathlib.Core.List.{List, [], ◌∷◌, ◌++◌, append_assoc}
use Prim.Native.Nat.{ℕ, zero, suc, ◌+◌, ◌<◌, ◌≤◌}
use native.Mathlib.Numerals.{add-one}
use native.Mathlib.Omega.{arith}
use borrow.Author.Tests.{le-ltb, lt-ltb, le-leb, leb-true, leb-false, eqb-true, ltb-true, ltb-false}
use lib.Dec.{ltb, leb, eqb}
use lib.IntN.{ℤ}
use lib.ListN.{length, get_or, take, drop, set, length-append, length-take, take-append-drop}
use lib.Seq.{drop-nil, take-length, take-append_seam, length-take-le, set_split}
use Rattle.refusal.specs.Numbers as refusal
use Rattle.refusal.specs.Order.{first, pick, unless, ◌gives◌}
use Rattle.std.specs.Prelude.{Option, Some, None, Result, Ok, Err}
use Rattle.std.specs.Bool.{then_some}
use Rattle.line.specs.Answers.{Fault, Line, Good, Malformed, Refused}
use Rattle.refusal.proofs.Orders.{head-holds, step-passed}
use Rattle.ranges.specs.Ranges.{profile_range}
use Rattle.chain.specs.declared.Step.{Step}
use Rattle.chain.specs.declared.Point.{Point}
use Rattle.chain.specs.declared.Chain.{Chain}
use Rattle.chain.specs.Faults.{step_fault, steps_tests, chain_tests, steps_of}
use Rattle.chain.specs.Convert.{joins}
use Rattle.chain.specs.Prepared as prepared
use Rattle.chain.specs.Prepared.{chain_of}
use Rattle.chain.proofs.Keeping.{sound_more, holds-fresh}
use Rattle.line.specs.Bytes.{letter_s, letter_p, letter_e}
use Rattle.line.specs.Readers.{read_step, read_point, read_edition, strange_fault}
use Rattle.line.proofs.Readers.{step-outcome}
use Rattle.listing.proofs.Fold.{by-letters}
use Rattle.sheet_rules.specs.declared.Reply.{Reply}
use Rattle.sheet_rules.specs.declared.Reply.TheVariants as reply
use Rattle.sheet_rules.specs.declared.Standing.{Standing}
use Rattle.sheet_rules.specs.Sheet.{Sheet, refuse, malformed, step_line_tests, step_reply, point_reply, edition_reply, after_step, after_point, with_step, without_step, with_edition, edition_tests, after_edition, passed, reply_of, next_of}
use Rattle.sheet_rules.specs.State.{Holds}
use Rattle.sheet_rules.proofs.Laws.{next-line, no_steps}
use Rattle.sheet_rules.specs.OneLine.{most_lines, sheet_at, chain_with, standing_at, fresh_at, counted, sound_standing, past_lines, reply_to, after_line, answered, line_answered, answered_to, steps_after}

-- ---- the steps after a line
steps-by : (s : Sheet) (l : List ℕ) → (next_of s l).steps ≡ steps_after s.steps (eqb (get_or l 0 0) letter_s) (reply_of s l) (read_step s.profile l)
unfolding next_of reply_of
steps-by s l = go (eqb (get_or l 0 0) letter_s) (eqb (get_or l 0 0) letter_p) (eqb (get_or l 0 0) letter_e) (read_step s.profile l) (read_edition l) (point_reply s (read_point s.profile l))
  where
    of-step : (t : Step) (n : ℕ) → (unless n (λ _. without_step s) (with_step s t)).steps ≡ steps_after s.steps true (unless n (refuse s) reply.Nothing) (Good t)
    of-step t zero = refl
    of-step t (suc n) = refl

    of-edition : (y : ℤ) (n : ℕ) → (unless n (λ _. without_step s) (with_edition s y)).steps ≡ s.steps
    of-edition y zero = refl
    of-edition y (suc n) = refl

    go : (a b c : Bool) (r : Line Step) (d : Result ℤ Fault) (x : Reply) → (pick a (after_step s r) (pick b (after_point s (read_point s.profile l)) (pick c (after_edition s d) (passed s)))).steps ≡ steps_after s.steps a (pick a (step_reply s r) (pick b x (pick c (edition_reply s d) (malformed s (strange_fault l))))) r
    go true b c (Malformed f) d x = refl
    go true b c (Refused n) d x = refl
    go true b c (Good t) d x = of-step t (first (step_line_tests s t))
    go false true c r d x = refl
    go false false true r (Err f) x = refl
    go false false true r (Ok y) x = of-edition y (first (edition_tests s y))
    go false false false r d x = refl

-- a reply with a text is not the one with none
told-refusal : {A : Type 0} (k n p : ℕ) → reply.Refused k n p ≡ reply.Nothing → A
told-refusal k n p e = absurd (let z : ◌≡◌ {A = ℕ} 0 1 = cc in omega arith)

no-fault : (s : Sheet) (n : ℕ) → unless n (refuse s) reply.Nothing ≡ reply.Nothing → n ≡ 0
no-fault s zero e = refl
no-fault s (suc n) e = told-refusal _ _ _ e

-- the tests of a step that the sheet accepts, of those that the chain asks for
joins-few : (s : Sheet) (t : Step) → first (step_line_tests s t) ≡ 0 → (joins s.steps t ≡ true) × (length s.steps < 8)
joins-few s t z =
    let a = step-passed s.refused refusal.earlier _ tt z in
    let b = step-passed s.closed refusal.misplaced _ tt a.1 in
    let c = head-holds (joins s.steps t) _ _ b.1 in
    (c.0, leb-false 8 (length s.steps) (step-passed (leb 8 (length s.steps)) refusal.ninth 0 tt c.1).0)

-- an accepted step is the eighth at most
pub accepted-few : (s : Sheet) (l : List ℕ) (t : Step) → eqb (get_or l 0 0) letter_s ≡ true → reply_of s l ≡ reply.Nothing → read_step s.profile l ≡ Good t → length s.steps < 8
unfolding reply_of
accepted-few s l t b e f = go (read_step s.profile l) (rw b at e) f
  where
    go : (r : Line Step) → step_reply s r ≡ reply.Nothing → r ≡ Good t → length s.steps < 8
    go (Malformed f) q e = told-refusal _ _ _ q
    go (Refused n) q e = told-refusal _ _ _ q
    go (Good u) q e = (joins-few s u (no-fault s (first (step_line_tests s u)) q)).1

-- ---- the chain after a line
pub chain_same : (c : Chain) → c.length ≤ length c.steps → c ≡ chain_with c c.profile (steps_of c)
chain_same c h = rw (length-take-le c.length c.steps h, take-append-drop c.length c.steps)

pub chain_more : (c : Chain) (t : Step) → c.length < length c.steps → record { steps = set c.steps c.length t; length = c.length + 1; profile = c.profile } ≡ chain_with c c.profile (steps_of c ++ (t ∷ []))
chain_more c t h =
    let n : length (take c.length c.steps ++ (t ∷ [])) ≡ suc c.length = length-append (take c.length c.steps) (t ∷ []) ∙ rw (length-take-le c.length c.steps (omega arith)) (add-one c.length) in
    rw (n, add-one, set_split c.steps c.length t h, append_assoc)

-- by the line's letter, the reply and what the line reads as
module _ (c : Chain) (h : c.length ≤ length c.steps) (a : Bool) (r : Reply) (q : Line Step) where
  pub after-other : a ≡ false → c ≡ chain_with c c.profile (steps_after (steps_of c) a r q)
  after-other d = rw d (chain_same c h)

  pub after-accepted : (t : Step) → a ≡ true → r ≡ reply.Nothing → q ≡ Good t → chain_with c c.profile (steps_of c ++ (t ∷ [])) ≡ chain_with c c.profile (steps_after (steps_of c) a r q)
  after-accepted t d e f = rw (d, e, f)

  pub after-malformed : (g : Fault) → a ≡ true → r ≡ reply.Nothing → q ≡ Malformed g → c ≡ chain_with c c.profile (steps_after (steps_of c) a r q)
  after-malformed g d e f = rw (d, e, f) (chain_same c h)

  pub after-refused : (n : ℕ) → a ≡ true → r ≡ reply.Nothing → q ≡ Refused n → c ≡ chain_with c c.profile (steps_after (steps_of c) a r q)
  after-refused n d e f = rw (d, e, f) (chain_same c h)

  pub after-point : (p : Point) → a ≡ true → r ≡ reply.Point p → c ≡ chain_with c c.profile (steps_after (steps_of c) a r q)
  after-point p d e = rw (d, e) (chain_same c h)

  pub after-refusal : (k n p : ℕ) → a ≡ true → r ≡ reply.Refused k n p → c ≡ chain_with c c.profile (steps_after (steps_of c) a r q)
  after-refusal k n p d e = rw (d, e) (chain_same c h)

module _ (st : Standing) (l : List ℕ) where
  -- the steps in the chain after a line, under whatever profile
  pub chain_by : (c : Chain) (r : Reply) (y : ℤ) → r ≡ reply_of (sheet_at st) l → y ≡ (next_of (sheet_at st) l).profile → c ≡ chain_with st.chain st.chain.profile (steps_after (steps_of st.chain) (eqb (get_or l 0 0) letter_s) r (read_step st.chain.profile l)) → record { steps = c.steps; length = c.length; profile = y } ≡ chain_with st.chain (next_of (sheet_at st) l).profile (next_of (sheet_at st) l).steps
  chain_by c r y e g f = rw (f, e, g, steps-by (sheet_at st) l)

  -- ---- the answer
  pub within-answered : st.line ≤ most_lines → (n : ℕ) (c : Chain) (a b : Bool) (r : Reply) → n ≡ (next_of (sheet_at st) l).line → c ≡ chain_with st.chain (next_of (sheet_at st) l).profile (next_of (sheet_at st) l).steps → a ≡ (next_of (sheet_at st) l).refused → b ≡ (next_of (sheet_at st) l).closed → r ≡ reply_of (sheet_at st) l → answered (record { line = n; chain = c; refused = a; closed = b }) (Some r) ≡ line_answered st l
  unfolding line_answered after_line reply_to past_lines
  within-answered h n c a b r e f g i j = rw (le-ltb most_lines st.line h, e, f, g, i, j)

  pub past-answered : most_lines < st.line → answered st (Some (reply.Refused (suc most_lines) refusal.limit 0)) ≡ line_answered st l
  unfolding line_answered after_line reply_to past_lines
  past-answered h = rw (lt-ltb most_lines st.line h)

  pub unsound-answered : sound_standing st ≡ false → answered st None ≡ answered_to st l
  unfolding answered_to
  unsound-answered e = rw e

  pub sound-answered : sound_standing st ≡ true → line_answered st l ≡ answered_to st l
  unfolding answered_to
  sound-answered e = rw e

  -- past the limit the chain is tested alone
  pub past-told : most_lines < st.line → (b : Bool) → b ≡ sound_standing st → (r : Option Reply) → r ≡ then_some b (reply.Refused (suc most_lines) refusal.limit 0) → answered st r ≡ answered_to st l
  past-told h true e r q = rw q (past-answered h ∙ sound-answered (sym e))
  past-told h false e r q = rw q (unsound-answered (sym e))

pub sound-told : (st : Standing) (a b : Bool) → a ≡ counted st.line st.chain.length → b ≡ eqb (first (chain_tests st.chain)) 0 → sound_standing st ≡ a && b
unfolding sound_standing
sound-told st a b e f = rw (e, f)

-- a chain has no more steps than its length says
few-steps : (c : Chain) → length (steps_of c) ≤ c.length
few-steps c = omega (arith, length-take c.length c.steps)

-- the state and the numbers hold the sheet that stands here
pub held : (st : Standing) (l : List ℤ) → st.chain.length < st.line → prepared.Holds st.chain.profile l (steps_of st.chain) → Holds (record { line = st.line; profile = st.chain.profile; refused = st.refused; closed = st.closed }) l (sheet_at st)
held st l n h = record { line = refl; profile = refl; refused = refl; closed = refl; chain = h; counted = omega (arith, n, few-steps st.chain) }

-- ---- where a sheet stands after a line
-- the sheet that stands in a chain is that sheet
pub sheet-at : (c : Chain) (s : Sheet) → sheet_at (standing_at c s) ≡ s
sheet-at c s = rw (take-append_seam s.steps (drop (length s.steps) c.steps))

module _ (st : Standing) (l : List ℕ) where
  pub reply-past : most_lines < st.line → reply_to st l ≡ reply.Refused (suc most_lines) refusal.limit 0
  unfolding reply_to past_lines
  reply-past h = rw (lt-ltb most_lines st.line h)

  pub after-past : most_lines < st.line → after_line st l ≡ st
  unfolding after_line past_lines
  after-past h = rw (lt-ltb most_lines st.line h)

  pub reply-rules : st.line ≤ most_lines → reply_to st l ≡ reply_of (sheet_at st) l
  unfolding reply_to past_lines
  reply-rules h = rw (le-ltb most_lines st.line h)

  pub after-at : st.line ≤ most_lines → after_line st l ≡ standing_at st.chain (next_of (sheet_at st) l)
  unfolding after_line past_lines
  after-at h = rw (le-ltb most_lines st.line h)

  pub after-rules : st.line ≤ most_lines → sheet_at (after_line st l) ≡ next_of (sheet_at st) l
  after-rules h = ap sheet_at (after-at h) ∙ sheet-at st.chain (next_of (sheet_at st) l)

-- ---- a line more, in a chain's own steps
-- no line takes a step away
grows : (s : Sheet) (l : List ℕ) → length s.steps ≤ length (next_of s l).steps
unfolding next_of
grows s l = by-letters (λ (x : Sheet). length s.steps ≤ length x.steps) letter_s letter_p letter_e l _ _ _ _ (step (read_step s.profile l)) same (edition (read_edition l)) same
  where
    same : length s.steps ≤ length s.steps
    same = omega arith

    step : (r : Line Step) → length s.steps ≤ length (after_step s r).steps
    step (Malformed f) = same
    step (Refused n) = same
    step (Good t) = go (first (step_line_tests s t))
      where
        go : (n : ℕ) → length s.steps ≤ length (unless n (λ _. without_step s) (with_step s t)).steps
        go zero = omega (arith, length-append s.steps (t ∷ []))
        go (suc n) = same

    edition : (d : Result ℤ Fault) → length s.steps ≤ length (after_edition s d).steps
    edition (Err f) = same
    edition (Ok y) = go (first (edition_tests s y))
      where
        go : (n : ℕ) → length s.steps ≤ length (unless n (λ _. without_step s) (with_edition s y)).steps
        go zero = same
        go (suc n) = same

past-steps : (xs ys : List Step) (m : ℕ) → length xs ≤ m → drop m (xs ++ drop (length xs) ys) ≡ drop m ys
past-steps [] ys m h = refl
past-steps (x ∷ xs) ys zero h = absurd (omega arith)
past-steps (x ∷ xs) [] (suc m) h = ap (λ (l : List Step). drop m (xs ++ l)) (sym (drop-nil (length xs))) ∙ past-steps xs [] m (omega arith) ∙ drop-nil m
past-steps (x ∷ xs) (y ∷ ys) (suc m) h = past-steps xs ys m (omega arith)

pub after-standing : (c : Chain) (s : Sheet) (l : List ℕ) → s.line ≤ most_lines → after_line (standing_at c s) l ≡ standing_at c (next_of s l)
after-standing c s l h =
    after-at (standing_at c s) l h
    ∙ ap (λ (x : Sheet). standing_at (chain_with c s.profile s.steps) (next_of x l)) (sheet-at c s)
    ∙ ap (λ (p : List Step). record { line = (next_of s l).line; chain = record { steps = (next_of s l).steps ++ p; length = length (next_of s l).steps; profile = (next_of s l).profile }; refused = (next_of s l).refused; closed = (next_of s l).closed })
    (past-steps s.steps c.steps (length (next_of s l).steps) (grows s l))

-- what the rules say alike of two lines is answered alike
pub same-reply : (st : Standing) (k l : List ℕ) → reply_of (sheet_at st) k ≡ reply_of (sheet_at st) l → reply_to st k ≡ reply_to st l
unfolding reply_to
same-reply st k l e = rw e

pub same_after : (st : Standing) (k l : List ℕ) → next_of (sheet_at st) k ≡ next_of (sheet_at st) l → after_line st k ≡ after_line st l
unfolding after_line
same_after st k l e = rw e

-- ---- a sound standing
pub both : (a b : Bool) → a && b ≡ true → (a ≡ true) × (b ≡ true)
both true b e = (refl, e)
both false b e = (e, let z : ◌≡◌ {A = ℕ} 0 1 = cc in absurd (omega arith))

pub record Sound (st : Standing) : Type 0 where
  pub from : st.chain.length < st.line
  pub to : st.line ≤ suc most_lines
  pub chain : first (chain_tests st.chain) ≡ 0

pub sound-parts : (st : Standing) → sound_standing st ≡ true → Sound st
unfolding sound_standing counted
sound-parts st e =
    let a = both (counted st.line st.chain.length) _ e in
    let b = both (ltb st.chain.length st.line) _ a.0 in
    record { from = ltb-true st.chain.length st.line b.0; to = leb-true st.line (suc most_lines) b.1; chain = eqb-true (first (chain_tests st.chain)) 0 a.1 }

pub sound-made : (st : Standing) → Sound st → sound_standing st ≡ true
unfolding sound_standing counted
sound-made st p = rw (lt-ltb st.chain.length st.line p.from, le-leb st.line (suc most_lines) p.to, p.chain)

-- nothing read yet
pub fresh-sound : (spare : List Step) → Sound (fresh_at spare)
fresh-sound spare = record { from = omega arith; to = omega arith; chain = holds-fresh.sound }

-- ---- it stays sound
abbrev GoodSteps : ℤ → List Step → Type 0
GoodSteps y ss = first (chain_tests (chain_of y ss)) ≡ 0

-- a chain's tests: its profile, its length and its steps
parts : (y : ℤ) (n : ℕ) (ss : List Step) → first ((not (profile_range y) gives refusal.range) ∷ (ltb 8 n gives refusal.ninth) ∷ steps_tests y ss) ≡ 0 → (profile_range y ≡ true) × (n ≤ 8) × (first (steps_tests y ss) ≡ 0)
parts y n ss e =
    let p = head-holds (profile_range y) _ _ e in
    let q = step-passed (ltb 8 n) refusal.ninth (first (steps_tests y ss)) tt p.1 in
    (p.0, ltb-false 8 n q.0, q.1)

pub sound-short : (st : Standing) → sound_standing st ≡ true → st.chain.length ≤ 8
sound-short st e = (parts st.chain.profile st.chain.length (steps_of st.chain) (sound-parts st e).chain).1

good-said : (c : Chain) → first (chain_tests c) ≡ 0 → GoodSteps c.profile (steps_of c)
good-said c e =
    let p = parts c.profile c.length (steps_of c) e in
    rw (take-length (steps_of c), p.0, le-ltb 8 (length (steps_of c)) (omega (arith, few-steps c, p.1))) p.2

good-with : (c : Chain) (y : ℤ) (ss : List Step) → GoodSteps y ss → first (chain_tests (chain_with c y ss)) ≡ 0
good-with c y ss g = rw (take-append_seam ss (drop (length ss) c.steps)) (rw (take-length ss) at g)

-- a chain that is good by value, of no more steps than lines
abbrev Kept : Sheet → Type 0
Kept s = GoodSteps s.profile s.steps × (length s.steps < s.line)

kept_next : (s : Sheet) (l : List ℕ) → Kept s → Kept (next_of s l)
unfolding next_of
kept_next s l g = by-letters Kept letter_s letter_p letter_e l _ _ _ _ step same (edition (read_edition l)) same
  where
    same : GoodSteps s.profile s.steps × (length s.steps < s.line + 1)
    same = (g.0, omega (arith, g.1))

    step : Kept (after_step s (read_step s.profile l))
    step = step-outcome s.profile (λ (r : Line Step). Kept (after_step s r)) l good (λ f h. same) (λ n h. same)
      where
        good : (t : Step) → step_fault s.profile t ≡ 0 → Kept (after_step s (Good t))
        good t f = go (first (step_line_tests s t)) (λ z. z)
          where
            go : (n : ℕ) → (n ≡ 0 → first (step_line_tests s t) ≡ 0) → Kept (unless n (λ _. without_step s) (with_step s t))
            go zero k = let j = joins-few s t (k refl) in (sound_more s.profile s.steps t g.0 j.1 f j.0, omega (arith, g.1, length-append s.steps (t ∷ [])))
            go (suc n) k = same

    edition : (d : Result ℤ Fault) → Kept (after_edition s d)
    edition (Err f) = same
    edition (Ok y) = go (first (edition_tests s y)) (λ z. z)
      where
        go : (n : ℕ) → (n ≡ 0 → first (edition_tests s y) ≡ 0) → Kept (unless n (λ _. without_step s) (with_edition s y))
        go zero k =
            let p = head-holds (eqb s.line 1) _ _ (k refl) in
            let q = head-holds (profile_range y) _ _ p.1 in
            let e = no_steps s.steps (omega (arith, g.1, eqb-true s.line 1 p.0)) in
            (rw e (rw q.0), omega (arith, g.1))
        go (suc n) k = same

pub sound-after : (st : Standing) (l : List ℕ) → Sound st → Sound (after_line st l)
unfolding after_line past_lines
sound-after st l p = go (ltb most_lines st.line) refl
  where
    go : (b : Bool) → ltb most_lines st.line ≡ b → Sound (pick b st (standing_at st.chain (next_of (sheet_at st) l)))
    go true q = p
    go false q =
        let k = kept_next (sheet_at st) l (good-said st.chain p.chain, omega (arith, p.from, few-steps st.chain)) in
        record {
          from = k.1;
          to = omega (arith, next-line (sheet_at st) l, ltb-false most_lines st.line q);
          chain = good-with st.chain (next_of (sheet_at st) l).profile (next_of (sheet_at st) l).steps k.0;
        }
