-- A point line by itself: the chain stays as it was, and one point goes by the chain's steps. Assumes nothing.
use mathlib.Core.Path.{◌≡◌, refl, sym, ◌∙◌, ap, subst}
use mathlib.Core.Bool.{Bool, true, false, ◌||◌}
use mathlib.Core.List.{List, ◌++◌}
use Prim.Native.Nat.{ℕ, ◌+◌, ◌≤◌}
use native.Mathlib.Omega.{arith}
use borrow.Author.Tests.{eq-eqb, eqb-true, ne_eqb}
use lib.Dec.{eqb}
use lib.ListN.{length, get_or, take}
use Rattle.refusal.specs.Numbers as refusal
use Rattle.std.specs.Prelude.{Some, None, Option, Ok, Err}
use Rattle.line.specs.Answers.{Fault, Line, Good, Malformed, Refused}
use Rattle.refusal.specs.Order.{pick, first}
use Rattle.chain.specs.declared.Point.{Point}
use Rattle.chain.specs.declared.Chain.{Chain}
use Rattle.chain.specs.Faults.{chain_tests, steps_of}
use Rattle.chain.specs.Convert.{Answer, forward_of}
use Rattle.chain.specs.Prepared.{chain_of}
use Rattle.chain.proofs.Keeping.{prepared-forward}
use Rattle.chain.proofs.KeptTurns.{label_in, forward-label}
use Rattle.chain.proofs.Readying.{ready-holds, by-steps-forward, converted-good}
use Rattle.line.specs.Bytes.{letter_s, letter_p}
use Rattle.line.specs.Readers.{read_point, datum_place}
use Rattle.line.specs.Text.{point_text, moved_text, Wrote}
use Rattle.line.proofs.Moved.{moved-line}
use Rattle.line.proofs.Readers.{point-sound}
use Rattle.line.proofs.Texts.{same_size}
use Rattle.sheet_rules.specs.declared.Reply.{Reply}
use Rattle.sheet_rules.specs.declared.Reply.TheVariants as reply
use Rattle.sheet_rules.specs.declared.Standing.{Standing}
use Rattle.sheet_rules.specs.declared.LentPoint.{LentPoint}
use Rattle.sheet_rules.specs.Sheet.{Sheet, reply_text, refuse, conversion_reply, point_reply, after_point, closes, reply_of, next_of}
use Rattle.sheet_rules.specs.OneLine.{most_lines, sheet_at, counted, answered, answered_to, PointAnswer, where_good, point_answered, PrintedAs, PointPrinted}
use Rattle.sheet_rules.proofs.OneLine.{chain_same, within-answered, unsound-answered, sound-answered, sound-told, sound-short}

-- the chain is good
good-chain : (c : Chain) → eqb (first (chain_tests c)) 0 ≡ true → first (chain_tests c) ≡ 0
good-chain c e = eqb-true (first (chain_tests c)) 0 e

abbrev replied : Reply → PointAnswer
replied r = record { response = Some r; closes = true }

abbrev unsound_point : PointAnswer
unsound_point = record { response = None; closes = false }

-- a line read as a point line, whose chain may be bad
module _ (c : Chain) (n : ℕ) (refused : Bool) (l : List ℕ) where
  pub malformed-answered : {x : PointAnswer} → (f : Fault) → read_point c.profile l ≡ Malformed f → x ≡ where_good c (reply.Refused n f.number f.place) false → x ≡ point_answered c n refused l
  unfolding point_answered
  malformed-answered f e q = rw e q

  pub refused-answered : {x : PointAnswer} → (k : ℕ) → read_point c.profile l ≡ Refused k → x ≡ where_good c (reply.Refused n k 0) true → x ≡ point_answered c n refused l
  unfolding point_answered
  refused-answered k e q = rw e q

  -- what a good chain answers is what its steps answer
  module _ (p : Point) (is : read_point c.profile l ≡ Good p) where
    pub earlier-answered : {x : PointAnswer} → refused ≡ true → x ≡ where_good c (reply.Refused n refusal.earlier 0) true → x ≡ point_answered c n refused l
    unfolding point_answered
    earlier-answered e q = rw (is, e) q

    module _ (free : refused ≡ false) where
      abbrev sheet : Sheet
      sheet = record { line = n; profile = c.profile; steps = steps_of c; refused = refused; closed = false }

      by-steps : (a : Answer) → forward_of c p ≡ a → first (chain_tests c) ≡ 0 → point_reply sheet (Good p) ≡ conversion_reply sheet a
      by-steps a f z = rw (free, by-steps-forward c z p, f)

      pub unconverted-answered : {x : PointAnswer} → (k : ℕ) → forward_of c p ≡ Err k → x ≡ where_good c (reply.Refused n k 0) true → x ≡ point_answered c n refused l
      unfolding point_answered
      unconverted-answered k f q = q ∙ (rw is (go (eqb (first (chain_tests c)) 0) refl))
        where
          go : (g : Bool) → eqb (first (chain_tests c)) 0 ≡ g → pick g (replied (reply.Refused n k 0)) unsound_point ≡ pick g (replied (point_reply sheet (Good p))) unsound_point
          go true e = ap replied (sym (by-steps (Err k) f (good-chain c e)))
          go false e = refl

      -- a chain that converts a point is good
      pub converted-answered : {x : PointAnswer} → (o : Point) → forward_of c p ≡ Ok o → x ≡ replied (reply.Point o) → x ≡ point_answered c n refused l
      unfolding point_answered
      converted-answered o f q =
          let z = converted-good c p o f in
          q ∙ ap replied (sym (by-steps (Ok o) f z)) ∙ (rw (is, eq-eqb (first (chain_tests c)) 0 z))

-- ---- printed at once
-- where the chain is bad, and where it is good
pub bad-printed : (c : Chain) (p : Reply) (closes : Bool) (before : List ℕ) (at : ℕ) → eqb (first (chain_tests c)) 0 ≡ false → PointPrinted (where_good c p closes) before at before None
bad-printed c p closes before at z = record { printed = rw z (refl, refl) }

pub good-printed : (c : Chain) (p : Reply) (closes : Bool) {before : List ℕ} {at : ℕ} {after : List ℕ} {past : ℕ} → eqb (first (chain_tests c)) 0 ≡ true → Wrote before at (reply_text p) after past → PointPrinted (where_good c p closes) before at after (Some (record { at = past; closes = closes }))
good-printed c p closes z w = record { printed = rw z (refl, w) }

module _ {before : List ℕ} {at : ℕ} {after : List ℕ} {r : Option LentPoint} where
  pub printed-so : {a b : PointAnswer} → a ≡ b → PointPrinted a before at after r → PointPrinted b before at after r
  printed-so e w = subst (λ (a : PointAnswer). PointPrinted a before at after r) e w

  -- nothing gets longer or shorter
  pub printed-size : {a : PointAnswer} → PointPrinted a before at after r → length after ≡ length before
  printed-size {a} w = go a.response r w.printed
    where
      go : (q : Option Reply) (s : Option LentPoint) → PrintedAs q a.closes before at after s → length after ≡ length before
      go None s v = ap length v.1
      go (Some p) None v = elim v [ ]
      go (Some p) (Some s) v = same_size v.1

  -- what was answered, by what is said of it
  pub unsound-printed : {a : PointAnswer} → PointPrinted a before at after r → r ≡ None → (a.response ≡ None) × (after ≡ before)
  unsound-printed {a} w e = go a.response refl (rw e at w.printed)
    where
      go : (q : Option Reply) → a.response ≡ q → PrintedAs q a.closes before at after None → (a.response ≡ None) × (after ≡ before)
      go None f v = (f, v.1)
      go (Some p) f v = absurd v

  pub replied-printed : {a : PointAnswer} → PointPrinted a before at after r → (s : LentPoint) → r ≡ Some s → (p : Reply) × (a.response ≡ Some p) × (s.closes ≡ a.closes) × Wrote before at (reply_text p) after s.at
  replied-printed {a} w s e = go a.response refl (rw e at w.printed)
    where
      go : (q : Option Reply) → a.response ≡ q → PrintedAs q a.closes before at after (Some s) → (p : Reply) × (a.response ≡ Some p) × (s.closes ≡ a.closes) × Wrote before at (reply_text p) after s.at
      go None f v = absurd (let y : ◌≡◌ {A = ℕ} 0 1 = cc in omega arith)
      go (Some p) f v = (p, f, v.0, v.1)

-- a conversion keeps the label, which stands in the line as it is written
module _ (c : Chain) (l : List ℕ) (p : Point) (is : read_point c.profile l ≡ Good p) (q : Point) (f : forward_of c p ≡ Ok q) where
  relabelled : take (datum_place l) l ++ moved_text q.realization q.position ≡ point_text q
  relabelled =
      let z = converted-good c p q f in
      let e = prepared-forward c.profile _ (steps_of c) (ready-holds c z) p (point-sound c.profile l p is) ∙ by-steps-forward c z p ∙ f in
      moved-line c.profile l p q is (ap (label_in p.label) (sym e) ∙ forward-label _ p)

  pub moved-printed : (n : ℕ) {before : List ℕ} {at : ℕ} {after : List ℕ} {past : ℕ} → Wrote before at (take (datum_place l) l ++ moved_text q.realization q.position) after past → PointPrinted (point_answered c n false l) before at after (Some (record { at = past; closes = true }))
  moved-printed n {before} {at} {after} {past} w =
      printed-so (converted-answered c n false l p is refl q f refl) (record { printed = (refl, subst (λ (t : List ℕ). Wrote before at t after past) relabelled w) })

module _ (st : Standing) (l : List ℕ) (b : eqb (get_or l 0 0) letter_p ≡ true) where
  no_step : eqb (get_or l 0 0) letter_s ≡ false
  no_step = ne_eqb (get_or l 0 0) letter_s (λ e. omega (arith, eqb-true (get_or l 0 0) letter_p b, e))

  abbrev read : Line Point
  read = read_point st.chain.profile l

  abbrev here : Sheet
  here = record { line = st.line; profile = st.chain.profile; steps = steps_of st.chain; refused = st.refused; closed = false }

  -- a point's reply doesn't ask whether the chain was closed
  any-closed : (p : Line Point) → point_reply here p ≡ point_reply (sheet_at st) p
  any-closed (Malformed f) = refl
  any-closed (Refused n) = refl
  any-closed (Good p) = go (forward_of (chain_of st.chain.profile (steps_of st.chain)) p)
    where
      go : (a : Answer) → pick st.refused (refuse here refusal.earlier) (conversion_reply here a) ≡ pick st.refused (refuse (sheet_at st) refusal.earlier) (conversion_reply (sheet_at st) a)
      go (Ok q) = refl
      go (Err n) = refl

  replies : reply_of (sheet_at st) l ≡ point_reply (sheet_at st) read
  unfolding reply_of
  replies = rw (no_step, b)

  next : next_of (sheet_at st) l ≡ after_point (sheet_at st) read
  unfolding next_of
  next = rw (no_step, b)

  -- the sheet after it, for a caller that keeps the chain: as the rules say, the limit being far
  module _ (h : st.line ≤ most_lines) (few : counted st.line st.chain.length ≡ true) {x : PointAnswer} (q : x ≡ point_answered st.chain st.line st.refused l) where
    pub point-unsound : x.response ≡ None → answered st None ≡ answered_to st l
    unfolding point_answered
    point-unsound e = go (eqb (first (chain_tests st.chain)) 0) refl (sym (ap (λ (y : PointAnswer). y.response) q) ∙ e)
      where
        go : (g : Bool) → eqb (first (chain_tests st.chain)) 0 ≡ g → (pick {A = PointAnswer} g (record { response = Some (point_reply here read); closes = closes read }) unsound_point).response ≡ None → answered st None ≡ answered_to st l
        go true f z = absurd (let y : ◌≡◌ {A = ℕ} 0 1 = cc in omega arith)
        go false f z = unsound-answered st l (sound-told st true false (sym few) (sym f))

    pub point-replied : (r : Reply) → x.response ≡ Some r → length st.chain.steps ≡ 8 → answered (record { line = st.line + 1; chain = st.chain; refused = st.refused; closed = st.closed || x.closes }) (Some r) ≡ answered_to st l
    unfolding point_answered
    point-replied r e long = go (eqb (first (chain_tests st.chain)) 0) refl (sym (ap (λ (y : PointAnswer). y.response) q) ∙ e) (ap (λ (y : PointAnswer). y.closes) q)
      where
        go : (g : Bool) → eqb (first (chain_tests st.chain)) 0 ≡ g → (pick {A = PointAnswer} g (record { response = Some (point_reply here read); closes = closes read }) unsound_point).response ≡ Some r → x.closes ≡ (pick {A = PointAnswer} g (record { response = Some (point_reply here read); closes = closes read }) unsound_point).closes → answered (record { line = st.line + 1; chain = st.chain; refused = st.refused; closed = st.closed || x.closes }) (Some r) ≡ answered_to st l
        go false f z k = absurd (let y : ◌≡◌ {A = ℕ} 0 1 = cc in omega arith)
        go true f z k =
            let s = sound-told st true true (sym few) (sym f) in
            let inside : st.chain.length ≤ length st.chain.steps = omega (arith, long, sound-short st s) in
            let y : point_reply here read ≡ r = cc in
            within-answered st l h _ _ _ _ _ (ap (λ (t : Sheet). t.line) (sym next)) (rw next (chain_same st.chain inside)) (ap (λ (t : Sheet). t.refused) (sym next)) (ap (λ (b : Bool). st.closed || b) k ∙ ap (λ (t : Sheet). t.closed) (sym next)) (sym y ∙ any-closed read ∙ sym replies)
            ∙ sound-answered st l s
