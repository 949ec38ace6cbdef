-- What the chain says of a step is what the sheet says, and the state after a line holds the sheet after it. Assumes nothing.
use mathlib.Core.Path.{◌≡◌, refl, sym, ◌∙◌, ap, subst, subst⁻¹}
use mathlib.Core.Bool.{Bool, true, false}
use mathlib.Core.List.{List, [], ◌∷◌}
use Prim.Native.Nat.{ℕ, zero, suc, ◌+◌, ◌<◌}
use native.Mathlib.Omega.{arith}
use lib.IntN.{ℤ, pos}
use lib.Dec.{eqb}
use lib.ListN.{replicate, length, get_or, length-append}
use borrow.Author.Tests.{eq-eqb, eqb-true, ne_eqb}
use Rattle.refusal.specs.Numbers as refusal
use Rattle.refusal.specs.Order.{Test, first, unless}
use Rattle.std.specs.Prelude.{None, Result, Ok, Err, slice_get}
use Rattle.line.specs.Answers.{Fault, Line, Good, Malformed, Refused}
use Rattle.refusal.proofs.Orders.{unless-none, unless-some}
use Rattle.ranges.specs.Ranges.{profile_range}
use Rattle.chain.specs.declared.Step.{Step}
use Rattle.chain.specs.declared.Point.{Point}
use Rattle.chain.specs.Faults.{latest, point_fault, step_fault}
use Rattle.chain.specs.Convert.{Answer, forward_of}
use Rattle.chain.specs.Prepared.{extend_fault, extended_by, forward_prepared, chain_of}
use Rattle.chain.proofs.Keeping.{holds-none, holds-fresh, extend-joins, extend-holds, refused-is, prepared-forward}
use Rattle.line.specs.Bytes.{letter_s, letter_p, letter_e}
use Rattle.line.specs.Readers.{read_step, read_point, read_edition}
use Rattle.line.specs.Text.{Wrote}
use Rattle.listing.proofs.Fold.{by-letters}
use Rattle.sheet_rules.specs.declared.State.{State}
use Rattle.sheet_rules.specs.declared.Reply.{Reply}
use Rattle.sheet_rules.specs.declared.Reply.TheVariants as reply
use Rattle.sheet_rules.specs.declared.Decided.{Decided}
use Rattle.sheet_rules.specs.declared.Printed.{Printed}
use Rattle.sheet_rules.specs.Sheet.{Sheet, fresh, reply_text, reply_of, next_of, point_reply, after_point, refuse, malformed, step_line_tests, step_reply, after_step, with_step, without_step, edition_tests, edition_reply, after_edition, with_edition}
use Rattle.sheet_rules.specs.State.{Holds, Gave, Shows, Shown, passed_in, counted_in, counted_too, after_in, refused_in}

-- a refusal's number is not 0
no_number : {n : ℕ} → suc n ≡ 0 → ⊥
no_number {n} e = never n e
  where
    never : (n : ℕ) → suc n ≡ 0 → ⊥
    never n e = omega arith

-- of no bytes the first is 0
pub first-none : (t : List ℕ) → None ≡ slice_get t 0 → get_or t 0 0 ≡ 0
first-none [] e = refl
first-none (b ∷ t) e = absurd (let z : ◌≡◌ {A = ℕ} 0 1 = cc in omega arith)

-- ---- the state after a line that adds no step
pub hold-after : {st : State} {l : List ℤ} {s : Sheet} → Holds st l s → (a b c d : Bool) → a ≡ c → b ≡ d → Holds (passed_in (after_in st a b) 1) l (record { line = s.line + 1; profile = s.profile; steps = s.steps; refused = c; closed = d })
unfolding passed_in
hold-after h a b c d e f = record { line = ap (λ (n : ℕ). n + 1) h.line; profile = h.profile; refused = e; closed = f; chain = h.chain; counted = omega (arith, h.counted) }

-- ---- what is decided on each kind of line
-- a step or an edition refused, with the number that the sheet's tests give
refused-by : {st : State} {l : List ℤ} {s : Sheet} → Holds st l s → (tests : List Test) (good : Sheet) (n : ℕ) (a : Bool) → first tests ≡ n → (n ≡ 0 → ⊥) → a ≡ s.closed → (r : Decided) → r ≡ refused_in (after_in st true a) n 0 → Gave (unless (first tests) (refuse s) reply.Nothing) (unless (first tests) (λ _. without_step s) good) l (counted_in r)
refused-by {s = s} h tests good n a is z f r er =
    let y : first tests ≡ 0 → ⊥ = λ q. z (sym is ∙ q) in
    rw er
    (record {
      reply = ap (λ (k : ℕ). reply.Refused k n 0) h.line ∙ ap (refuse s) (sym is) ∙ sym (unless-some (first tests) (refuse s) reply.Nothing y);
      holds = rw (unless-some (first tests) (λ (_ : ℕ). without_step s) good y) (hold-after h true a true s.closed refl f);
    })

module _ {st : State} {l : List ℤ} {s : Sheet} (h : Holds st l s) (t : Step) where
  refused-step : (n : ℕ) (a : Bool) → first (step_line_tests s t) ≡ n → (n ≡ 0 → ⊥) → a ≡ s.closed → (r : Decided) → r ≡ refused_in (after_in st true a) n 0 → Gave (step_reply s (Good t)) (after_step s (Good t)) l (counted_in r)
  refused-step n a is z f r er = refused-by h (step_line_tests s t) (with_step s t) n a is z f r er

  pub gave-earlier : st.refused ≡ true → (r : Decided) → r ≡ refused_in (after_in st true st.closed) refusal.earlier 0 → Gave (step_reply s (Good t)) (after_step s (Good t)) l (counted_in r)
  gave-earlier e r er = let q : s.refused ≡ true = sym h.refused ∙ e in refused-step refusal.earlier st.closed (rw q) (λ z. no_number z) h.closed r er

  module _ (unrefused : st.refused ≡ false) where
    pub gave-misplaced : st.closed ≡ true → (r : Decided) → r ≡ refused_in (after_in st true st.closed) refusal.misplaced 0 → Gave (step_reply s (Good t)) (after_step s (Good t)) l (counted_in r)
    gave-misplaced e r er =
        let q : s.refused ≡ false = sym h.refused ∙ unrefused in
        let c : s.closed ≡ true = sym h.closed ∙ e in
        refused-step refusal.misplaced st.closed (rw (q, c)) (λ z. no_number z) h.closed r er

    module _ (unclosed : st.closed ≡ false) (good : step_fault st.profile t ≡ 0) where
      tests : extend_fault st.profile l t ≡ first (step_line_tests s t)
      tests =
          let q : s.refused ≡ false = sym h.refused ∙ unrefused in
          let c : s.closed ≡ false = sym h.closed ∙ unclosed in
          extend-joins st.profile l s.steps t h.chain good ∙ sym (rw (q, c))

      -- refused by the chain, which stays as it was
      pub gave-no-step : (n : ℕ) → n ≡ extend_fault st.profile l t → (n ≡ 0 → ⊥) → (m : List ℤ) → m ≡ extended_by st.profile l t → (r : Decided) → r ≡ refused_in (after_in st true st.closed) n 0 → Gave (step_reply s (Good t)) (after_step s (Good t)) m (counted_in r)
      gave-no-step n e z m i r er =
          rw (i, refused-is st.profile l t (λ q. z (e ∙ q))) (refused-step n st.closed (sym (e ∙ tests)) z h.closed r er)

      -- an accepted step
      pub gave-step : extend_fault st.profile l t ≡ 0 → (m : List ℤ) → m ≡ extended_by st.profile l t → (r : Decided) → r.reply ≡ reply.Nothing → r.state ≡ st → Gave (step_reply s (Good t)) (after_step s (Good t)) m (counted_in r)
      unfolding passed_in
      gave-step z m i r ea er =
          let q = sym tests ∙ z in
          record {
            reply = ea ∙ sym (unless-none (first (step_line_tests s t)) (refuse s) reply.Nothing q);
            holds = rw (unless-none (first (step_line_tests s t)) (λ (_ : ℕ). without_step s) (with_step s t) q, er, i)
                (record {
                  line = ap (λ (n : ℕ). n + 1) h.line;
                  profile = h.profile;
                  refused = h.refused;
                  closed = h.closed;
                  chain = extend-holds st.profile l s.steps t h.chain z;
                  counted = omega (arith, h.counted, length-append s.steps (t ∷ []));
                });
          }

-- no step was read before the first line
pub no_steps : (ss : List Step) → length ss < 1 → ss ≡ []
no_steps [] h = refl
no_steps (t ∷ ss) h = absurd (omega arith)

module _ {st : State} {l : List ℤ} {s : Sheet} (h : Holds st l s) (y : ℤ) where
  refused-edition : (n : ℕ) → first (edition_tests s y) ≡ n → (n ≡ 0 → ⊥) → (r : Decided) → r ≡ refused_in (after_in st true st.closed) n 0 → Gave (edition_reply s (Ok y)) (after_edition s (Ok y)) l (counted_in r)
  refused-edition n is z r er = refused-by h (edition_tests s y) (with_edition s y) n st.closed is z h.closed r er

  -- not on the first line
  pub gave-late-edition : (st.line ≡ 1 → ⊥) → (r : Decided) → r ≡ refused_in (after_in st true st.closed) refusal.misplaced 0 → Gave (edition_reply s (Ok y)) (after_edition s (Ok y)) l (counted_in r)
  gave-late-edition n r er =
      let q : eqb s.line 1 ≡ false = ne_eqb s.line 1 (λ e. n (h.line ∙ e)) in
      refused-edition refusal.misplaced (rw q) (λ z. no_number z) r er

  module _ (one : st.line ≡ 1) where
    on-first : eqb s.line 1 ≡ true
    on-first = eq-eqb s.line 1 (sym h.line ∙ one)

    -- no profile
    pub gave-no-edition : profile_range y ≡ false → (r : Decided) → r ≡ refused_in (after_in st true st.closed) refusal.range 0 → Gave (edition_reply s (Ok y)) (after_edition s (Ok y)) l (counted_in r)
    gave-no-edition p r er = refused-edition refusal.range (rw (on-first, p)) (λ z. no_number z) r er

    -- an accepted edition: the chain is empty, and holds under any profile
    pub gave-edition : profile_range y ≡ true → (r : Decided) → r.reply ≡ reply.Nothing → r.state ≡ record { line = st.line; profile = y; refused = st.refused; closed = st.closed } → Gave (edition_reply s (Ok y)) (after_edition s (Ok y)) l (counted_in r)
    unfolding passed_in
    gave-edition p r ea er =
        let q : first (edition_tests s y) ≡ 0 = rw (on-first, p) in
        let e = no_steps s.steps (omega (arith, h.counted, h.line, one)) in
        let c = h.chain in
        record {
          reply = ea ∙ sym (unless-none (first (edition_tests s y)) (refuse s) reply.Nothing q);
          holds = rw (unless-none (first (edition_tests s y)) (λ (_ : ℕ). without_step s) (with_edition s y) q, er)
              (record {
                line = ap (λ (n : ℕ). n + 1) h.line;
                profile = refl;
                refused = h.refused;
                closed = h.closed;
                chain = rw e (holds-none y l p c.room (c.count ∙ ap (λ (ss : List Step). pos (length ss)) e));
                counted = omega (arith, h.counted);
              });
        }

module _ {st : State} {l : List ℤ} {s : Sheet} (h : Holds st l s) (a b c d : Bool) (e : a ≡ c) (f : b ≡ d) where
  -- a line that its reader or the conversion refused
  pub gave-refusal : (n place : ℕ) (r : Decided) → r ≡ refused_in (after_in st a b) n place → Gave (reply.Refused s.line n place) (record { line = s.line + 1; profile = s.profile; steps = s.steps; refused = c; closed = d }) l (counted_in r)
  gave-refusal n place r er = rw er (record { reply = ap (λ (k : ℕ). reply.Refused k n place) h.line; holds = hold-after h a b c d e f })

  -- a line whose form was found bad
  pub gave-malformed : {f g : Fault} → f ≡ g → (r : Decided) → r ≡ refused_in (after_in st a b) f.number f.place → Gave (malformed s g) (record { line = s.line + 1; profile = s.profile; steps = s.steps; refused = c; closed = d }) l (counted_in r)
  gave-malformed {f} q r er = rw (← q) (gave-refusal f.number f.place r er)

  -- a converted point
  pub gave-point : (p : Point) (r : Decided) → r.reply ≡ reply.Point p → r.state ≡ after_in st a b → Gave (reply.Point p) (record { line = s.line + 1; profile = s.profile; steps = s.steps; refused = c; closed = d }) l (counted_in r)
  gave-point p r ea er = record { reply = ea; holds = rw er (hold-after h a b c d e f) }

-- what was decided, once it is printed
pub shown : {a : Reply} {n : Sheet} {l : List ℤ} {d : Decided} {before after : List ℕ} {at : ℕ} {r : Printed} → Gave a n l (counted_in d) → Shows d before at after r → Shown a n l before at after (counted_too r)
shown {n = n} {l} {before = before} {after} {at} {r} g w = record {
  wrote = subst (λ (x : Reply). Wrote before at (reply_text x) after r.at) g.reply w.0;
  holds = subst⁻¹ (λ (st : State). Holds (passed_in st 1) l n) w.1 g.holds;
}

-- a line that begins with P, as the rules have it
pub point-line-shown :
    (s : Sheet) (line : List ℕ) → eqb (get_or line 0 0) letter_p ≡ true → {l : List ℤ} {before after : List ℕ} {at : ℕ} {r : Printed} →
    Shown (point_reply s (read_point s.profile line)) (after_point s (read_point s.profile line)) l before at after r →
    Wrote before at (reply_text (reply_of s line)) after r.at × Holds r.state l (next_of s line)
unfolding reply_of next_of
point-line-shown s line p x = rw (ne_eqb (get_or line 0 0) letter_s (λ e. omega (arith, eqb-true (get_or line 0 0) letter_p p, e)), p) (x.wrote, x.holds)

-- ---- a point of a sheet that holds, and the sheet that nothing is read of
-- what the prepared chain answered, the chain answers
pub answered : {st : State} {l : List ℤ} {s : Sheet} → Holds st l s → (p : Point) → point_fault st.profile p ≡ 0 → {a : Answer} → forward_prepared l p ≡ a → forward_of (chain_of s.profile s.steps) p ≡ a
answered {st} {l} {s} h p f e = rw (← h.profile) (sym (prepared-forward st.profile l s.steps h.chain p f) ∙ e)

-- what holds once the line is counted, as a state of its own
pub holds-on : (st : State) (n : ℕ) (y : ℤ) {l : List ℤ} {s : Sheet} → y ≡ st.profile → Holds (passed_in st 1) l s → n ≡ s.line → Holds (record { line = n; profile = y; refused = st.refused; closed = st.closed }) l s
unfolding passed_in
holds-on st n y q h e = rw q (record { line = e; profile = h.profile; refused = h.refused; closed = h.closed; chain = h.chain; counted = h.counted })

pub hold-fresh : Holds (record { line = 1; profile = latest; refused = false; closed = false }) (replicate 72 (pos 0)) fresh
hold-fresh = record { line = refl; profile = refl; refused = refl; closed = refl; chain = holds-fresh; counted = omega arith }

-- ---- each line is counted
unless-line : (s a b : Sheet) (n : ℕ) → a.line ≡ s.line + 1 → b.line ≡ s.line + 1 → (unless n (λ _. a) b).line ≡ s.line + 1
unless-line s a b zero e f = f
unless-line s a b (suc n) e f = e

pub next-line : (s : Sheet) (line : List ℕ) → (next_of s line).line ≡ s.line + 1
unfolding next_of
next-line s line = by-letters (λ (x : Sheet). x.line ≡ s.line + 1) letter_s letter_p letter_e line _ _ _ _ (step (read_step s.profile line)) refl (edition (read_edition line)) refl
  where
    step : (l : Line Step) → (after_step s l).line ≡ s.line + 1
    step (Malformed f) = refl
    step (Refused n) = refl
    step (Good t) = unless-line s (without_step s) (with_step s t) (first (step_line_tests s t)) refl refl

    edition : (l : Result ℤ Fault) → (after_edition s l).line ≡ s.line + 1
    edition (Err f) = refl
    edition (Ok y) = unless-line s (without_step s) (with_edition s y) (first (edition_tests s y)) refl refl
