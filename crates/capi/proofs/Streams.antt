-- A state of numbers and bytes, and the three ways in which a call over it ends. Assumes nothing.
use Prim.Native.Nat.{ℕ, ◌+◌, ◌-◌, ◌*◌, ◌<◌, ◌≤◌}
use mathlib.Core.Path.{◌≡◌, refl, sym, ◌∙◌, ap, ap₂}
use mathlib.Core.Bool.{Bool, true, false, ◌&&◌}
use mathlib.Core.List.{List, [], ◌∷◌, ◌++◌}
use native.Mathlib.Omega.{arith}
use borrow.Author.Tests.{eqb-true, leb-true, lt-ltb, le-ltb}
use lib.Dec.{eqb, leb}
use lib.IntN.{ℤ, pos, neg_ℤ, nat_abs}
use lib.ListN.{length, get_or, take, drop, length-drop, length-take}
use lib.Seq.{sets, sets-eq}
use mir.Syntax.{w64}
use mir.Val.{to_z}
use mir.ValLaws.{to_z_pos}
use Rattle.refusal.specs.Numbers as refusal
use Rattle.refusal.specs.Refusals as refusals
use Rattle.refusal.specs.declared.Refusal.{Refusal}
use Rattle.std.specs.Prelude.{Some, None, Ok, Err}
use Rattle.ranges.specs.Ranges.{within}
use Rattle.ranges.proofs.Ranges.{both, all, Natural, natural, natural-holds, equal-self}
use Rattle.chain.specs.declared.Step.{Step}
use Rattle.chain.specs.declared.Chain.{Chain}
use Rattle.chain.specs.declared.Shift.{Shift}
use Rattle.chain.specs.declared.Velocity.{Velocity}
use Rattle.chain.specs.declared.BursaWolf.{BursaWolf}
use Rattle.chain.specs.declared.Kind.TheVariants as kind
use Rattle.chain.specs.Join.{past_steps}
use Rattle.line.specs.Bytes.{letter_b, letter_f, letter_t, letter_v}
use Rattle.line.specs.Text.{Wrote}
use Rattle.sheet_rules.specs.declared.Reply.{Reply}
use Rattle.sheet_rules.specs.declared.Standing.{Standing}
use Rattle.sheet_rules.specs.Sheet.{reply_text}
use Rattle.sheet_rules.specs.OneLine.{sound_at, sound_standing}
use Rattle.sheet_rules.proofs.Answers.{sound-is}
use Rattle.sheet_stream.specs.declared.Fed.{Fed}
use Rattle.sheet_stream.specs.declared.Stream.{Stream}
use Rattle.sheet_stream.specs.Fragments.{Outcome, Countable, Short, feed_of, finish_of}
use Rattle.sheet_stream.proofs.Laws.{fed-after-finish, finished-after-finish}
use Rattle.chain.specs.Numbers.{number, chain_from}
use Rattle.chain.proofs.LentSteps.{eight-none}
use Rattle.capi.specs.Fragments.{FreshFromC, sized_state, state_range, is_flag, chain_in, standing_in, stream_from, flag, bit, head_of, convention_number, step_numbers, with_new_step, numbers_with, of_outcome, called, state_call, told_of, told_after, Stated, FedCall}

-- ---- the lengths
pub record Sized (numbers bytes out : ℕ) : Type 0 where
  pub state : numbers ≡ 111
  pub line : bytes ≡ 200
  pub room : 200 ≤ out

pub sized-parts : (numbers bytes out : ℕ) → sized_state numbers bytes out ≡ true → Sized numbers bytes out
unfolding sized_state
sized-parts numbers bytes out e =
    let a = all (eqb numbers 111) (eqb bytes 200) (leb 200 out) e in
    record { state = eqb-true numbers 111 a.0; line = eqb-true bytes 200 a.1; room = leb-true 200 out a.2 }

-- ---- the counts
pub record Counts (ns : List ℤ) : Type 0 where
  pub lines : Natural 0 (number ns 0) 1000000
  pub kept : Natural 0 (number ns 1) 200
  pub steps : Natural 0 (number ns 6) 8

pub counts : (ns : List ℤ) → state_range ns ≡ true → Counts ns
unfolding state_range
counts ns e =
    let a = both _ (is_flag (number ns 2) && is_flag (number ns 3) && is_flag (number ns 4)) e in
    let b = all (within (pos 0) (number ns 0) (pos 1000000)) (within (pos 0) (number ns 1) (pos 200)) (within (pos 0) (number ns 6) (pos 8)) a.0 in
    record { lines = natural 0 (number ns 0) 1000000 b.0; kept = natural 0 (number ns 1) 200 b.1; steps = natural 0 (number ns 6) 8 b.2 }

-- each is a count of at most 1,000,000
pub a-count : (z : ℤ) (hi : ℕ) → hi ≤ 1000000 → Natural 0 z hi → within (pos 0) z (pos 1000000) ≡ true
a-count z hi h n = rw n.is (natural-holds 0 n.n 1000000 n.low (omega (arith, n.high)))

pub size_of : (z : ℤ) (hi : ℕ) → Natural 0 z hi → nat_abs z ≤ hi
size_of z hi n = rw n.is n.high

-- the chain of the part of the numbers that holds the steps
pub chain-read : (ns : List ℤ) {y : ℤ} {k : ℕ} → y ≡ number ns 5 → k ≡ 7 + 13 * nat_abs (number ns 6) → chain_from y (take (k - 7) (drop 7 ns)) ≡ chain_in ns
unfolding chain_in
chain-read ns {k = k} e f = let z : k - 7 ≡ 13 * nat_abs (number ns 6) = omega arith in rw (e, z)

-- whether a sheet can stand there, by the line to come and the chain alone
pub sound-in : (ns : List ℤ) {b : Bool} {l : ℕ} {c : Chain} → b ≡ sound_at l c → l ≡ nat_abs (number ns 0) + 1 → c ≡ chain_in ns → b ≡ sound_standing (standing_in ns)
sound-in ns e f g = e ∙ ap₂ sound_at f g ∙ sound-is (standing_in ns)

-- a state whose counts are in their ranges
pub countable : (ns : List ℤ) (bytes : List ℕ) → length ns ≡ 111 → state_range ns ≡ true → Countable (stream_from ns bytes)
unfolding stream_from chain_in
countable ns bytes l e =
    let c = counts ns e in
    let n = size_of (number ns 0) 1000000 c.lines in
    let k = size_of (number ns 6) 8 c.steps in
    let d = length-drop 7 ns in
    let t = length-take (13 * nat_abs (number ns 6)) (drop 7 ns) in
    record { from = omega arith; to = omega arith; count = size_of (number ns 1) 200 c.kept; steps = omega arith }

-- the state that C begins with
pub fresh-from-c : FreshFromC
unfolding stream_from chain_in
fresh-from-c = rw (equal-self (pos 0), eight-none)

-- ---- a step's row, number by number
module _ (s : Step) {p q r u : ℤ} (hp : p ≡ s.before.datum) (hq : q ≡ s.before.epoch) (hr : r ≡ s.after.datum) (hu : u ≡ s.after.epoch) where
  pub shift-row : {t : Shift} → s.kind ≡ kind.Shift t → {a b c : ℤ} → a ≡ t.dx → b ≡ t.dy → c ≡ t.dz → (pos letter_t ∷ pos 0 ∷ p ∷ q ∷ r ∷ u ∷ a ∷ b ∷ c ∷ pos 0 ∷ pos 0 ∷ pos 0 ∷ pos 0 ∷ []) ≡ step_numbers s
  unfolding step_numbers
  shift-row e ha hb hc = rw (e, hp, hq, hr, hu, ha, hb, hc)

  pub velocity-row : {t : Velocity} → s.kind ≡ kind.Velocity t → {a b c : ℤ} → a ≡ t.vx → b ≡ t.vy → c ≡ t.vz → (pos letter_v ∷ pos 0 ∷ p ∷ q ∷ r ∷ u ∷ a ∷ b ∷ c ∷ pos 0 ∷ pos 0 ∷ pos 0 ∷ pos 0 ∷ []) ≡ step_numbers s
  unfolding step_numbers
  velocity-row e ha hb hc = rw (e, hp, hq, hr, hu, ha, hb, hc)

  pub bursa-wolf-row : {t : BursaWolf} → s.kind ≡ kind.BursaWolf t → {w a b c d f g h : ℤ} → w ≡ convention_number t.convention → a ≡ t.dx → b ≡ t.dy → c ≡ t.dz → d ≡ t.rx → f ≡ t.ry → g ≡ t.rz → h ≡ t.s → (pos letter_b ∷ w ∷ p ∷ q ∷ r ∷ u ∷ a ∷ b ∷ c ∷ d ∷ f ∷ g ∷ h ∷ []) ≡ step_numbers s
  unfolding step_numbers
  bursa-wolf-row e hw ha hb hc hd hf hg hh = rw (e, hp, hq, hr, hu, hw, ha, hb, hc, hd, hf, hg, hh)

  pub frame_row : s.kind ≡ kind.Frame → (pos letter_f ∷ pos 0 ∷ p ∷ q ∷ r ∷ u ∷ pos 0 ∷ pos 0 ∷ pos 0 ∷ pos 0 ∷ pos 0 ∷ pos 0 ∷ pos 0 ∷ []) ≡ step_numbers s
  unfolding step_numbers
  frame_row e = rw (e, hp, hq, hr, hu)

pub head : (s : Stream) {l k a b f y n : ℤ} → l ≡ pos (s.standing.line - 1) → k ≡ pos s.count → a ≡ bit s.standing.refused → b ≡ bit s.standing.closed → f ≡ bit s.finished → y ≡ s.standing.chain.profile → n ≡ pos s.standing.chain.length → (l ∷ k ∷ a ∷ b ∷ f ∷ y ∷ n ∷ []) ≡ head_of s
unfolding head_of
head s hl hk ha hb hf hy hn = rw (hl, hk, ha, hb, hf, hy, hn)

-- ---- how a call ends
module _ (s : Stream) (o : Outcome) (ns : List ℤ) (bytes out : List ℕ) where
  pub declined : (e : Refusal) → o ≡ Err e → {r : ℤ} → r ≡ neg_ℤ (pos (refusals.number e)) → Stated (of_outcome s o) ns ns bytes bytes out out r
  declined n e f = rw e (record { status = f; state = refl; line = refl; written = refl })

  module _ {ns' : List ℤ} {bytes' : List ℕ} (f : ns' ≡ numbers_with ns s) (g : bytes' ≡ s.kept) where
    pub no_line : o ≡ Ok None → Stated (of_outcome s o) ns ns' bytes bytes' out out (pos 0)
    no_line e = rw e (record { status = refl; state = f; line = g; written = refl })

    pub line-ended : (r : Reply) → o ≡ Ok (Some r) → Short o → 200 ≤ length out → {out' : List ℕ} {k : ℕ} → Wrote out 0 (reply_text r) out' k → Stated (of_outcome s o) ns ns' bytes bytes' out out' (to_z w64 k)
    line-ended r e t h {k = k} w =
        let m : length (reply_text r) ≤ 100 = rw e at t in
        let z : 0 + length (reply_text r) ≡ length (reply_text r) = omega arith in
        let n : k ≡ length (reply_text r) = omega (arith, w.place) in
        rw e
        (record {
          status = to_z_pos w64 k (omega arith) ∙ ap pos n;
          state = f;
          line = g;
          written = w.list ∙ sets-eq (reply_text r) out 0 (omega arith) ∙ ap (λ (j : ℕ). reply_text r ++ drop j out) z;
        })

-- ---- the state out of its parts
pub standing-parts : (ns : List ℤ) {l : ℕ} {c : Chain} {a b : Bool} → l ≡ nat_abs (number ns 0) → c ≡ chain_in ns → a ≡ flag (number ns 2) → b ≡ flag (number ns 3) → record { line = l + 1; chain = c; refused = a; closed = b } ≡ standing_in ns
standing-parts ns hl hc ha hb = rw (hl, hc, ha, hb)

pub from_parts : (ns : List ℤ) (bytes : List ℕ) {st : Standing} {k : ℕ} {f : Bool} {kept : List ℕ} → st ≡ standing_in ns → k ≡ nat_abs (number ns 1) → f ≡ flag (number ns 4) → kept ≡ bytes → record { standing = st; count = k; kept = kept; finished = f } ≡ stream_from ns bytes
unfolding stream_from
from_parts ns bytes hst hk hf hs = rw (hst, hk, hf, hs)

-- ---- a step taken in
pub new-step : (ns : List ℤ) (c : Chain) {k : ℕ} → k ≡ nat_abs (number ns 6) → k < c.length → sets ns (7 + 13 * k) (step_numbers (get_or c.steps k past_steps)) ≡ with_new_step ns c
unfolding with_new_step
new-step ns c {k} e h = rw (← e, lt-ltb k c.length h)

pub no-new-step : (ns : List ℤ) (c : Chain) {k : ℕ} → k ≡ nat_abs (number ns 6) → c.length ≤ k → ns ≡ with_new_step ns c
unfolding with_new_step
no-new-step ns c {k} e h = rw (← e, le-ltb k c.length h)

-- ---- a whole call
module _ (f : Stream → Fed) (ns : List ℤ) (bytes : List ℕ) {sized : Bool} where
  pub unsized : sized ≡ false → {out : List ℕ} → Stated (state_call f ns bytes sized) ns ns bytes bytes out out (neg_ℤ (pos 255))
  unfolding state_call
  unsized e = rw e (record { status = refl; state = refl; line = refl; written = refl })

  pub unranged : sized ≡ true → state_range ns ≡ false → {out : List ℕ} {r : ℤ} → r ≡ neg_ℤ (pos refusal.state) → Stated (state_call f ns bytes sized) ns ns bytes bytes out out r
  unfolding state_call
  unranged e g h = rw (e, g) (record { status = h; state = refl; line = refl; written = refl })

  pub ranged : sized ≡ true → state_range ns ≡ true → {x : Fed} → x ≡ f (stream_from ns bytes) → {ns' : List ℤ} {bytes' out out' : List ℕ} {r : ℤ} → Stated (called x) ns ns' bytes bytes' out out' r → Stated (state_call f ns bytes sized) ns ns' bytes bytes' out out' r
  unfolding state_call
  ranged e g h s = rw (e, g, ← h) s

  module _ (told : List ℤ) where
    pub told-unsized : sized ≡ false → told ≡ told_after f ns bytes sized told
    unfolding told_after
    told-unsized e = rw e

    pub told-unranged : sized ≡ true → state_range ns ≡ false → told ≡ told_after f ns bytes sized told
    unfolding told_after
    told-unranged e g = rw (e, g)

    pub told-ranged : sized ≡ true → state_range ns ≡ true → {x : Fed} → x ≡ f (stream_from ns bytes) → {told' : List ℤ} → told' ≡ told_of x.taken x.outcome told → told' ≡ told_after f ns bytes sized told
    unfolding told_after
    told-ranged e g h t = rw (e, g, ← h) t

-- whether a state's sheet is finished
finished-from : (ns : List ℤ) (bytes : List ℕ) → (stream_from ns bytes).finished ≡ flag (number ns 4)
unfolding stream_from
finished-from ns bytes = refl

-- ---- a sheet that is finished
-- what is fed to it
pub finished-fed : (ns : List ℤ) (bytes : List ℕ) (fragment : List ℕ) → flag (number ns 4) ≡ true → {out : List ℕ} {told : List ℤ} {r : ℤ} → r ≡ neg_ℤ (pos refusal.state)
    → FedCall (feed_of (stream_from ns bytes) fragment) ns ns bytes bytes out out told told r
finished-fed ns bytes fragment e h =
    rw (fed-after-finish (stream_from ns bytes) fragment (finished-from ns bytes ∙ e)) (record { state = record { status = h; state = refl; line = refl; written = refl }; tells = refl })

-- how it ends again
pub finished-ended : (ns : List ℤ) (bytes : List ℕ) {sized : Bool} → sized ≡ true → state_range ns ≡ true → flag (number ns 4) ≡ true → {out : List ℕ} {r : ℤ} → r ≡ neg_ℤ (pos refusal.state)
    → Stated (state_call finish_of ns bytes sized) ns ns bytes bytes out out r
finished-ended ns bytes e g f h =
    ranged finish_of ns bytes e g (sym (finished-after-finish (stream_from ns bytes) (finished-from ns bytes ∙ f))) (record { status = h; state = refl; line = refl; written = refl })
