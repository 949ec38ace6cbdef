-- A call whose fragment ends a point line: the chain stays, and of the numbers the first four move. Assumes nothing.
use Prim.Native.Nat.{ℕ, ◌+◌, ◌-◌, ◌≤◌, ◌<◌, min}
use mathlib.Core.Path.{◌≡◌, refl, sym, ◌∙◌, ap, subst}
use mathlib.Core.Bool.{Bool, true, false, not, ◌||◌}
use mathlib.Core.List.{List, [], ◌∷◌}
use native.Mathlib.Omega.{arith}
use borrow.Author.Tests.{ltb-true, leb-true}
use lib.Dec.{eqb, leb, ltb}
use lib.IntN.{ℤ, pos, neg_ℤ, nat_abs}
use lib.ListN.{length, get_or, take, set}
use lib.Seq.{sets, length-sets}
use mir.Syntax.{w64}
use mir.Val.{to_z}
use Rattle.refusal.specs.Numbers as refusal
use Rattle.refusal.specs.Order.{pick}
use Rattle.ranges.proofs.Ranges.{all}
use Rattle.chain.specs.declared.Chain.{Chain}
use Rattle.chain.specs.Numbers.{number}
use Rattle.chain.proofs.LentSteps.{eight-steps}
use Rattle.line.specs.Bytes.{letter_p, line_feed}
use Rattle.line.specs.Lines.{line_end}
use Rattle.sheet_rules.specs.declared.LentPoint.{LentPoint}
use Rattle.sheet_rules.specs.declared.Reply.{Reply}
use Rattle.sheet_rules.specs.OneLine.{most_lines, counted, sound_standing, reply_to, after_line, answered, PointAnswer, point_answered, PointPrinted}
use Rattle.sheet_rules.proofs.Answers.{counted-holds}
use Rattle.sheet_rules.proofs.Points.{point-unsound, point-replied, unsound-printed, replied-printed}
use Rattle.sheet_rules.proofs.Room.{answer-short}
use Rattle.sheet_stream.specs.declared.Fed.{Fed}
use Rattle.sheet_stream.specs.declared.Stream.{Stream}
use Rattle.std.specs.Prelude.{Option, Some, None, Ok, Err}
use Rattle.refusal.specs.declared.Refusal.TheVariants.{State}
use Rattle.sheet_stream.specs.Fragments.{no_bytes, between, fed, unsound, ends_with, fed_at, feed_of, Short}
use Rattle.sheet_stream.proofs.Scanning.{Going, closing-room, fed-line, ended-unsound, ended-replied}
use Rattle.capi.specs.Fragments.{state_range, flag, bit, chain_in, standing_in, stream_from, head_of, numbers_with, point_time, point_passed, FedCall}
use Rattle.capi.proofs.Streams.{counts, countable, head, no-new-step, declined, line-ended}
use Rattle.capi.proofs.OpenCalls.{flag-back, count-back, flags, steps-in, profile-in}

-- what the rules are asked
pub asked-so : {c d : Chain} {l m : ℕ} {a b : Bool} (text : List ℕ) {before : List ℕ} {at : ℕ} {after : List ℕ} {r : Option LentPoint} → PointPrinted (point_answered c l a text) before at after r → c ≡ d → l ≡ m → a ≡ b → PointPrinted (point_answered d m b text) before at after r
asked-so text e f g h = rw (← f, ← g, ← h) e

module _ (ns : List ℤ) (bytes : List ℕ) (long : length ns ≡ 111) (ranged : state_range ns ≡ true) (time : point_time ns ≡ true) where
  times : (not (flag (number ns 4)) ≡ true) × (nat_abs (number ns 0) < 1000000) × (nat_abs (number ns 6) ≤ nat_abs (number ns 0))
  unfolding point_time
  times = let t = all (not (flag (number ns 4))) (ltb (nat_abs (number ns 0)) 1000000) (leb (nat_abs (number ns 6)) (nat_abs (number ns 0))) time in (t.0, ltb-true _ _ t.1, leb-true _ _ t.2)

  unfinished : bit (flag (number ns 4)) ≡ bit false
  unfinished = go (flag (number ns 4)) times.0
    where
      go : (b : Bool) → not b ≡ true → bit b ≡ bit false
      go true e = absurd (let z : ◌≡◌ {A = ℕ} 0 1 = cc in omega arith)
      go false e = refl

  -- ---- a line that ends here, its bytes behind those kept
  going : Going (stream_from ns bytes)
  unfolding stream_from
  going = record { going = go (flag (number ns 4)) times.0; count = (countable ns bytes long ranged).count }
    where
      go : (b : Bool) → not b ≡ true → b ≡ false
      go true e = absurd (let z : ◌≡◌ {A = ℕ} 0 1 = cc in omega arith)
      go false e = refl

  pub line-fed :
      length bytes ≡ 200 → (f : List ℕ) (n : ℕ) → n ≡ line_end f 0 → fed_at f n ≡ true → {k c : ℕ} {room kept : List ℕ} → k ≡ nat_abs (number ns 1) → room ≡ bytes →
      c ≡ min (k + length (take (n - 1) f)) (length room) → kept ≡ sets room k (take (length room - k) (take (n - 1) f)) → c < 200 →
      ends_with (stream_from ns bytes) (take (c + 1) (set kept c line_feed)) n false ≡ feed_of (stream_from ns bytes) f
  unfolding stream_from
  line-fed size f n e q {k} {c} {room} {kept} hk hr hc hkept h =
      let s = stream_from ns bytes in
      let ec : c ≡ min (nat_abs (number ns 1) + length (take (n - 1) f)) (length bytes) = hc ∙ rw (hk, hr) in
      let ek : kept ≡ sets bytes (nat_abs (number ns 1)) (take (length bytes - nat_abs (number ns 1)) (take (n - 1) f)) = hkept ∙ rw (hk, hr) in
      let full : length kept ≡ 200 = ap length ek ∙ length-sets bytes (nat_abs (number ns 1)) (take (length bytes - nat_abs (number ns 1)) (take (n - 1) f)) ∙ size in
      fed-line s going f n e size (take (n - 1) f) c kept ec ek q refl (ends_with s (take (c + 1) (set kept c line_feed)) n false) (ap (λ (l : List ℕ). ends_with s l n false) (sym (closing-room (standing_in ns) c kept false h full)))

  -- ---- the numbers after it
  pub passed-head :
      (closes : Bool) {l a b f y k : ℤ} → l ≡ pos (nat_abs (number ns 0) + 1) → a ≡ number ns 2 → b ≡ bit (flag (number ns 3) || closes) → f ≡ number ns 4 → y ≡ number ns 5 → k ≡ number ns 6 →
      sets ns 0 (l ∷ pos 0 ∷ a ∷ b ∷ f ∷ y ∷ k ∷ []) ≡ numbers_with ns (between (point_passed ns closes) false)
  unfolding numbers_with
  passed-head closes hl ha hb hf hy hk =
      let s = between (point_passed ns closes) false in
      let c = counts ns ranged in
      let g = flags ns bytes long ranged in
      let z : nat_abs (number ns 0) + 1 + 1 - 1 ≡ nat_abs (number ns 0) + 1 = omega arith in
      ap (sets ns 0)
      (head s (hl ∙ ap pos (sym z)) refl (ha ∙ sym (flag-back (number ns 2) g.0)) hb (hf ∙ sym (flag-back (number ns 4) g.2) ∙ unfinished) (hy ∙ profile-in ns bytes long ranged) (hk ∙ sym (count-back (number ns 6) 8 c.steps) ∙ ap pos (sym (steps-in ns bytes long ranged))))
      ∙ ap (λ (m : List ℤ). sets m 0 (head_of s)) (no-new-step ns (chain_in ns) refl (omega (arith, steps-in ns bytes long ranged)))

  -- ---- the answer
  module _ (text : List ℕ) (p : eqb (get_or text 0 0) letter_p ≡ true) (end : ℕ) where
    abbrev here : Stream
    here = stream_from ns bytes

    abbrev answer : PointAnswer
    answer = point_answered (chain_in ns) (nat_abs (number ns 0) + 1) (flag (number ns 2)) text

    far : nat_abs (number ns 0) + 1 ≤ most_lines
    far = omega (arith, times.1)

    few : counted (nat_abs (number ns 0) + 1) (chain_in ns).length ≡ true
    few = counted-holds (nat_abs (number ns 0) + 1) (chain_in ns).length (omega (arith, times.2, steps-in ns bytes long ranged)) (omega (arith, far))

    eight : length (chain_in ns).steps ≡ 8
    unfolding chain_in
    eight = eight-steps _

    bad : answer.response ≡ None → unsound here ≡ ends_with here text end false
    unfolding stream_from
    bad e = ended-unsound here text end false (answered (standing_in ns) None) (point-unsound (standing_in ns) text p far few {x = answer} refl e) refl

    good : (r : Reply) → answer.response ≡ Some r → fed (between (point_passed ns answer.closes) false) end (Ok (Some r)) ≡ ends_with here text end false
    unfolding stream_from
    good r e = ended-replied here text end false (answered (point_passed ns answer.closes) (Some r)) (point-replied (standing_in ns) text p far few {x = answer} refl r e eight) r refl

    short : Short (ends_with here text end false).outcome
    unfolding stream_from
    short = go (sound_standing (standing_in ns))
      where
        go : (b : Bool) → Short (pick {A = Fed} b (fed (between (after_line (standing_in ns) text) false) end (Ok (Some (reply_to (standing_in ns) text)))) (unsound here)).outcome
        go true = answer-short (standing_in ns) text (omega (arith, far))
        go false = tt

    -- as it was printed
    module _ (out : List ℕ) (told : List ℤ) {out' : List ℕ} {r : Option LentPoint} (w : PointPrinted answer out 0 out' r) where
      pub point-state : r ≡ None → {k : ℤ} → k ≡ neg_ℤ (pos refusal.state) → FedCall (ends_with here text end false) ns ns bytes bytes out out' told told k
      point-state e f =
          let u = unsound-printed w e in
          rw (u.1, ← bad u.0) (record { state = declined here (Err State) ns bytes out State refl f; tells = refl })

      -- an answer is short
      pub point-fits : (p : LentPoint) → r ≡ Some p → p.at < 9223372036854775808
      point-fits p e =
          let a = replied-printed w p e in
          let s : Short (Ok (Some a.0)) = subst Short (sym (ap (λ (y : Fed). y.outcome) (good a.0 a.1))) short in
          omega (arith, a.3.place, s)

      pub point-told :
          (p : LentPoint) → r ≡ Some p → 200 ≤ length out → {ns' : List ℤ} {bytes' : List ℕ} {told' : List ℤ} →
          ns' ≡ numbers_with ns (between (point_passed ns p.closes) false) → bytes' ≡ no_bytes → told' ≡ pos end ∷ pos 1 ∷ [] →
          FedCall (ends_with here text end false) ns ns' bytes bytes' out out' told told' (to_z w64 p.at)
      point-told p e room f g t =
          let a = replied-printed w p e in
          let h = good a.0 a.1 in
          let o = ap (λ (y : Fed). y.outcome) h in
          rw (← h)
          (record {
            state = line-ended (between (point_passed ns answer.closes) false) (Ok (Some a.0)) ns bytes out (f ∙ ap (λ (b : Bool). numbers_with ns (between (point_passed ns b) false)) a.2) g a.0 refl (subst Short (sym o) short) room a.3;
            tells = t;
          })
