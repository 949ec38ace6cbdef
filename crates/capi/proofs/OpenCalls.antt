-- A call whose fragment ends no line: of the numbers only the count of kept bytes moves. Assumes nothing.
use Prim.Native.Nat.{ℕ, zero, suc, ◌+◌, ◌-◌, ◌*◌, ◌≤◌, min}
use mathlib.Core.Path.{◌≡◌, refl, sym, ◌∙◌, ap}
use mathlib.Core.Bool.{Bool, true, false, not, ◌&&◌}
use mathlib.Core.List.{List, [], ◌∷◌}
use native.Mathlib.Omega.{arith}
use lib.IntN.{ℤ, pos, neg_ℤ, nat_abs}
use lib.ListN.{length, take, drop, set, length-drop, length-take}
use lib.Seq.{sets}
use Rattle.refusal.specs.Numbers as refusal
use Rattle.ranges.specs.Ranges.{within}
use Rattle.ranges.proofs.Ranges.{both, all, above, Natural, natural, equal-self}
use Rattle.line.specs.Lines.{line_end}
use Rattle.sheet_rules.specs.OneLine.{sound_standing}
use Rattle.sheet_stream.specs.declared.Stream.{Stream}
use Rattle.std.specs.Prelude.{Ok, None}
use Rattle.sheet_stream.specs.Fragments.{sound, state_of, fed, fed_at, feed_of}
use Rattle.sheet_stream.proofs.Laws.{sound-parts, sound-is, feed-state}
use Rattle.sheet_stream.proofs.Scanning.{Going, fed-open}
use Rattle.chain.specs.Numbers.{number}
use Rattle.capi.specs.Fragments.{state_range, is_flag, flag, bit, chain_in, standing_in, stream_from, head_of, numbers_with, OpenCall}
use Rattle.capi.proofs.Streams.{counts, size_of, countable, no_line, no-new-step}

-- ---- the first seven numbers, stored as they were but for the second
head-stored : (ns : List ℤ) → length ns ≡ 111 → (c : ℤ) {a d e f g h : ℤ} → a ≡ number ns 0 → d ≡ number ns 2 → e ≡ number ns 3 → f ≡ number ns 4 → g ≡ number ns 5 → h ≡ number ns 6 → set ns 1 c ≡ sets ns 0 (a ∷ c ∷ d ∷ e ∷ f ∷ g ∷ h ∷ [])
head-stored [] l c = absurd (omega arith)
head-stored (a0 ∷ []) l c = absurd (omega arith)
head-stored (a0 ∷ a1 ∷ []) l c = absurd (omega arith)
head-stored (a0 ∷ a1 ∷ a2 ∷ []) l c = absurd (omega arith)
head-stored (a0 ∷ a1 ∷ a2 ∷ a3 ∷ []) l c = absurd (omega arith)
head-stored (a0 ∷ a1 ∷ a2 ∷ a3 ∷ a4 ∷ []) l c = absurd (omega arith)
head-stored (a0 ∷ a1 ∷ a2 ∷ a3 ∷ a4 ∷ a5 ∷ []) l c = absurd (omega arith)
head-stored (a0 ∷ a1 ∷ a2 ∷ a3 ∷ a4 ∷ a5 ∷ a6 ∷ ns) l c = λ p q r s t u. rw (p, q, r, s, t, u)

-- a flag, and a count, are the numbers that they were read from
pub flag-back : (z : ℤ) → is_flag z ≡ true → bit (flag z) ≡ z
flag-back z e = let n = natural 0 z 1 e in rw n.is (go n.n n.high)
  where
    go : (m : ℕ) → m ≤ 1 → bit (flag (pos m)) ≡ pos m
    go zero h = rw (equal-self (pos 0))
    go (suc zero) h = rw (above (pos 0) (pos 1) (pos 0) refl)
    go (suc (suc m)) h = absurd (omega arith)

pub count-back : (z : ℤ) (hi : ℕ) → Natural 0 z hi → pos (nat_abs z) ≡ z
count-back z hi n = rw n.is

module _ (ns : List ℤ) (bytes : List ℕ) (long : length ns ≡ 111) (ranged : state_range ns ≡ true) where
  pub flags : (is_flag (number ns 2) ≡ true) × (is_flag (number ns 3) ≡ true) × (is_flag (number ns 4) ≡ true)
  unfolding state_range
  flags =
      all (is_flag (number ns 2)) (is_flag (number ns 3)) (is_flag (number ns 4))
      (both (within (pos 0) (number ns 0) (pos 1000000) && within (pos 0) (number ns 1) (pos 200) && within (pos 0) (number ns 6) (pos 8)) _ ranged).1

  pub steps-in : (chain_in ns).length ≡ nat_abs (number ns 6)
  unfolding chain_in
  steps-in = let k = size_of (number ns 6) 8 (counts ns ranged).steps in omega (arith, length-drop 7 ns, length-take (13 * nat_abs (number ns 6)) (drop 7 ns), k, long)

  pub profile-in : number ns 5 ≡ (chain_in ns).profile
  unfolding chain_in
  profile-in = refl

  stored : flag (number ns 4) ≡ false → (c : ℕ) (kept : List ℕ) → set ns 1 (pos c) ≡ numbers_with ns (state_of (standing_in ns) c kept false)
  unfolding numbers_with head_of
  stored e c kept =
      let k = counts ns ranged in
      let z : nat_abs (number ns 0) + 1 - 1 ≡ nat_abs (number ns 0) = omega arith in
      head-stored ns long (pos c) (ap pos z ∙ count-back (number ns 0) 1000000 k.lines) (flag-back (number ns 2) flags.0) (flag-back (number ns 3) flags.1) (ap bit (sym e) ∙ flag-back (number ns 4) flags.2) (sym profile-in) (ap pos steps-in ∙ count-back (number ns 6) 8 k.steps)
      ∙ ap (λ (m : List ℤ). sets m 0 (head_of (state_of (standing_in ns) c kept false))) (no-new-step ns (chain_in ns) refl (omega (arith, steps-in)))

  abbrev here : Stream
  here = stream_from ns bytes

  -- whether the call is answered
  pub answered-as : (b : Bool) → b ≡ (not (flag (number ns 4)) && sound_standing (standing_in ns)) → sound here ≡ b
  unfolding stream_from
  answered-as b e = sound-is here (countable ns bytes long ranged).count ∙ sym e

  module _ (f : List ℕ) (told : List ℤ) where
    pub open-state : sound here ≡ false → {r : ℤ} → r ≡ neg_ℤ (pos refusal.state) → OpenCall f ns ns bytes bytes told told r
    open-state e q = record { state = λ out. rw (feed-state here f e) (record { status = q; state = refl; line = refl; written = refl }); tells = rw (feed-state here f e) }

    pub open_kept : length bytes ≡ 200 → (n : ℕ) → n ≡ line_end f 0 → fed_at f n ≡ false → sound here ≡ true → (c : ℕ) (kept : List ℕ) → c ≡ min (nat_abs (number ns 1) + length f) (length bytes) → kept ≡ sets bytes (nat_abs (number ns 1)) (take (length bytes - nat_abs (number ns 1)) f) → OpenCall f ns (set ns 1 (pos c)) bytes kept told (pos n ∷ pos 0 ∷ []) (pos 0)
    unfolding stream_from
    open_kept room n e q ok c kept ec ek =
        let p = sound-parts here ok in
        let g : Going here = record { going = p.going; count = p.count } in
        let o : feed_of here f ≡ fed (state_of (standing_in ns) c kept false) n (Ok None) = sym (fed-open here g f n e room f c kept ec ek q refl ok) in
        record {
          state = λ out. rw o (no_line (state_of (standing_in ns) c kept false) (Ok None) ns bytes out (stored p.going c kept) refl refl);
          tells = rw o;
        }
