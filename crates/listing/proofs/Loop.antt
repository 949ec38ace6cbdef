-- A program's loop over the lines of its input, for any rules: where it stands between two lines, how it begins, goes on and ends. Assumes nothing.
use Prim.Native.Nat.{ℕ, ◌+◌, ◌-◌, ◌≤◌, ◌<◌}
use mathlib.Core.Path.{◌≡◌, refl, ap, ◌∙◌}
use mathlib.Core.List.{List}
use lib.ListN.{length, take, drop}
use lib.Seq.{length-sets}
use native.Mathlib.Omega.{arith}
use Rattle.line.specs.Lines.{line_end}
use Rattle.line.specs.Text.{Wrote}
use Rattle.line.specs.declared.Feeds.{Feeds}
use Rattle.line.specs.BareLines.{AnswersFeeds}
use Rattle.line.proofs.Lines.{Piece, piece}
use Rattle.line.proofs.BareLines.{row_inside}
use Rattle.listing.specs.Fold.{Rules, longest_input, printed}
use Rattle.listing.proofs.Fold.{Left, left-all, left-turn, left-none, printed-lines, Bare, after_feeds, feeds-counted, left-feeds}
use Rattle.listing.proofs.Room.{Roomy}

-- what is written leaves the array as long as it was
kept-length : {l : List ℕ} {at : ℕ} {vs m : List ℕ} {r : ℕ} → Wrote l at vs m r → length m ≡ length l
kept-length {l} {at} {vs} w = ap length w.list ∙ length-sets l at vs

-- the loop stands at byte `from` of the input and byte `at` of the array: the code holds some state of the rules, whose number counts the lines, and once what
-- it leaves is written the whole is
pub record Midway {S R : Type 0} (r : Rules S R) (number : S → ℕ) (fresh : S) (input out₀ : List ℕ) (Held : S → Type 0) (out : List ℕ) (at from : ℕ) : Type 0 where
  pub state : S
  pub held : Held state
  pub left : Left r fresh input out₀ state from out at
  pub inside : from ≤ length input
  pub counted : number state ≤ from + 1
  pub size : length out ≡ length out₀

-- what was decided on a line: the reply, and the state that the code holds after it, whichever it held before
abbrev pub Decides : {S R : Type 0} → Rules S R → List ℕ → (S → Type 0) → R → (S → Type 0) → Type 0
Decides {S} r line Held reply Held' = (s : S) → Held s → (reply ≡ r.reply s line) × Held' (r.next s line)

-- what was printed for a line: the reply's text, and the state that the code holds after it, whichever it held before
abbrev pub Shows : {S R : Type 0} → Rules S R → List ℕ → (S → Type 0) → List ℕ → ℕ → List ℕ → ℕ → (S → Type 0) → Type 0
Shows {S} r line Held out at out' at' Held' = (s : S) → Held s → Wrote out at (r.text (r.reply s line)) out' at' × Held' (r.next s line)

module _ {S R : Type 0} (r : Rules S R) (number : S → ℕ) (fresh : S) (one : number fresh ≡ 1) (input out₀ : List ℕ) where
  pub starts : {Held : S → Type 0} → Held fresh → Midway r number fresh input out₀ Held out₀ 0 0
  starts h = record { state = fresh; held = h; left = left-all r fresh input out₀; inside = omega arith; counted = omega arith; size = refl }

  pub ends : {Held : S → Type 0} {out : List ℕ} {at from : ℕ} → length input ≤ longest_input → length input ≤ from → Midway r number fresh input out₀ Held out at from → Wrote out₀ 0 (printed r fresh input) out at
  ends {out = out} {at} {from} few h k = rw (printed-lines r fresh input few) (left-none r fresh input out₀ from k.state out at h k.left)

  -- past a line whose reply was printed, whatever state the code held before it
  pub goes-printed : Roomy r number → {Held Held' : S → Type 0} {out out' : List ℕ} {at at' from : ℕ} (e : ℕ) → e ≡ line_end input from → from < length input → Shows r (take (e - from) (drop from input)) Held out at out' at' Held' → Midway r number fresh input out₀ Held out at from → Midway r number fresh input out₀ Held' out' at' e
  goes-printed roomy {out = out} {out'} {at} {at'} {from} e q h d k =
      let line = take (e - from) (drop from input) in
      let x = d k.state k.held in
      let l = piece input from e q h in
      record {
        state = r.next k.state line;
        held = x.1;
        left = left-turn r fresh input out₀ from e k.state out out' at at' q h x.0 k.left;
        inside = l.inside;
        counted = omega (arith, l.some, k.counted, roomy.counts k.state line);
        size = kept-length x.0 ∙ k.size;
      }

  -- past a line whose reply was decided, and then written
  pub goes_on : Roomy r number → {Held Held' : S → Type 0} {out out' : List ℕ} {at at' from : ℕ} (e : ℕ) (reply : R) → e ≡ line_end input from → from < length input → Decides r (take (e - from) (drop from input)) Held reply Held' → Wrote out at (r.text reply) out' at' → Midway r number fresh input out₀ Held out at from → Midway r number fresh input out₀ Held' out' at' e
  goes_on roomy e reply q h d w k = goes-printed roomy e q h (λ s held. let x = d s held in (rw (← x.0) w, x.1)) k

  -- past bare line feeds that were answered at once, the first under the number n that the code holds
  pub goes-past : Bare r number → {Held Held' : S → Type 0} {out out' : List ℕ} {at from n : ℕ} (fed : Feeds) → ((s : S) → Held s → (n ≡ number s) × Held' (after_feeds r fed.lines s)) → AnswersFeeds input from out at n out' fed → Midway r number fresh input out₀ Held out at from → Midway r number fresh input out₀ Held' out' fed.at (from + fed.lines)
  goes-past bare {out = out} {out'} {at} {from} fed d f k =
      let x = d k.state k.held in
      record {
        state = after_feeds r fed.lines k.state;
        held = x.1;
        left = left-feeds bare fresh input out₀ fed.lines from k.state out out' at fed.at f.each (rw (← x.0) f.wrote) k.left;
        inside = row_inside fed.lines input from k.inside f.each;
        counted = omega (arith, k.counted, feeds-counted bare fed.lines k.state);
        size = kept-length f.wrote ∙ k.size;
      }
