-- `capi::fragments::swivelcrane_feed` meets its contract: the lengths, the counts and flags, and then what the library answers. Assumes nothing.
use mathlib.Core.Path.{refl, sym, ◌∙◌, ap}
use mathlib.Core.Bool.{Bool, ◌&&◌}
use borrow.Author.Tests.{eqb-true}
use lib.Dec.{eqb}
use lib.ListN.{length}
use Rattle.rounding.proofs.Machine.{told}
use Rattle.ranges.proofs.Ranges.{both}
use Rattle.sheet_stream.specs.declared.Fed.{Fed}
use Rattle.sheet_stream.specs.declared.Stream.{Stream}
use Rattle.sheet_stream.specs.Fragments.{feed_of}
use Rattle.capi.specs.Fragments.{sized_state}
use Rattle.capi.proofs.Streams.{sized-parts, unsized, unranged, ranged, told-unsized, told-unranged, told-ranged}
use Rattle.capi.proofs.fragments.swivelcrane_feed.Goals as goal

pub returns-then-not-are_sized-told : goal.returns-then-not-are_sized-told
returns-then-not-are_sized-told c =
    let s = c.args in
    let f : Stream → Fed = λ x. feed_of x s.fragment.now in
    let e = sym (ap (λ (b : Bool). b && eqb (length s.told.now) 2) c.are_sized.ensures) ∙ c.if-not-are_sized-told.true in
    record { state = unsized f s.numbers.now s.bytes.now e; tells = told-unsized f s.numbers.now s.bytes.now s.told.now e }

pub in_range-requires : goal.in_range-requires
in_range-requires c =
    let s = c.args in
    let sized = sym (ap (λ (b : Bool). b && eqb (length s.told.now) 2) c.are_sized.ensures) ∙ c.if-not-are_sized-told.false in
    (sized-parts (length s.numbers.now) (length s.bytes.now) (length s.out.now) (both _ _ sized).0).state

pub returns-then-not-in_range : goal.returns-then-not-in_range
returns-then-not-in_range c =
    let s = c.args in
    let f : Stream → Fed = λ x. feed_of x s.fragment.now in
    let sized = sym (ap (λ (b : Bool). b && eqb (length s.told.now) 2) c.are_sized.ensures) ∙ c.if-not-are_sized-told.false in
    let e = sym c.in_range.ensures ∙ c.if-not-in_range.true in
    record {
      state = unranged f s.numbers.now s.bytes.now sized e (told c.minus.type_inv ∙ c.minus.ensures);
      tells = told-unranged f s.numbers.now s.bytes.now s.told.now sized e;
    }

pub feed_open-requires : goal.feed_open-requires
feed_open-requires c =
    let s = c.args in
    let sized = sym (ap (λ (b : Bool). b && eqb (length s.told.now) 2) c.are_sized.ensures) ∙ c.if-not-are_sized-told.false in
    let p = sized-parts (length s.numbers.now) (length s.bytes.now) (length s.out.now) (both _ _ sized).0 in
    let good = sym c.in_range.ensures ∙ c.if-not-in_range.false in (
      p.state,
      good,
      p.line,
      eqb-true (length s.told.now) 2 (both (sized_state (length s.numbers.now) (length s.bytes.now) (length s.out.now))
          (eqb (length s.told.now) 2) sized).1,
      c.first_end-end.ensures,
      sym c.is_fed.ensures ∙ c.if-not-is_fed.true,
    )

pub returns-then-not-is_fed : goal.returns-then-not-is_fed
returns-then-not-is_fed c =
    let s = c.args in
    let f : Stream → Fed = λ x. feed_of x s.fragment.now in
    let sized = sym (ap (λ (b : Bool). b && eqb (length s.told.now) 2) c.are_sized.ensures) ∙ c.if-not-are_sized-told.false in
    let good = sym c.in_range.ensures ∙ c.if-not-in_range.false in
    let o = c.feed_open.ensures in
    rw (told c.feed_open.type_inv)
    (record {
      state = ranged f s.numbers.now s.bytes.now sized good refl (o.state s.out.now);
      tells = told-ranged f s.numbers.now s.bytes.now s.told.now sized good refl o.tells;
    })

pub feed_line-requires : goal.feed_line-requires
feed_line-requires c =
    let s = c.args in
    let sized = sym (ap (λ (b : Bool). b && eqb (length s.told.now) 2) c.are_sized.ensures) ∙ c.if-not-are_sized-told.false in
    let p = sized-parts (length s.numbers.now) (length s.bytes.now) (length s.out.now) (both _ _ sized).0 in
    let good = sym c.in_range.ensures ∙ c.if-not-in_range.false in (
      p.state,
      good,
      p.line,
      p.room,
      eqb-true (length s.told.now) 2
          (both (sized_state (length s.numbers.now) (length s.bytes.now) (length s.out.now))
          (eqb (length s.told.now) 2) sized).1,
      c.first_end-end.ensures,
      sym c.is_fed.ensures ∙ c.if-not-is_fed.false,
    )

pub returns : goal.returns
returns c =
    let s = c.args in
    let f : Stream → Fed = λ x. feed_of x s.fragment.now in
    let sized = sym (ap (λ (b : Bool). b && eqb (length s.told.now) 2) c.are_sized.ensures) ∙ c.if-not-are_sized-told.false in
    let good = sym c.in_range.ensures ∙ c.if-not-in_range.false in
    rw (told c.feed_line.type_inv)
    (record {
      state = ranged f s.numbers.now s.bytes.now sized good refl c.feed_line.ensures.state;
      tells = told-ranged f s.numbers.now s.bytes.now s.told.now sized good refl c.feed_line.ensures.tells;
    })
