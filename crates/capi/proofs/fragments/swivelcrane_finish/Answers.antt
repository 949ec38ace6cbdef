-- `capi::fragments::swivelcrane_finish` meets its contract: the lengths, the counts and flags, and then what the library answers. Assumes nothing.
use mathlib.Core.Path.{sym, ◌∙◌, ap}
use native.Mathlib.Omega.{arith}
use lib.ListN.{length}
use Rattle.rounding.proofs.Machine.{told}
use Rattle.sheet_stream.specs.Fragments.{finish_of}
use Rattle.sheet_stream.proofs.Laws.{finished-countable, finished-short}
use Rattle.capi.specs.Fragments.{stream_from, flag}
use Rattle.capi.proofs.Streams.{sized-parts, countable, unsized, unranged, ranged, finished-ended}
use Rattle.capi.proofs.fragments.swivelcrane_finish.Goals as goal

pub returns-then-not-are_sized : goal.returns-then-not-are_sized
returns-then-not-are_sized c =
    let s = c.args in
    unsized finish_of s.numbers.now s.bytes.now (sym c.are_sized.ensures ∙ c.if-not-are_sized.true)

pub in_range-requires : goal.in_range-requires
in_range-requires c =
    let s = c.args in
    let sized = sym c.are_sized.ensures ∙ c.if-not-are_sized.false in
    (sized-parts (length s.numbers.now) (length s.bytes.now) (length s.out.now) sized).state

pub returns-then-not-in_range : goal.returns-then-not-in_range
returns-then-not-in_range c =
    let s = c.args in
    let sized = sym c.are_sized.ensures ∙ c.if-not-are_sized.false in
    unranged finish_of s.numbers.now s.bytes.now sized (sym c.in_range.ensures ∙ c.if-not-in_range.true) (told c.minus.type_inv ∙ c.minus.ensures)

pub slice_copy_out-flag : goal.slice_copy_out-flag
slice_copy_out-flag c =
    let s = c.args in
    let sized = sym c.are_sized.ensures ∙ c.if-not-are_sized.false in
    omega (arith, (sized-parts (length s.numbers.now) (length s.bytes.now) (length s.out.now) sized).state)

pub returns-then-flag : goal.returns-then-flag
returns-then-flag c =
    let s = c.args in
    finished-ended s.numbers.now s.bytes.now (sym c.are_sized.ensures ∙ c.if-not-are_sized.false) (sym c.in_range.ensures ∙ c.if-not-in_range.false)
    (sym (c.flag.ensures ∙ ap flag (told c.flag-arg-1.given)) ∙ c.if-flag.true) (told c.minus-then-flag.type_inv ∙ c.minus-then-flag.ensures)

pub stream_from-requires : goal.stream_from-requires
stream_from-requires c =
    let s = c.args in
    let sized = sym c.are_sized.ensures ∙ c.if-not-are_sized.false in
    let p = sized-parts (length s.numbers.now) (length s.bytes.now) (length s.out.now) sized in
    (p.state, p.line, sym c.in_range.ensures ∙ c.if-not-in_range.false)

pub give-requires : goal.give-requires
give-requires c =
    let s = c.args in
    let sized = sym c.are_sized.ensures ∙ c.if-not-are_sized.false in
    let p = sized-parts (length s.numbers.now) (length s.bytes.now) (length s.out.now) sized in
    let good = sym c.in_range.ensures ∙ c.if-not-in_range.false in
    let answer = c.finish-fed.ensures ∙ ap finish_of c.stream_from.ensures in
    let x = stream_from s.numbers.now s.bytes.now in
    let k = countable s.numbers.now s.bytes.now p.state good in
    (p.state, good, p.line, p.room, rw answer (finished-countable x k), rw answer (finished-short x k))

pub returns : goal.returns
returns c =
    let s = c.args in
    let sized = sym c.are_sized.ensures ∙ c.if-not-are_sized.false in
    let good = sym c.in_range.ensures ∙ c.if-not-in_range.false in
    let answer = c.finish-fed.ensures ∙ ap finish_of c.stream_from.ensures in
    rw (told c.give.type_inv) (ranged finish_of s.numbers.now s.bytes.now sized good answer c.give.ensures)
