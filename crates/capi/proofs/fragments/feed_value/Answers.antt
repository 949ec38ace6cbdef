-- `capi::fragments::feed_value` meets its contract: what the library answers is told and given. Assumes nothing.
use mathlib.Core.Path.{sym, ◌∙◌, ap}
use Prim.Native.Nat.{◌<◌}
use native.Mathlib.Omega.{arith}
use lib.ListN.{length}
use Rattle.rounding.proofs.Machine.{told}
use Rattle.sheet_stream.specs.declared.Fed.{Fed}
use Rattle.sheet_stream.specs.declared.Stream.{Stream}
use Rattle.sheet_stream.specs.Fragments.{feed_of}
use Rattle.sheet_stream.proofs.Laws.{within, fed-countable, fed-short}
use Rattle.capi.specs.Fragments.{stream_from, flag}
use Rattle.capi.proofs.Streams.{countable, finished-fed}
use Rattle.capi.proofs.fragments.feed_value.Goals as goal

pub returns-then-flag : goal.returns-then-flag
returns-then-flag c =
    let s = c.args in
    rw (told c.minus.type_inv) (finished-fed s.numbers.now s.bytes.now s.fragment.now (sym (c.flag.ensures ∙ ap flag (told c.flag-arg-1.given)) ∙ c.if-flag.true) c.minus.ensures)

pub tell-requires : goal.tell-requires
tell-requires c =
    let s = c.args in
    let answer = c.feed-fed.ensures ∙ ap (λ (x : Stream). feed_of x s.fragment.now) c.stream_from.ensures in
    let short : length s.fragment.now < 9223372036854775808 = omega (arith, c.well_formed.1.1.0.1) in
    (c.requires.4, omega (arith, ap (λ (r : Fed). r.taken) answer, within (stream_from s.numbers.now s.bytes.now) s.fragment.now, short))

pub give-requires : goal.give-requires
give-requires c =
    let n = c.args in
    let r = c.requires in
    let answer = c.feed-fed.ensures ∙ ap (λ (x : Stream). feed_of x n.fragment.now) c.stream_from.ensures in
    let k = countable n.numbers.now n.bytes.now r.0 r.1 in
    let x = stream_from n.numbers.now n.bytes.now in
    (r.0, r.1, r.2, r.3, rw answer (fed-countable x n.fragment.now k), rw answer (fed-short x n.fragment.now k))

pub returns : goal.returns
returns c =
    let s = c.args in
    let answer = c.feed-fed.ensures ∙ ap (λ (x : Stream). feed_of x s.fragment.now) c.stream_from.ensures in
    rw (told c.give.type_inv, ← answer) (record { state = c.give.ensures; tells = c.tell.ensures })
