-- `sheet_stream::finish` meets its contract. The three cases of `finish_of`. Assumes nothing.
use mathlib.Core.Path.{sym, ◌∙◌}
use mathlib.Core.List.{[]}
use native.Mathlib.Omega.{arith}
use Rattle.sheet_stream.specs.Fragments.{no_bytes}
use Rattle.sheet_stream.proofs.Laws.{finish-state, finish-none}
use Rattle.sheet_stream.proofs.Scanning as L
use Rattle.sheet_stream.proofs.finish.Goals as goal

pub returns-then-stream : goal.returns-then-stream
returns-then-stream c = c.refused.ensures ∙ (L.stopped c.args.stream [] c.if-stream.true).1

pub end_open-requires : goal.end_open-requires
end_open-requires c = (omega (arith, c.if-stream-ne0.true), (L.goes_on c.args.stream c.if-stream.false).count)

pub returns-then-stream-ne0 : goal.returns-then-stream-ne0
returns-then-stream-ne0 c = L.finished-by c.args.stream (L.goes_on c.args.stream c.if-stream.false) _ c.if-stream-ne0.true c.end_open.ensures

pub returns-then-not-is_sound : goal.returns-then-not-is_sound
returns-then-not-is_sound c =
    c.refused-then-not-is_sound.ensures ∙ sym (finish-state c.args.stream
    (L.sound-as c.args.stream (L.goes_on c.args.stream c.if-stream.false) _ c.is_sound.ensures ∙ c.if-not-is_sound.true))

pub returns : goal.returns
unfolding no_bytes
returns c =
    sym
    (finish-none c.args.stream (L.sound-as c.args.stream (L.goes_on c.args.stream c.if-stream.false) _ c.is_sound.ensures
    ∙ c.if-not-is_sound.false) c.if-stream-ne0.false)
