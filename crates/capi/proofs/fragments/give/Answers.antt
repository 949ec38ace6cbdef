-- `capi::fragments::give` meets its contract: the three ways in which a call ends. Assumes nothing.
use mathlib.Core.Path.{◌∙◌, ap}
use Rattle.std.specs.Prelude.{Ok}
use Rattle.rounding.proofs.Machine.{told}
use Rattle.capi.proofs.Streams.{declined, no_line, line-ended}
use Rattle.capi.proofs.fragments.give.Goals as goal

pub returns-in-Err : goal.returns-in-Err
returns-in-Err c =
    let s = c.args in
    declined s.fed.stream s.fed.outcome s.numbers.now s.bytes.now s.out.now _ c.in-Err.is (told c.minus.type_inv ∙ c.minus.ensures)

pub returns-in-None : goal.returns-in-None
returns-in-None c =
    let s = c.args in
    no_line s.fed.stream s.fed.outcome s.numbers.now s.bytes.now s.out.now c.put_numbers.ensures c.copy_from_slice.ensures.after (c.in-Ok.is ∙ ap Ok c.in-None.is)

pub returns-in-Some : goal.returns-in-Some
returns-in-Some c =
    let s = c.args in
    let p = c.requires in
    line-ended s.fed.stream s.fed.outcome s.numbers.now s.bytes.now s.out.now c.put_numbers.ensures c.copy_from_slice.ensures.after _ (c.in-Ok.is ∙ ap Ok c.in-Some.is)
    p.5 p.3 c.write_reply.ensures
