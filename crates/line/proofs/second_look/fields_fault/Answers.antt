-- `line::second_look::fields_fault` meets its contract. Assumes nothing.
use Rattle.std.proofs.Common.{sym, ◌∙◌}
use Rattle.line.specs.Fields.{fields}
use Rattle.line.proofs.SecondLook as L
use Rattle.line.proofs.second_look.fields_fault.Goals as goal

pub returns-in-Some : goal.returns-in-Some
returns-in-Some c =
    let g = c.args in
    c.found.ensures ∙ L.is-letter c.letter_place.ensures g.end c.in-Some.is ∙ L.by_shape g.end (fields g.s.now) c.kind_in-kind.ensures

pub returns-then-not-has_count : goal.returns-then-not-has_count
returns-then-not-has_count c =
    let g = c.args in
    c.found-then-not-has_count.ensures
    ∙ L.is-count c.letter_place.ensures g.end c.in_default.is (sym c.has_count.ensures ∙ c.if-not-has_count.true)
    ∙ L.by_shape g.end (fields g.s.now) c.kind_in-kind.ensures

pub returns-in-Some-id : goal.returns-in-Some-id
returns-in-Some-id c =
    let g = c.args in
    c.found-in-Some-id.ensures
    ∙ L.is-id c.letter_place.ensures g.end c.in_default.is (sym c.has_count.ensures ∙ c.if-not-has_count.false) c.look-seen.ensures c.in-Some-id.is
    ∙ L.by_shape g.end (fields g.s.now) c.kind_in-kind.ensures

pub returns-in-Some-plain : goal.returns-in-Some-plain
returns-in-Some-plain c =
    let g = c.args in
    c.found-in-Some-plain.ensures
    ∙ L.is_plain c.letter_place.ensures g.end c.in_default.is (sym c.has_count.ensures ∙ c.if-not-has_count.false) c.look-seen.ensures c.in_default-id.is c.in-Some-plain.is
    ∙ L.by_shape g.end (fields g.s.now) c.kind_in-kind.ensures

pub returns : goal.returns
returns c =
    let g = c.args in
    L.is_none c.letter_place.ensures g.end c.in_default.is (sym c.has_count.ensures ∙ c.if-not-has_count.false) c.look-seen.ensures c.in_default-id.is c.in_default-plain.is
    ∙ L.by_shape g.end (fields g.s.now) c.kind_in-kind.ensures
