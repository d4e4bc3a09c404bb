-- A part that is there is given; where there is none, no bytes. Assumes nothing.
use mathlib.Core.Path.{sym, ◌∙◌}
use Rattle.record.proofs.Search.{field_stands, field_absent}
use Rattle.words.proofs.part.Goals as goal

pub of-requires : goal.of-requires
of-requires c =
    let a = c.args in
    let stands = field_stands a.sep a.k a.s.now c.in-Some.ensures in
    (stands.ordered, stands.within)

pub returns-in-Some : goal.returns-in-Some
returns-in-Some c =
    let a = c.args in
    let stands = field_stands a.sep a.k a.s.now c.in-Some.ensures in
    c.of.ensures ∙ stands.is

pub returns-in-None : goal.returns-in-None
returns-in-None c =
    let a = c.args in
    sym (field_absent a.sep a.k a.s.now c.in-None.ensures)
