-- `kind_of` is right: a record has a first field, and its kind is the kind of that name.
use mathlib.Core.Path.{◌∙◌, ap}
use Rattle.record.specs.Step.{IsField}
use Rattle.layout.specs.Layout.{kind_named}
use Rattle.layout.specs.Numbers.{layout_of}
use Rattle.fault.proofs.Fields.{first_is}
use Rattle.fault.proofs.kind_of.Goals as goal

pub returns-in-Some : goal.returns-in-Some
returns-in-Some c =
    let a = c.args in
    let e = c.of.ensures in
    let stepped : IsField a.sep a.r.now 0 c.in-Some.first.start c.in-Some.first.end c.next.new.self.at = rw (e.0, e.1, e.2) at c.in-Some.ensures.steps.2 in
    let k = c.kind_named.ensures in
    (λ fixed. k.0 fixed ∙ ap (kind_named (layout_of a.t.now fixed)) (c.of-in-Some.ensures ∙ first_is a.sep a.r.now stepped), k.1)
