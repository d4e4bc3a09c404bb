-- Why has_by is right: 2 first, then by whether there is a stop.
use mathlib.Core.Path.{ap, ◌∙◌}
use Rattle.layout.specs.Numbers.{layout_of}
use Rattle.period.specs.Code.{StopsAt}
use Rattle.std.specs.Prelude.{Err}
use Rattle.period.proofs.Reading.{too_long, with_stop, without_stop}
use Rattle.period.proofs.has_by.Goals as goal

pub returns-then-f-gt1048576 : goal.returns-then-f-gt1048576
returns-then-f-gt1048576 c = ap Err c.whole.ensures ∙ too_long _ _ _ c.if-f-gt1048576.true

pub returns-in-Some : goal.returns-in-Some
returns-in-Some c =
    let found : StopsAt c.args.f.now c.args.period c.in-Some.stop.end c.in-Some.stop.is_asked = c.in-Some.ensures in
    with_stop (layout_of c.args.t.now c.args.fixed.now) c.args.f.now c.args.period c.if-f-gt1048576.false c.requires c.in-Some.stop.end c.in-Some.stop.is_asked
    found c.up_to_stop.result c.up_to_stop.ensures

pub returns-in-None : goal.returns-in-None
returns-in-None c =
    without_stop (layout_of c.args.t.now c.args.fixed.now) c.args.f.now c.args.period c.if-f-gt1048576.false
    (c.in-None.ensures) c.to_the_end.result c.to_the_end.ensures
