-- A step's refusal is one of the whole, and the kinds that may follow are few, so that their names stand in the lent bytes.
use mathlib.Core.List.{[]}
use mathlib.Core.Path.{sym, subst}
use Rattle.pointing.specs.Shown.{Placed}
use Rattle.record.specs.Records.{bar}
use Rattle.flow.specs.Editions.{asked}
use Rattle.flow.proofs.Asking.{asked_proper}
use Rattle.printing.proofs.Follow.{follow_few}
use Rattle.rig.proofs.Points.{stepped_placed}
use Rattle.rig.proofs.asking.step_by.Goals as goal

pub refuse-requires : goal.refuse-requires
refuse-requires g c =
    let a = c.args in
    let r = c.in-Err-Refused in
    subst (Placed bar []) (sym r.r-is) (stepped_placed bar [] a.flow.now a.kinds.now r.r _ _ _ r.field-0-is r.ensures)

pub print_follow-requires : goal.print_follow-requires
print_follow-requires g c =
    let words = c.args.flow.now in
    let told = c.in-Ok.ensures in
    follow_few (asked words) (asked_proper words) _ _ _ _ told
