-- `step_line` is safe: the kinds that may follow are few, so that their names stand in the lent bytes.
use Rattle.flow.specs.Editions.{asked}
use Rattle.flow.proofs.Asking.{asked_proper}
use Rattle.printing.proofs.Follow.{follow_few}
use Rattle.nightly.proofs.answer.step_line.Goals as goal

pub print_follow-requires : goal.print_follow-requires
print_follow-requires g c =
    let words = c.args.flow.now in
    let told = c.in-Ok.ensures in
    follow_few (asked words) (asked_proper words) _ _ _ _ told
