-- Why record_in_force is right: the answer's places lie in the file that holds the record, and the part is cut there.
use mathlib.Core.Path.{sym, ◌∙◌}
use Rattle.flow.specs.Editions.{asked}
use Rattle.resubmission.specs.Rows.{pair}
use Rattle.resubmission.specs.InForce.{words_in, in_force, bytes_by, lies_by}
use Rattle.resubmission.proofs.Answers.{one_answer}
use Rattle.resubmission.proofs.Both.{part_within, handed_back, handed_part}
use Rattle.resubmission.proofs.record_in_force.Goals as goal

pub part_of-requires : goal.part_of-requires
unfolding in_force
part_of-requires c =
    let a = c.args in
    part_within (asked (words_in a.edition.now)) a.original.now a.resubmission.now (pair a.id.now a.date.now a.group.now) a.n (sym (one_answer _ _ c.in_force.ensures) ∙ c.in-Ok.is)

pub returns-in-Err : goal.returns-in-Err
unfolding bytes_by lies_by in_force
returns-in-Err c =
    let a = c.args in
    handed_back a.original.now a.resubmission.now a.original.ref_ptr a.resubmission.ref_ptr _ _ (sym c.in-Err.is ∙ one_answer _ _ c.in_force.ensures)

pub returns-in-Ok : goal.returns-in-Ok
unfolding bytes_by lies_by in_force
returns-in-Ok c =
    let a = c.args in
    handed_part a.original.now a.resubmission.now a.original.ref_ptr a.resubmission.ref_ptr _ _ (sym c.in-Ok.is ∙ one_answer _ _ c.in_force.ensures) c.part_of.ensures
