-- Why rows_in is right: what is told of the records read is right at each step, and at the end all are read.
use mathlib.Core.Path.{◌≡◌, sym, ◌∙◌}
use borrow.Author.Rules.{rules}
use Rattle.record.specs.Step.{IsRecord}
use Rattle.flow.specs.Flows.{flow_at}
use Rattle.resubmission.specs.Code.{pair_of}
use Rattle.resubmission.proofs.Reading.{from_start, one_read, row_more, other_group, other_subject}
use Rattle.resubmission.proofs.rows_in.Goals as goal
use Rattle.resubmission.proofs.rows_in.Goals.{then-under+then-is_of_group, else-under, else-under-via-then-under+else-is_of_group, else-under-via-else-under}

pub loop-record-init : goal.loop-record-init
loop-record-init c =
    let bytes : c.into_iter-record-iterator.result.bytes.now ≡ c.args.f.now = search rules in
    let at : c.into_iter-record-iterator.result.at ≡ 0 = search rules in
    (bytes, rw at (from_start _ _ _ _))

pub loop-record-preserved : goal.loop-record-preserved
loop-record-preserved c =
    let a = c.args in
    let l = c.loop-record in
    let step = c.in-Some.ensures.steps in
    let stepped : IsRecord a.f.now l.record-iterator.at c.in-Some.record.start c.in-Some.record.end c.next.new.self.at = rw l.invariant.0 at step.1 in (
      step.0 ∙ l.invariant.0,
      one_read (flow_at a.m) (pair_of a.asks.now) a.f.now a.n l.record-iterator.at l.under l.rows l.invariant.1
          stepped c.if-under.rows
          (elim c.if-under.branch [
            | then-under+then-is_of_group w ↦ w.rows-is ∙ w.one_more-rows.ensures ∙ row_more _ _ _ _ w.if-under.true (rw c.of-r.ensures at (sym w.is_of_group.ensures ∙ w.if-is_of_group.true))
            | else-under w ↦ elim w.else-under.branch [
              | else-under-via-then-under+else-is_of_group w' ↦ w.rows-is ∙ other_group _ _ _ _ w'.if-under.true (rw c.of-r.ensures at (sym w'.is_of_group.ensures ∙ w'.if-is_of_group.false))
              | else-under-via-else-under w' ↦ w.rows-is ∙ other_subject _ _ _ _ w'.if-under.false
            ]
          ])
          c.under_subject-under.result (rw c.of-r.ensures at c.under_subject-under.ensures),
    )
