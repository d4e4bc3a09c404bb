-- Why judge_records is right: the state is the summary of the records passed and the slots say their keys, so that what is left to judge gives the answer of the whole.
use Prim.Native.Nat.{ℕ, ◌+◌, ◌-◌}
use mathlib.Core.Path.{◌≡◌, ◌∙◌}
use mathlib.Core.List.{List}
use lib.ListN.{drop, take}
use borrow.Author.Rules.{rules}
use Rattle.record.specs.Step.{IsRecord}
use Rattle.layout.specs.Numbers.{layout_of}
use Rattle.layout.proofs.Names.{kind_most}
use Rattle.fault.specs.Code.{key_in_slots, Passed}
use Rattle.judge.proofs.Slots.{put_in}
use Rattle.place.proofs.Lies.{inner}
use Rattle.judge.proofs.Files.{Kept, kept_none, kept_next, kept_stop, kept_done, kind_small}
use Rattle.judge.proofs.judge_records.Goals as goal

pub loop-record-init : goal.loop-record-init
loop-record-init c =
    let bytes : c.into_iter-record-iterator.result.bytes.now ≡ c.args.f.now = search rules in
    let at : c.into_iter-record-iterator.result.at ≡ 0 = search rules in
    (bytes, rw at (kept_none _ _ _))

pub returns : goal.returns
returns c =
    let a = c.args in
    let l = c.loop-record in
    kept_done a.sep (layout_of a.t.now a.fixed.now) a.f.now l.st l.slots l.record-iterator.at l.invariant.1 (rw l.invariant.0 at c.in-None.ensures.steps.1)

pub returns-in-Err : goal.returns-in-Err
returns-in-Err c =
    let a = c.args in
    let l = c.loop-record in
    let stepped : IsRecord a.f.now l.record-iterator.at c.in-Some.record.start c.in-Some.record.end c.next.new.self.at = rw l.invariant.0 at c.in-Some.ensures.steps.1 in
    let found : List ℕ = take (c.in-Some.record.end - c.in-Some.record.start) (drop c.in-Some.record.start a.f.now) in
    kept_stop a.sep (layout_of a.t.now a.fixed.now) a.f.now l.st l.slots l.record-iterator.at l.invariant.1
    found _ stepped.splits c.in-Err.fault (rw c.of.ensures at c.in-Err.ensures)

pub put-requires : goal.put-requires
put-requires c =
    let a = c.args in
    let l = c.loop-record in
    let g = layout_of a.t.now a.fixed.now in
    let s : IsRecord a.f.now l.record-iterator.at c.in-Some.record.start c.in-Some.record.end c.next.new.self.at = rw l.invariant.0 at c.in-Some.ensures.steps.1 in
    let found : List ℕ = take (c.in-Some.record.end - c.in-Some.record.start) (drop c.in-Some.record.start a.f.now) in
    let p = c.in-Ok.passed in
    let passed : Passed a.sep g l.st (key_in_slots g a.f.now l.slots) found p.next p.key.start p.key.end = rw c.of.ensures at c.in-Ok.ensures in
    (kind_small a.sep g a.f.now l.st l.slots l.record-iterator.at l.invariant.1 found _ s.splits s.onward s.next_within p.next p.key.start p.key.end passed (kind_most _ _ _), l.invariant.1.size)

pub loop-record-preserved : goal.loop-record-preserved
loop-record-preserved c =
    let a = c.args in
    let l = c.loop-record in
    let g = layout_of a.t.now a.fixed.now in
    let step = c.in-Some.ensures.steps in
    let s : IsRecord a.f.now l.record-iterator.at c.in-Some.record.start c.in-Some.record.end c.next.new.self.at = rw l.invariant.0 at step.1 in
    let r = c.in-Some.record in
    let found : List ℕ = take (r.end - r.start) (drop r.start a.f.now) in
    let p = c.in-Ok.passed in
    let passed : Passed a.sep g l.st (key_in_slots g a.f.now l.slots) found p.next p.key.start p.key.end = rw c.of.ensures at c.in-Ok.ensures in
    let after : Kept a.sep g a.f.now p.next (put_in l.slots p.next.last p.next.count (r.start + p.key.start) (p.key.end - p.key.start)) c.next.new.self.at =
    kept_next a.sep g a.f.now l.st l.slots l.record-iterator.at l.invariant.1
    found _ s.splits s.onward s.next_within p.next p.key.start p.key.end passed (kind_most _ _ _)
    (r.start + p.key.start) (p.key.end - p.key.start) (inner a.f.now r.start r.end p.key.start p.key.end _ passed.key) in
    (step.0 ∙ l.invariant.0, rw c.put.ensures after)
