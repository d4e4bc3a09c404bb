-- What is read before an index and the bytes from it on give the answer of the whole. Assumes nothing.
use mathlib.Core.Path.{sym, ◌∙◌}
use borrow.Author.Tests.{leb-true, eqb-true, eqb-false}
use Rattle.words.proofs.Digits.{no_digits, too_many, no_digit, too_large, one_more_lem, all_read}
use Rattle.words.proofs.read_number.Goals as goal

pub returns-then-is_empty : goal.returns-then-is_empty
returns-then-is_empty c =
    let a = c.args in
    no_digits a.most a.limit a.s.now (eqb-true _ _ (sym c.is_empty.ensures ∙ c.if-is_empty.true))

pub returns-then-most-s : goal.returns-then-most-s
returns-then-most-s c =
    let a = c.args in
    too_many a.most a.limit a.s.now (eqb-false _ _ (sym c.is_empty.ensures ∙ c.if-is_empty.false)) c.if-most-s.true

pub returns-in_err-d : goal.returns-in_err-d
returns-in_err-d c =
    let a = c.args in
    let l = c.loop-b in
    rw c.from_residual.ensures (no_digit a.most a.limit a.s.now l.b-index l.n l.invariant c.loop-b-test.true c.in_err-d.ensures)

pub returns-then-not-in_limit : goal.returns-then-not-in_limit
returns-then-not-in_limit c =
    let a = c.args in
    let l = c.loop-b in
    too_large a.most a.limit a.s.now l.b-index l.n l.invariant c.loop-b-test.true
    (rw c.in_ok-d.ensures.1 at (sym c.in_limit.ensures ∙ c.if-not-in_limit.true))

pub loop-b-preserved : goal.loop-b-preserved
loop-b-preserved c =
    let a = c.args in
    let l = c.loop-b in
    rw c.in_ok-d.ensures.1
    (one_more_lem a.most a.limit a.s.now l.b-index l.n l.invariant c.loop-b-test.true
    c.in_ok-d.ensures.0
    (leb-true _ _ (rw c.in_ok-d.ensures.1 at (sym c.in_limit.ensures ∙ c.if-not-in_limit.false))))

pub returns : goal.returns
returns c =
    let a = c.args in
    let l = c.loop-b in
    all_read a.most a.limit a.s.now l.b-index l.n l.invariant c.loop-b-test.false
