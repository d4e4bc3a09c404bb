-- `may_head` is right: the rows are asked one after the other.
use Rattle.std.proofs.Common.{ℕ, [], nat_eq, sym, ◌∙◌, refl, arith, rules, tests}
use Rattle.std.proofs.lemmas.Iterator.{YieldsList-from_range}
use Rattle.std.proofs.lemmas.Iterator.Search.{any_from_yields_List}
use Rattle.index.specs.Code.{kinds_in}
use Rattle.layout.specs.Layout.{row}
use Rattle.layout.specs.Numbers.{layout_of}
use Rattle.index.proofs.Tables.{none_within_nothing, some_within, head_read, heads_length}
use Rattle.index.proofs.may_head.Goals as goal

pub returns-then-k-ne0 : goal.returns-then-k-ne0
returns-then-k-ne0 c =
    let t = c.args.t.now in
    let k = c.args.k in
    let n = c.row_count.result in
    let head : ℕ → ℕ = λ j. (row (layout_of t []) j).head in
    any_from_yields_List (λ j. nat_eq (head j) k) _ _ c.any.result c.any.ensures.ran (YieldsList-from_range 0 n n refl (omega arith)) (λ x b q called. search (rules, tests))
    ∙ some_within (kinds_in t) k head (head_read t) (omega (arith, c.if-k-ne0.true)) n (c.row_count.ensures ∙ sym (heads_length t))

pub returns-else-k-ne0 : goal.returns-else-k-ne0
returns-else-k-ne0 c = rw c.if-k-ne0.false (none_within_nothing (kinds_in c.args.t.now) 0 refl)
