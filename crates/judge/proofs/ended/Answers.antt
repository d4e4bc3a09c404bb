-- `ended` is right: its tests are those of 14 and 15, in their order.
use mathlib.Core.Path.{sym, ◌∙◌}
use Rattle.layout.specs.Numbers.{layout_of}
use Rattle.judge.specs.File.{ends_in_feed}
use Rattle.judge.proofs.Ends.{end_missing, feed_missing, end_right}
use Rattle.judge.proofs.ended.Goals as goal

pub returns-then-not-is_footer : goal.returns-then-not-is_footer
returns-then-not-is_footer c =
    let a = c.args in
    λ fixed.
    end_missing (layout_of a.t.now fixed) a.st.count a.st.last (ends_in_feed a.f.now) (sym (c.is_footer.ensures fixed) ∙ c.if-not-is_footer.true)

pub returns-then-not-feed_right : goal.returns-then-not-feed_right
returns-then-not-feed_right c =
    let a = c.args in
    λ fixed.
    feed_missing (layout_of a.t.now fixed) a.st.count a.st.last (ends_in_feed a.f.now)
    (sym (c.is_footer.ensures fixed) ∙ c.if-not-is_footer.false) (sym (c.feed_right.ensures fixed) ∙ c.if-not-feed_right.true)

pub returns : goal.returns
returns c =
    let a = c.args in
    λ fixed.
    end_right (layout_of a.t.now fixed) a.st.count a.st.last (ends_in_feed a.f.now)
    (sym (c.is_footer.ensures fixed) ∙ c.if-not-is_footer.false) (sym (c.feed_right.ensures fixed) ∙ c.if-not-feed_right.false)
