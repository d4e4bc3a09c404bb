-- `heads_of` is right: each kind is as the table says.
use Rattle.std.proofs.Common.{rules, false}
use Rattle.index.specs.Code.{kinds_in}
use Rattle.index.specs.Entries.{may_head}
use Rattle.index.proofs.Stating.{each_is}
use Rattle.index.proofs.heads_of.Goals as goal

pub returns : goal.returns
returns c =
    let made = c.from_fn.ensures.items in
    each_is (may_head (kinds_in c.args.t.now)) c.from_fn.result 33 made.long (λ k h. let called = (made.at k false h).2 in search rules)
