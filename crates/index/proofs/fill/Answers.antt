-- `fill` is right: a list of entries is filled as any list.
use Rattle.flow.specs.Editions.{asked}
use Rattle.index.proofs.Stored.{list_right}
use Rattle.index.proofs.fill.Goals as goal

pub returns : goal.returns
returns c =
    let a = c.args in
    list_right (asked a.flow.now) a.f.now a.list.now c.fill_list.new.list c.fill_list.result c.fill_list.ensures
