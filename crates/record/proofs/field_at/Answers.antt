-- `field_at` is right: the fields passed and those left are all fields, and so many are passed.
use Rattle.record.proofs.Search.{field_found_at}
use Rattle.record.proofs.field_at.Goals as goal

pub returns : goal.returns
returns c =
    let a = c.args in
    let e = c.of.ensures in
    field_found_at a.sep a.r.now a.k c.of.result c.nth.new.self c.nth.result c.if-k-eq0.false e.0 e.1 e.2 c.nth.ensures.ran
