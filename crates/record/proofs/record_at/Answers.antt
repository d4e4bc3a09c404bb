-- `record_at` is right: the records passed and those left are all records, and so many are passed.
use Rattle.record.proofs.Search.{record_found}
use Rattle.record.proofs.record_at.Goals as goal

pub returns : goal.returns
returns c =
    let a = c.args in
    record_found a.f.now a.n c.of.result c.nth.new.self c.nth.result c.if-n-eq0.false c.of.ensures.0 c.of.ensures.1 c.nth.ensures.ran
