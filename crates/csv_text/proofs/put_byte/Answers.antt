-- Why put_byte is right: a quotation mark is taken twice, any other byte once.
use mathlib.Core.List.{[], ◌∷◌}
use lib.ListN.{length}
use Rattle.csv_text.specs.Export.{doubled}
use Rattle.csv_text.proofs.Doubling.{doubled_some, doubled_quote, doubled_other}
use Rattle.csv_text.proofs.Taken.{left_all, left_as, left_next, left_byte, left_none}
use Rattle.csv_text.proofs.put_byte.Goals as goal

pub put-requires : goal.put-requires
put-requires g c = g.met.S.Sink.laws.fewer c.args.sink.now 1 (length (doubled (c.args.b ∷ []))) (doubled_some c.args.b) c.requires

pub put-requires-then-b-eq-QUOTE : goal.put-requires-then-b-eq-QUOTE
put-requires-then-b-eq-QUOTE g c =
    let laws = g.met.S.Sink.laws in
    let l = left_as (left_all c.args.sink.now _ c.requires) (doubled_quote c.args.b c.if-b-eq-QUOTE.true) in
    left_byte laws (left_next laws l c.put.ensures)

pub returns-then-b-eq-QUOTE : goal.returns-then-b-eq-QUOTE
returns-then-b-eq-QUOTE g c =
    let laws = g.met.S.Sink.laws in
    let l = left_as (left_all c.args.sink.now _ c.requires) (doubled_quote c.args.b c.if-b-eq-QUOTE.true) in
    left_none laws (left_next laws (left_next laws l c.put.ensures) c.put-then-b-eq-QUOTE.ensures)

pub returns-else-b-eq-QUOTE : goal.returns-else-b-eq-QUOTE
returns-else-b-eq-QUOTE g c =
    let laws = g.met.S.Sink.laws in
    left_none laws (left_next laws (left_as (left_all c.args.sink.now _ c.requires) (doubled_other c.args.b c.if-b-eq-QUOTE.false)) c.put.ensures)
