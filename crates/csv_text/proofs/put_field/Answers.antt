-- Why put_field is right: the bytes, or between two quotation marks the bytes with theirs doubled.
use mathlib.Core.List.{[], ◌∷◌}
use mathlib.Core.Path.{sym, ◌∙◌}
use Rattle.record.proofs.Turned.{turned_same}
use Rattle.rfc4180.specs.Rfc.{quote}
use Rattle.csv_text.specs.Export.{doubled}
use Rattle.csv_text.proofs.Doubling.{field_plain, field_quoted}
use Rattle.csv_text.proofs.Taken.{left_all, left_as, left_part, left_room, left_byte, left_next, left_none}
use Rattle.csv_text.proofs.put_field.Goals as goal

pub put_turned-requires : goal.put_turned-requires
put_turned-requires g c =
    let plain = field_plain c.args.x.now (sym c.quoted.ensures ∙ c.if-not-quoted.true) in
    rw plain at c.requires

pub returns-then-not-quoted : goal.returns-then-not-quoted
returns-then-not-quoted g c =
    let x = c.args.x.now in
    let plain = field_plain x (sym c.quoted.ensures ∙ c.if-not-quoted.true) in
    rw (turned_same quote x ∙ sym plain) at c.put_turned.ensures

pub put-requires : goal.put-requires
put-requires g c =
    let is = field_quoted c.args.x.now (sym c.quoted.ensures ∙ c.if-not-quoted.false) in
    left_byte g.met.S.Sink.laws (left_as (left_all c.args.sink.now _ c.requires) is)

pub put_doubled-requires : goal.put_doubled-requires
put_doubled-requires g c =
    let laws = g.met.S.Sink.laws in
    let x = c.args.x.now in
    let is = field_quoted x (sym c.quoted.ensures ∙ c.if-not-quoted.false) in
    left_room laws (doubled x) (quote ∷ []) (left_next laws (left_as (left_all c.args.sink.now _ c.requires) is) c.put.ensures)

pub put-requires-2 : goal.put-requires-2
put-requires-2 g c =
    let laws = g.met.S.Sink.laws in
    let x = c.args.x.now in
    let is = field_quoted x (sym c.quoted.ensures ∙ c.if-not-quoted.false) in
    left_byte laws (left_part laws (doubled x) (quote ∷ []) (left_next laws (left_as (left_all c.args.sink.now _ c.requires) is) c.put.ensures) c.put_doubled.ensures)

pub returns : goal.returns
returns g c =
    let laws = g.met.S.Sink.laws in
    let x = c.args.x.now in
    let is = field_quoted x (sym c.quoted.ensures ∙ c.if-not-quoted.false) in
    left_none laws (left_next laws (left_part laws (doubled x) (quote ∷ []) (left_next laws (left_as (left_all c.args.sink.now _ c.requires) is) c.put.ensures) c.put_doubled.ensures) c.put-2.ensures)
