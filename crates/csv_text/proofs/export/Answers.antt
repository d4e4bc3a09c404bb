-- Why export is right: what stands before the last record is counted, and put where there is room.
use mathlib.Core.Path.{ap, ◌∙◌}
use lib.ListN.{length}
use Rattle.std.proofs.lemmas.Result.{err_from_is_err_and}
use Rattle.sheet.specs.Code.{put}
use Rattle.flow.specs.Editions.{asked}
use Rattle.csv_text.proofs.Handing.{front_text, front_short, export_refused, export_no_room, export_done, accepted_short}
use Rattle.csv_text.proofs.export.Goals as goal

pub text_size-bytes-requires : goal.text_size-bytes-requires
text_size-bytes-requires c =
    let a = c.args in
    let s = c.last_start-end in
    let accepts = c.in_ok-records.ensures in
    front_short a.file.now s.result s.ensures.0 s.ensures.1 (accepted_short (asked a.flow.now) a.file.now c.in_ok-records.records accepts)

pub returns-then-out-bytes : goal.returns-then-out-bytes
returns-then-out-bytes c =
    let a = c.args in
    let s = c.last_start-end in
    let t = c.text_size-bytes in
    export_no_room (asked a.flow.now) a.file.now a.out.now c.in_ok-records.records t.result (c.in_ok-records.ensures)
    (t.ensures ∙ ap length (front_text a.file.now s.result s.ensures.0 s.ensures.1)) c.whole.ensures c.if-out-bytes.true

pub returns-in_err-records : goal.returns-in_err-records
returns-in_err-records c =
    let a = c.args in
    let p = err_from_is_err_and c.from_residual.result c.from_residual.ensures.1 in
    rw (p.1, p.2) (export_refused (asked a.flow.now) a.file.now a.out.now _ c.in_err-records.ensures)

pub returns : goal.returns
returns c =
    let a = c.args in
    let s = c.last_start-end in
    let t = c.text_size-bytes in
    let p = c.put_text in
    let is = front_text a.file.now s.result s.ensures.0 s.ensures.1 in
    export_done (asked a.flow.now) a.file.now a.out.now c.in_ok-records.records t.result (c.in_ok-records.ensures)
    (t.ensures ∙ ap length is) p.new.out c.if-out-bytes.false (p.ensures ∙ ap (put a.out.now 0) is)
