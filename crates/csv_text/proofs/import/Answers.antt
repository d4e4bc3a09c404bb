-- Why import is right: the text is looked through before a byte is written.
use mathlib.Core.Path.{◌≡◌, sym, ◌∙◌}
use Rattle.std.proofs.lemmas.Result.{err_from_is_err_and}
use borrow.Author.Rules.{rules}
use Rattle.std.specs.Prelude.{Ok}
use Rattle.rfc4180.specs.Walk.{Scanned}
use native.Mathlib.Omega.{arith}
use Rattle.csv_text.specs.Import as imports
use Rattle.csv_text.proofs.Taking.{import_halts, import_long, import_barred, import_no_room, import_made}
use Rattle.csv_text.proofs.import.Goals as goal

pub returns-then-text-gt1048000 : goal.returns-then-text-gt1048000
returns-then-text-gt1048000 c = rw c.whole.ensures (imports.Imported.over c.if-text-gt1048000.true)

pub returns-then-seen-gt1048000 : goal.returns-then-seen-gt1048000
returns-then-seen-gt1048000 c =
    let a = c.args in
    let went : c.scan.result ≡ Ok c.in_ok-seen.seen = search rules in
    let s : Scanned a.text.now (Ok c.in_ok-seen.seen) = rw went at c.scan.ensures in
    import_long a.text.now a.out.now (omega arith) s.0 _ _ s.1 s.2 c.whole-then-seen-gt1048000.ensures c.if-seen-gt1048000.true

pub returns-then-has_byte : goal.returns-then-has_byte
returns-then-has_byte c =
    let a = c.args in
    let went : c.scan.result ≡ Ok c.in_ok-seen.seen = search rules in
    let s : Scanned a.text.now (Ok c.in_ok-seen.seen) = rw went at c.scan.ensures in
    import_barred a.text.now a.out.now (omega arith) s.0 _ _ s.1 s.2 (omega arith) _ c.at.ensures c.first_bar_line.ensures
    (sym c.has_byte.ensures ∙ c.if-has_byte.true)

pub returns-then-out-seen : goal.returns-then-out-seen
returns-then-out-seen c =
    let a = c.args in
    let went : c.scan.result ≡ Ok c.in_ok-seen.seen = search rules in
    let s : Scanned a.text.now (Ok c.in_ok-seen.seen) = rw went at c.scan.ensures in
    import_no_room a.text.now a.out.now (omega arith) s.0 _ _ s.1 s.2 (omega arith) (sym c.has_byte.ensures ∙ c.if-has_byte.false)
    c.whole-then-out-seen.ensures c.if-out-seen.true

pub returns-in_err-seen : goal.returns-in_err-seen
returns-in_err-seen c =
    let a = c.args in
    let p = err_from_is_err_and c.from_residual.result c.from_residual.ensures.1 in
    rw (p.1, p.2)
    (import_halts a.text.now a.out.now (omega arith) (λ h r q. search rules) c.scan.result c.map_err.result c.in_err-seen.field-0.0 c.scan.ensures c.map_err.ensures.cases c.in_err-seen.was)

pub returns : goal.returns
returns c =
    let a = c.args in
    let went : c.scan.result ≡ Ok c.in_ok-seen.seen = search rules in
    let s : Scanned a.text.now (Ok c.in_ok-seen.seen) = rw went at c.scan.ensures in
    let p = c.put_sheet in
    import_made a.text.now a.out.now (omega arith) s.0 _ _ s.1 s.2 (omega arith) (sym c.has_byte.ensures ∙ c.if-has_byte.false)
    p.new.out c.if-out-seen.false p.ensures
