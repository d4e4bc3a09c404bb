-- Why write_by is right: it writes only where judge_sheet takes the sheet and there is room: the turned sheet, and the footer behind it.
use Prim.Native.Nat.{ℕ, ◌+◌}
use mathlib.Core.Path.{◌≡◌, ◌∙◌, ap, sym}
use mathlib.Core.List.{◌++◌}
use native.Mathlib.Omega.{arith}
use lib.ListN.{length, drop}
use Rattle.layout.specs.Numbers.{layout_of}
use Rattle.sheet.specs.Sheets.{made}
use borrow.Author.Rules.{rules}
use Rattle.std.specs.Prelude.{Ok}
use Rattle.sheet.specs.Code.{Taken}
use Rattle.sheet.proofs.Handing.{wrote_no_room, wrote_done, made_size, made_put}
use Rattle.sheet.proofs.write_by.Goals as goal

pub returns-then-out-bytes : goal.returns-then-out-bytes
returns-then-out-bytes c =
    let a = c.args in
    let taken : c.judge_sheet-judged.result ≡ Ok c.in_ok-made.made = search rules in
    let t : Taken (layout_of a.t.now a.fixed.now) a.sheet.now c.in_ok-made.made.records c.in_ok-made.made.sum = rw taken at c.judge_sheet-judged.ensures in
    wrote_no_room (layout_of a.t.now a.fixed.now) a.sheet.now a.out.now c.in_ok-made.made.records c.in_ok-made.made.sum _ t
    (ap (λ (k : ℕ). length a.sheet.now + k) c.footer_length.ensures.0 ∙ made_size a.sheet.now a.out.now c.in_ok-made.made.records c.in_ok-made.made.sum t.totals)
    c.whole.ensures c.if-out-bytes.true

pub returns : goal.returns
returns c =
    let a = c.args in
    let taken : c.judge_sheet-judged.result ≡ Ok c.in_ok-made.made = search rules in
    let t : Taken (layout_of a.t.now a.fixed.now) a.sheet.now c.in_ok-made.made.records c.in_ok-made.made.sum = rw taken at c.judge_sheet-judged.ensures in
    let size =
    ap (λ (k : ℕ). length a.sheet.now + k) c.footer_length.ensures.0 ∙ made_size a.sheet.now a.out.now c.in_ok-made.made.records c.in_ok-made.made.sum t.totals in
    wrote_done (layout_of a.t.now a.fixed.now) a.sheet.now a.out.now c.in_ok-made.made.records c.in_ok-made.made.sum _ t size c.put_footer.new.out c.if-out-bytes.false
    (made_put a.sheet.now a.out.now c.in_ok-made.made.records c.in_ok-made.made.sum t.totals c.put_turned.new.out c.put_footer.new.out (omega arith)
    c.put_turned.ensures c.put_footer.ensures ∙ ap (λ (k : ℕ). made a.sheet.now ++ drop k a.out.now) (sym size))
