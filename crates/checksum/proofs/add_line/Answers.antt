-- `add_line` is right: a bar stays a bar; else the running sum with what is left, turned, stays the sum with all of it.
use Prim.Native.Nat.{ℕ}
use mathlib.Core.Path.{◌≡◌, sym, ◌∙◌, ap}
use native.Mathlib.Omega.{arith}
use lib.ListN.{get_or}
use lib.Bits.{bit_xor}
use Rattle.record.specs.Records.{turned_byte, barred, bar}
use Rattle.checksum.specs.Checksum.{word, add_record}
use Rattle.record.proofs.Turned.{turned_same}
use Rattle.checksum.proofs.Pieces.{add_barred}
use Rattle.checksum.proofs.add_line.Goals as goal

pub returns-then-sep-eq-BAR : goal.returns-then-sep-eq-BAR
returns-then-sep-eq-BAR c =
    let a = c.args in
    let part = a.part.now in
    c.add_record.ensures
    ∙ ap (add_record a.sum) (sym (turned_same bar part) ∙ ap (λ (b : ℕ). barred b part) (sym c.if-sep-eq-BAR.true))

pub loop-piece-preserved : goal.loop-piece-preserved
loop-piece-preserved c =
    let l = c.loop-piece in
    let a = c.args in
    let e = c.in-Some.ensures.cases in
    let turned_piece : c.join-t.result ≡ word (turned_byte a.sep bar (get_or c.in-Some.piece.now 0 0)) (turned_byte a.sep bar (get_or c.in-Some.piece.now 1 0)) (turned_byte a.sep bar (get_or c.in-Some.piece.now 2 0)) (turned_byte a.sep bar (get_or c.in-Some.piece.now 3 0)) =
    c.join-t.ensures
    ∙ (λ i. word (c.barred_byte.ensures i) (c.barred_byte-in-Some.ensures i) (c.barred_byte-in-Some-2.ensures i) (c.barred_byte-in-Some-3.ensures i)) in
    ap (λ (w : ℕ). add_record (bit_xor l.t w) (barred a.sep c.in-Some.left.now)) turned_piece
    ∙ add_barred l.t a.sep l.rest.now c.in-Some.piece.now c.in-Some.left.now (omega arith) e.0 e.1 ∙ l.invariant
