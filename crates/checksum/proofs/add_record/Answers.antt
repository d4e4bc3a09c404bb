-- `add_record` is right: the running sum with the bytes that are left stays the sum with the whole record.
use mathlib.Core.List.{List}
use mathlib.Core.Path.{◌∙◌, ap}
use native.Mathlib.Omega.{arith}
use Prim.Native.Nat.{ℕ}
use lib.Bits.{bit_xor}
use Rattle.record.specs.Records.{bar}
use Rattle.record.proofs.Turned.{turned_same}
use Rattle.checksum.specs.Checksum.{add_record}
use Rattle.checksum.proofs.Pieces.{add_piece}
use Rattle.checksum.proofs.add_record.Goals as goal

pub loop-piece-preserved : goal.loop-piece-preserved
loop-piece-preserved c =
    let l = c.loop-piece in
    let e = c.in-Some.ensures.cases in
    ap (λ (w : ℕ). add_record (bit_xor l.t w) c.in-Some.left.now) c.join-t.ensures
    ∙ add_piece l.t l.rest.now c.in-Some.piece.now c.in-Some.left.now (omega arith) e.0 e.1 ∙ l.invariant

pub returns : goal.returns
returns c =
    let l = c.loop-piece in
    c.add_tail.ensures ∙ ap (λ (s : List ℕ). add_record l.t s) (turned_same bar l.rest.now) ∙ l.invariant
