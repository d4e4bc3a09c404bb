-- `add_tail` is right: what is left is nothing, or one piece filled with zero bytes.
use mathlib.Core.Path.{sym, ◌∙◌, ap}
use native.Mathlib.Omega.{arith}
use lib.Bits.{bit_xor}
use Rattle.record.specs.Records.{barred, bar}
use Rattle.record.proofs.Turned.{turned_length}
use Rattle.checksum.proofs.Pieces.{add_few, add_nothing}
use Rattle.checksum.proofs.add_tail.Goals as goal

pub returns-then-is_empty : goal.returns-then-is_empty
returns-then-is_empty c =
    let a = c.args in
    let n = turned_length a.sep bar a.left.now in
    sym (add_nothing a.sum (barred a.sep a.left.now) (grind arith))

pub returns : goal.returns
returns c =
    let a = c.args in
    let n = turned_length a.sep bar a.left.now in
    ap (bit_xor a.sum) c.join.ensures
    ∙ rw (c.filled-c.ensures, c.filled-b.ensures, c.filled-a.ensures) (sym (add_few a.sum (barred a.sep a.left.now) (grind arith) (omega arith)))
