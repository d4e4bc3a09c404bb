-- Why put_turned is right: the bytes from i on are left to put, turned.
use mathlib.Core.List.{◌∷◌}
use lib.ListN.{drop}
use Prim.Native.Nat.{◌+◌}
use native.Mathlib.Omega.{arith}
use Rattle.record.specs.Records.{turned}
use Rattle.record.proofs.Turned.{turned_length}
use Rattle.sheet.proofs.Puts.{Goes, goes_start, goes_as, goes_at, goes_byte, goes_done}
use Rattle.sheet.proofs.Turning.{turned_next, turned_end}
use Rattle.sheet.proofs.put_turned.Goals as goal

pub loop-i-init : goal.loop-i-init
loop-i-init c =
    let a = c.args in
    let s = a.s.now in
    let start = goes_start a.out.now a.at (turned a.from a.to s) (omega (arith, turned_length a.from a.to s)) in
    goes_at start (omega arith)

pub loop-i-preserved : goal.loop-i-preserved
loop-i-preserved c =
    let next : let a = c.args in let l = c.loop-i in Goes a.out.now a.at (turned a.from a.to a.s.now) l.out (a.at + l.i) (c.turn.result ∷ turned a.from a.to (drop (l.i + 1) a.s.now)) = let a = c.args in
    let l = c.loop-i in
    let is = turned_next a.from a.to a.s.now l.i (omega arith) in
    let here = goes_as l.invariant is in
    rw c.turn.ensures here in
    goes_at (goes_byte _ _ next) (omega arith)

pub returns : goal.returns
returns c =
    let a = c.args in
    let l = c.loop-i in
    (goes_done (goes_as l.invariant (turned_end a.from a.to a.s.now l.i (omega arith)))).0
