-- The bytes passed were digits where marks is small, and the number so far then goes on to the whole number. Assumes nothing.
use Prim.Native.Nat.{◌+◌, ◌*◌, ◌^◌, ◌≤◌, ◌<◌}
use native.Mathlib.Nat.{mod-lt}
use native.Mathlib.Omega.{arith}
use lib.Dec.{lit<}
use Rattle.number.proofs.OnePass.{room_here, pass_next}
use Rattle.number.proofs.read_digits.Goals as goal

pub overflow_mul-n : goal.overflow_mul-n
overflow_mul-n c =
    let room : (c.loop-byte.n + 2) * 10 ≤ 2 * 10 ^ 18 = let l = c.loop-byte in
    room_here _ _ l.n l.marks l.byte-index l.invariant c.loop-byte-test.true in
    omega (arith, room)

pub overflow_add-n : goal.overflow_add-n
overflow_add-n c =
    let room : (c.loop-byte.n + 2) * 10 ≤ 2 * 10 ^ 18 = let l = c.loop-byte in
    room_here _ _ l.n l.marks l.byte-index l.invariant c.loop-byte-test.true in
    omega (arith, room, mod-lt c.from-b.result {m = 16} (lit< tt))

pub loop-byte-preserved : goal.loop-byte-preserved
loop-byte-preserved c =
    let byte : c.from-b.result < 256 = omega (arith, c.from-b.ensures, c.type_inv.d c.loop-byte.byte-index) in
    let l = c.loop-byte in
    pass_next _ _ l.n l.marks l.byte-index l.invariant c.from-b.result c.from-b.ensures byte c.loop-byte-test.true
