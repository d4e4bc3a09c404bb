-- `filled` is right: a byte is turned where it stands, and past the end of the bytes stands the zero byte.
use Prim.Native.Nat.{ℕ, zero, suc, ◌<◌}
use mathlib.Core.List.{List, [], ◌∷◌}
use mathlib.Core.Path.{◌≡◌, refl, sym, ◌∙◌}
use native.Mathlib.Omega.{arith}
use lib.ListN.{length, get_or}
use Rattle.record.specs.Records.{bar, turned_byte, turned}
use Rattle.record.proofs.Turned.{turned_past}
use Rattle.checksum.proofs.filled.Goals as goal

turned_at : (from to : ℕ) (s : List ℕ) (i : ℕ) → i < length s → turned_byte from to (get_or s i 0) ≡ get_or (turned from to s) i 0
unfolding turned
turned_at from to [] i h = absurd (omega arith)
turned_at from to (b ∷ s) zero h = refl
turned_at from to (b ∷ s) (suc i) h = turned_at from to s i (omega arith)

pub returns-then-i-s : goal.returns-then-i-s
returns-then-i-s c =
    let a = c.args in
    c.barred_byte.ensures ∙ turned_at a.sep bar a.s.now a.i c.if-i-s.true

pub returns-else-i-s : goal.returns-else-i-s
returns-else-i-s c =
    let a = c.args in
    sym (turned_past a.sep bar a.s.now a.i c.if-i-s.false)
