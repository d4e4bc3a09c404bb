-- Each entry is the class of its byte value: one test that is computed over the whole table. Assumes nothing.
use mathlib.Core.Bool.{Bool}
use Prim.Native.Nat.{ℕ}
use mathlib.Core.List.{List}
use native.Mathlib.Omega.{arith}
use lib.Dec.{eqb, eqb→eq}
use lib.ListN.{get_or}
use borrow.Fn.Function.{res_v}
use Rattle.text.specs.Characters.{class_of, is_text, is_digit}
use Rattle.text.proofs.Places.{each_at}
use Rattle.text.proofs.class_table.Lts as lts
use Rattle.text.proofs.class_table.Reads as reads
use Rattle.text.proofs.class_table.Goals as goal

right : ℕ → ℕ → Bool
right k x = eqb x (class_of k)

pub returns : goal.returns
unfolding right class_of is_text is_digit
returns c b h =
    let table : List ℕ = res_v lts.r (tt {0}) (lts.m2 reads.Pre reads.Post c.args).0 in
    eqb→eq (get_or table b 0) (class_of b) (each_at right 0 0 table (tt {0}) b b h (omega arith))
