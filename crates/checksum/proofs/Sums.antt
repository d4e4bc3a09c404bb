-- Laws of running checksums.
use Prim.Native.Nat.{ℕ, suc, ◌<◌, ◌^◌}
use mathlib.Core.Path.{◌≡◌, sym, ap, ◌∙◌}
use mathlib.Core.List.{List, [], ◌∷◌, ◌++◌, foldl, foldl-append}
use mathlib.Core.Bool.{false}
use native.Mathlib.Omega.{arith}
use lib.ListN.{get_or}
use lib.Bits.{bit_xor, xor_zero_r, xor_lt}
use Rattle.record.specs.Records.{records, joined, some_holds, Bytes}
use Rattle.checksum.specs.Checksum.{word, words, add_record, checksum, checksum_of}
use Rattle.record.proofs.Xor.{xor_assoc, xor_from}
use Rattle.record.proofs.Cutting.{records_bytes, records_joined}

-- one record taken from the front of those that are left
pub sum_next : (sum : ℕ) {sum' : ℕ} {p : List ℕ} {rest rs : List (List ℕ)} → sum' ≡ add_record sum p → rs ≡ p ∷ rest
    → foldl add_record sum' rest ≡ foldl add_record sum rs
sum_next sum {sum'} {p} {rest} e q = ap (λ (k : ℕ). foldl add_record k rest) e ∙ ap (foldl add_record sum) (sym q)

-- from any start, a running checksum is the start exclusive-or the checksum from 0
pub add_from : (s : ℕ) (r : List ℕ) → add_record s r ≡ bit_xor s (add_record 0 r)
unfolding add_record
add_from s r = xor_from s (words r)

pub sum_from : (s : ℕ) (rs : List (List ℕ)) → foldl add_record s rs ≡ bit_xor s (checksum rs)
unfolding checksum
sum_from s [] = sym (xor_zero_r s)
sum_from s (r ∷ rs) =
    sum_from (add_record s r) rs
    ∙ ap (λ (k : ℕ). bit_xor k (checksum rs)) (add_from s r)
    ∙ xor_assoc s (add_record 0 r) (checksum rs)
    ∙ ap (bit_xor s) (sym (sum_from (add_record 0 r) rs))

-- with one record more at the end
pub checksum_snoc : (rs : List (List ℕ)) (r : List ℕ) → checksum (rs ++ r ∷ []) ≡ add_record (checksum rs) r
unfolding checksum
checksum_snoc rs r = foldl-append add_record 0 rs (r ∷ [])

-- of records after records: run on, or the two checksums joined
pub checksum_on : (a b : List (List ℕ)) → checksum (a ++ b) ≡ foldl add_record (checksum a) b
unfolding checksum
checksum_on a b = foldl-append add_record 0 a b

-- of bytes, a checksum is below 2 ^ 32
pub add_lt : (r : List ℕ) (s : ℕ) → Bytes r → s < 2 ^ 32 → add_record s r < 2 ^ 32
unfolding add_record words
add_lt [] s h k = k
add_lt (a ∷ []) s h k = xor_lt 32 s (word a 0 0 0) k (omega (arith, h 0))
add_lt (a ∷ b ∷ []) s h k = xor_lt 32 s (word a b 0 0) k (omega (arith, h 0, h 1))
add_lt (a ∷ b ∷ c ∷ []) s h k = xor_lt 32 s (word a b c 0) k (omega (arith, h 0, h 1, h 2))
add_lt (a ∷ b ∷ c ∷ d ∷ r) s h k =
    add_lt r (bit_xor s (word a b c d)) (λ i. h (suc (suc (suc (suc i))))) (xor_lt 32 s (word a b c d) k (omega (arith, h 0, h 1, h 2, h 3)))

pub sum_lt : (rs : List (List ℕ)) (s : ℕ) → ((k : ℕ) → Bytes (get_or rs k [])) → s < 2 ^ 32 → foldl add_record s rs < 2 ^ 32
sum_lt [] s h k = k
sum_lt (r ∷ rs) s h k = sum_lt rs (add_record s r) (λ i. h (suc i)) (add_lt r s (h 0) k)

pub checksum_lt : (rs : List (List ℕ)) → ((k : ℕ) → Bytes (get_or rs k [])) → checksum rs < 2 ^ 32
unfolding checksum
checksum_lt rs h = sum_lt rs 0 h (omega arith)

pub checksum_of_lt : (s : List ℕ) → Bytes s → checksum_of s < 2 ^ 32
unfolding checksum_of
checksum_of_lt s h = checksum_lt (records s) (records_bytes s h)

pub checksum_of_joined : (rs : List (List ℕ)) → some_holds 0x0A rs ≡ false → checksum_of (joined rs) ≡ checksum rs
unfolding checksum_of
checksum_of_joined rs h = ap checksum (records_joined rs h)
