-- One changed byte changes the checksum.
use Prim.Native.Nat.{ℕ}
use mathlib.Core.Path.{◌≡◌, refl, sym, ap, ◌∙◌}
use mathlib.Core.List.{List, [], ◌∷◌, ◌++◌, foldl, foldl-append}
use mathlib.Core.Bool.{Bool, true, false}
use native.Mathlib.Omega.{arith}
use lib.Dec.{eqb}
use lib.Bits.{bit_xor, xor_comm}
use borrow.Author.Tests.{ne_eqb}
use Rattle.record.specs.Records.{onto, records}
use Rattle.checksum.specs.Checksum.{word, words, add_record, checksum, checksum_of}
use Rattle.record.proofs.Xor.{xor_cancel, xor_tells}
use Rattle.checksum.proofs.Sums.{add_from, sum_from}

-- two lists of words that differ in one word at most, and are the same only where a is b
record OneWord (a b : ℕ) (x y : List ℕ) : Type 0 where
  before : List ℕ
  after : List ℕ
  v : ℕ
  w : ℕ
  first : x ≡ before ++ v ∷ after
  second : y ≡ before ++ w ∷ after
  tells : v ≡ w → a ≡ b

one_word : (a b : ℕ) (p q : List ℕ) → OneWord a b (words (p ++ a ∷ q)) (words (p ++ b ∷ q))
unfolding words
one_word a b [] [] =
    record { before = []; after = []; v = word a 0 0 0; w = word b 0 0 0; first = refl; second = refl; tells = λ e. omega arith }
one_word a b [] (x ∷ []) =
    record { before = []; after = []; v = word a x 0 0; w = word b x 0 0; first = refl; second = refl; tells = λ e. omega arith }
one_word a b [] (x ∷ y ∷ []) =
    record { before = []; after = []; v = word a x y 0; w = word b x y 0; first = refl; second = refl; tells = λ e. omega arith }
one_word a b [] (x ∷ y ∷ z ∷ q) =
    record { before = []; after = words q; v = word a x y z; w = word b x y z; first = refl; second = refl; tells = λ e. omega arith }
one_word a b (x ∷ []) [] =
    record { before = []; after = []; v = word x a 0 0; w = word x b 0 0; first = refl; second = refl; tells = λ e. omega arith }
one_word a b (x ∷ []) (y ∷ []) =
    record { before = []; after = []; v = word x a y 0; w = word x b y 0; first = refl; second = refl; tells = λ e. omega arith }
one_word a b (x ∷ []) (y ∷ z ∷ q) =
    record { before = []; after = words q; v = word x a y z; w = word x b y z; first = refl; second = refl; tells = λ e. omega arith }
one_word a b (x ∷ y ∷ []) [] =
    record { before = []; after = []; v = word x y a 0; w = word x y b 0; first = refl; second = refl; tells = λ e. omega arith }
one_word a b (x ∷ y ∷ []) (z ∷ q) =
    record { before = []; after = words q; v = word x y a z; w = word x y b z; first = refl; second = refl; tells = λ e. omega arith }
one_word a b (x ∷ y ∷ z ∷ []) q =
    record { before = []; after = words q; v = word x y z a; w = word x y z b; first = refl; second = refl; tells = λ e. omega arith }
one_word a b (x ∷ y ∷ z ∷ u ∷ p) q =
    let o = one_word a b p q in
    record {
      before = word x y z u ∷ o.before;
      after = o.after;
      v = o.v;
      w = o.w;
      first = ap (λ (l : List ℕ). word x y z u ∷ l) o.first;
      second = ap (λ (l : List ℕ). word x y z u ∷ l) o.second;
      tells = o.tells;
    }

-- two records of one length that differ in one byte have different sums
pub byte_tells : (t : ℕ) (p q : List ℕ) (a b : ℕ) → add_record t (p ++ a ∷ q) ≡ add_record t (p ++ b ∷ q) → a ≡ b
unfolding add_record
byte_tells t p q a b e =
    let o = one_word a b p q in
    o.tells (xor_tells t o.before o.after o.v o.w
    (sym (ap (foldl bit_xor t) o.first) ∙ e ∙ ap (foldl bit_xor t) o.second))

-- two lists of records that differ in one record have different checksums, if that record's sums differ
pub record_tells : (t : ℕ) (rs ts : List (List ℕ)) (p q : List ℕ) → foldl add_record t (rs ++ p ∷ ts) ≡ foldl add_record t (rs ++ q ∷ ts) → add_record 0 p ≡ add_record 0 q
record_tells t rs ts p q e =
    let R = foldl add_record t rs in
    let T = checksum ts in
    let split : (x : List ℕ) → foldl add_record t (rs ++ x ∷ ts) ≡ bit_xor T (bit_xor R (add_record 0 x)) =
    (λ x. foldl-append add_record t rs (x ∷ ts) ∙ sum_from (add_record R x) ts ∙ xor_comm (add_record R x) T ∙ ap (bit_xor T) (add_from R x)) in
    xor_cancel R (add_record 0 p) (add_record 0 q)
    (xor_cancel T (bit_xor R (add_record 0 p)) (bit_xor R (add_record 0 q)) (sym (split p) ∙ e ∙ split q))

-- one changed byte in one of some records changes their checksum
pub checksum_tells : (rs ts : List (List ℕ)) (p q : List ℕ) (a b : ℕ) → checksum (rs ++ (p ++ a ∷ q) ∷ ts) ≡ checksum (rs ++ (p ++ b ∷ q) ∷ ts) → a ≡ b
unfolding checksum
checksum_tells rs ts p q a b e = byte_tells 0 p q a b (record_tells 0 rs ts (p ++ a ∷ q) (p ++ b ∷ q) e)

-- the record in which the byte between p and q stands, whatever it is but a line feed
pub record Around (p q : List ℕ) : Type 0 where
  pub before : List (List ℕ)
  pub after : List (List ℕ)
  pub left : List ℕ
  pub right : List ℕ
  pub cut : (b : ℕ) → (b ≡ 0x0A → ⊥) → records (p ++ b ∷ q) ≡ before ++ (left ++ b ∷ right) ∷ after

around_none : (q : List ℕ) (ps : List (List ℕ)) → records q ≡ ps → Around [] q
unfolding records onto
around_none q [] e = record { before = []; after = []; left = []; right = []; cut = λ b h. simp (ne_eqb b 0x0A h) (ap (onto b) e) }
around_none q (r ∷ ps) e = record { before = []; after = ps; left = []; right = r; cut = λ b h. simp (ne_eqb b 0x0A h) (ap (onto b) e) }

around_more : (c : ℕ) (p q : List ℕ) (rs : List (List ℕ)) (t : Bool) → eqb c 0x0A ≡ t → (o : Around p q) → o.before ≡ rs → Around (c ∷ p) q
unfolding records onto
around_more c p q rs true e o m =
    record { before = [] ∷ o.before; after = o.after; left = o.left; right = o.right; cut = λ b h. simp e (ap (λ (l : List (List ℕ)). [] ∷ l) (o.cut b h)) }
around_more c p q [] false e o m =
    record { before = []; after = o.after; left = c ∷ o.left; right = o.right; cut = λ b h. simp e (ap (onto c) (o.cut b h ∙ ap (λ (l : List (List ℕ)). l ++ (o.left ++ b ∷ o.right) ∷ o.after) m)) }
around_more c p q (r ∷ rs) false e o m =
    record { before = (c ∷ r) ∷ rs; after = o.after; left = o.left; right = o.right; cut = λ b h. simp e (ap (onto c) (o.cut b h ∙ ap (λ (l : List (List ℕ)). l ++ (o.left ++ b ∷ o.right) ∷ o.after) m)) }

pub around : (p q : List ℕ) → Around p q
around [] q = around_none q (records q) refl
around (c ∷ p) q = around_more c p q (around p q).before (eqb c 0x0A) refl (around p q) refl

-- one byte of a file replaced by another, neither a line feed, changes the file's checksum
pub file_tells : (p q : List ℕ) (a b : ℕ) → (a ≡ 0x0A → ⊥) → (b ≡ 0x0A → ⊥) → checksum_of (p ++ a ∷ q) ≡ checksum_of (p ++ b ∷ q) → a ≡ b
unfolding checksum_of
file_tells p q a b ha hb e =
    let o = around p q in
    checksum_tells o.before o.after o.left o.right a b (sym (ap checksum (o.cut a ha)) ∙ e ∙ ap checksum (o.cut b hb))
