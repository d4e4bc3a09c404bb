-- Eight bytes in one number: the place of the first that is a given byte, by exclusive or, masks and the zeros at the low end.
use Prim.Native.Nat.{ℕ, zero, suc, ◌+◌, ◌*◌, ◌/◌, ◌%◌, ◌<◌, ◌≤◌, ◌^◌}
use mathlib.Core.Path.{◌≡◌, refl, sym, ap, ◌∙◌}
use mathlib.Core.List.{List, [], ◌∷◌}
use mathlib.Core.Bool.{Bool, true, false, cond, ◌&&◌, ◌||◌, false≢true}
use native.Mathlib.Decide.{ℕ_discrete, dec_lt}
use native.Mathlib.Nat.{add-zero}
use native.Mathlib.Omega.{arith}
use lib.Dec.{eqb}
use lib.ListN.{length, take, drop, get_or, length-take, length-drop, get_or-eq_default}
use lib.Seq.{drop-drop, get_or-take, get_or-drop}
use lib.Bits.{bit_and, bit_or, bit_xor, and_block, or_block, xor_block, and_le_r, xor_self, xor_lt, and_lt, or_lt}
use lib.Count.{count_trailing_zeros}
use borrow.Author.Tests.{eqb-true, eq-eqb, ne_eqb}
use Rattle.record.specs.Records.{run, Bytes}
use Rattle.std.proofs.Common.{w64}
use Rattle.std.specs.Int.{from_le_bytes}
use Rattle.record.specs.Eight.{low}
use Rattle.record.proofs.Xor.{xor_cancel}

-- n times the byte b in one number
abbrev pub times : ℕ → ℕ → ℕ
times zero b = 0
times (suc n) b = times n b * 0x100 + b

-- 0x80 in each of n bytes in which w and a are the same, and 0 in the others
abbrev pub hits : ℕ → ℕ → ℕ → ℕ
hits n w a = bit_xor (bit_and (bit_or (bit_and (bit_xor w a) (times n 0x7F) + times n 0x7F) (bit_xor w a)) (times n 0x80)) (times n 0x80)

-- the same of one byte, of which x is the exclusive or
abbrev hit : ℕ → ℕ
hit x = bit_xor (bit_and (bit_or (bit_and x 0x7F + 0x7F) x) 0x80) 0x80

-- the lowest byte stands apart from the others
module _ (n w a b c : ℕ) (hb : b < 2 ^ 8) (hc : c < 2 ^ 8) where
  abbrev T : ℕ
  T = bit_xor w a

  abbrev x : ℕ
  x = bit_xor b c

  x_lt : x < 2 ^ 8
  x_lt = xor_lt 8 b c hb hc

  exclusive : bit_xor (w * 0x100 + b) (a * 0x100 + c) ≡ T * 0x100 + x
  exclusive = xor_block 8 w a b c hb hc

  -- the sums of the others and of it, before the last two masks
  abbrev U : ℕ
  U = bit_and T (times n 0x7F) + times n 0x7F

  abbrev u : ℕ
  u = bit_and x 0x7F + 0x7F

  abbrev top : ℕ
  top = times (suc n) 0x80

  u_lt : u < 2 ^ 8
  u_lt = omega (arith, and_le_r x 0x7F)

  o_lt : bit_or u x < 2 ^ 8
  o_lt = or_lt 8 u x u_lt x_lt

  masked : bit_and (T * 0x100 + x) (times (suc n) 0x7F) ≡ bit_and T (times n 0x7F) * 0x100 + bit_and x 0x7F
  masked = and_block 8 T (times n 0x7F) x 0x7F x_lt (omega arith)

  summed : bit_and T (times n 0x7F) * 0x100 + bit_and x 0x7F + times (suc n) 0x7F ≡ U * 0x100 + u
  summed = omega arith

  hits_step : hits (suc n) (w * 0x100 + b) (a * 0x100 + c) ≡ hits n w a * 0x100 + hit x
  hits_step =
      ap (λ (t : ℕ). bit_xor (bit_and (bit_or (bit_and t (times (suc n) 0x7F) + times (suc n) 0x7F) t) top) top) exclusive
      ∙ ap (λ (m : ℕ). bit_xor (bit_and (bit_or m (T * 0x100 + x)) top) top) (ap (λ (k : ℕ). k + times (suc n) 0x7F) masked ∙ summed)
      ∙ ap (λ (m : ℕ). bit_xor (bit_and m top) top) (or_block 8 U T u x u_lt x_lt)
      ∙ ap (λ (m : ℕ). bit_xor m top) (and_block 8 (bit_or U T) (times n 0x80) (bit_or u x) 0x80 o_lt (omega arith))
      ∙ xor_block 8 (bit_and (bit_or U T) (times n 0x80)) (times n 0x80) (bit_and (bit_or u x) 0x80) 0x80 (and_lt 8 (bit_or u x) 0x80 o_lt (omega arith)) (omega arith)

-- each number below n passes a test
abbrev below : (ℕ → Bool) → ℕ → Bool
below p zero = true
below p (suc n) = p n && below p n

both : (x y : Bool) → (x && y) ≡ true → (x ≡ true) × (y ≡ true)
both true y e = (refl, e)
both false y e = absurd (false≢true e)

below_go : (p : ℕ → Bool) (n k : ℕ) → (p n && below p n) ≡ true → (below p n ≡ true → k < n → p k ≡ true) → k < suc n → Dec (k ≡ n) → p k ≡ true
below_go p n k e ih h (yes q) = ap p q ∙ (both (p n) (below p n) e).0
below_go p n k e ih h (no q) = ih (both (p n) (below p n) e).1 (omega arith)

below_at : (p : ℕ → Bool) (n k : ℕ) → below p n ≡ true → k < n → p k ≡ true
below_at p zero k e h = absurd (omega arith)
below_at p (suc n) k e h = below_go p n k e (below_at p n k) h (ℕ_discrete k n)

-- of one byte, by a test of all 256: nothing where the exclusive or is not 0
right : ℕ → Bool
right x = eqb x 0 || eqb (hit x) 0

rights : below right 256 ≡ true
unfolding right
rights = refl

hit_other : (x : ℕ) → x < 256 → (x ≡ 0 → ⊥) → hit x ≡ 0
unfolding right
hit_other x h e = let r : right x ≡ true = below_at right 256 x rights h in eqb-true (hit x) 0 (rw (ne_eqb x 0 e) at r)

-- the zeros at the low end of a number of bytes
double : (k m : ℕ) → count_trailing_zeros (suc k) (m * 2) ≡ suc (count_trailing_zeros k m)
unfolding count_trailing_zeros
double k m =
    let p : m * 2 % 2 ≡ 0 = omega arith in
    let q : m * 2 / 2 ≡ m = omega arith in
    rw (p, q)

odd : (k m : ℕ) → count_trailing_zeros (suc k) (m * 2 + 1) ≡ 0
unfolding count_trailing_zeros
odd k m =
    let p : (m * 2 + 1) % 2 ≡ 1 = omega arith in
    rw p

-- eight digits more for each byte
abbrev digits : ℕ → ℕ
digits zero = 0
digits (suc n) = suc (suc (suc (suc (suc (suc (suc (suc (digits n))))))))

module _ (k h : ℕ) where
  zeros_hit : count_trailing_zeros (suc (suc (suc (suc (suc (suc (suc (suc k)))))))) (h * 0x100 + 0x80) ≡ 7
  zeros_hit =
      let e : h * 0x100 + 0x80 ≡ (h * 2 + 1) * 2 * 2 * 2 * 2 * 2 * 2 * 2 = omega arith in
      rw e (simp (double, odd))

  zeros_miss : count_trailing_zeros (suc (suc (suc (suc (suc (suc (suc (suc k)))))))) (h * 0x100 + 0) ≡ suc (suc (suc (suc (suc (suc (suc (suc (count_trailing_zeros k h))))))))
  zeros_miss =
      let e : h * 0x100 + 0 ≡ h * 2 * 2 * 2 * 2 * 2 * 2 * 2 * 2 = omega arith in
      rw e (simp double)

-- the bytes below the first hit, with one byte more at the low end
module _ (n w a b c : ℕ) (hb : b < 2 ^ 8) (hc : c < 2 ^ 8) where
  abbrev first : ℕ → ℕ
  first m = count_trailing_zeros (digits (suc n)) m / 8

  lane_hit : b ≡ c → count_trailing_zeros (digits (suc n)) (hits (suc n) (w * 0x100 + b) (a * 0x100 + c)) / 8 ≡ 0
  lane_hit e =
      let none : bit_xor b c ≡ 0 = ap (bit_xor b) (sym e) ∙ xor_self b in
      ap first (hits_step n w a b c hb hc ∙ ap (λ (x : ℕ). hits n w a * 0x100 + hit x) none)
      ∙ ap (λ (z : ℕ). z / 8) (zeros_hit (digits n) (hits n w a))

  lane_miss : (b ≡ c → ⊥) → count_trailing_zeros (digits (suc n)) (hits (suc n) (w * 0x100 + b) (a * 0x100 + c)) / 8 ≡ suc (count_trailing_zeros (digits n) (hits n w a) / 8)
  lane_miss e =
      let some : bit_xor b c ≡ 0 → ⊥ = (λ z. e (sym (xor_cancel b c b (z ∙ sym (xor_self b))))) in
      ap first (hits_step n w a b c hb hc ∙ ap (λ (k : ℕ). hits n w a * 0x100 + k) (hit_other (bit_xor b c) (xor_lt 8 b c hb hc) some))
      ∙ ap (λ (z : ℕ). z / 8) (zeros_miss (digits n) (hits n w a))
      ∙ omega arith

run_go : (c b : ℕ) (l : List ℕ) → c < 256 → b < 256 → count_trailing_zeros (digits (length l)) (hits (length l) (low l) (times (length l) c)) / 8 ≡ run c l → Dec (b ≡ c)
    → count_trailing_zeros (digits (suc (length l))) (hits (suc (length l)) (low l * 0x100 + b) (times (length l) c * 0x100 + c)) / 8 ≡ cond (eqb b c) 0 (suc (run c l))
run_go c b l hc hb ih (yes e) = lane_hit (length l) (low l) (times (length l) c) b c hb hc e ∙ simp (eq-eqb b c e)
run_go c b l hc hb ih (no e) = lane_miss (length l) (low l) (times (length l) c) b c hb hc e ∙ ap suc ih ∙ simp (ne_eqb b c e)

-- the zeros below the first hit, by eights, are the bytes before the first c
pub first_run : (c : ℕ) (l : List ℕ) → c < 256 → Bytes l → count_trailing_zeros (digits (length l)) (hits (length l) (low l) (times (length l) c)) / 8 ≡ run c l
unfolding run count_trailing_zeros
first_run c [] hc h = refl
first_run c (b ∷ l) hc h = run_go c b l hc (h 0) (first_run c l hc (λ i. h (suc i))) (ℕ_discrete b c)

-- the same of eight bytes, with the masks written out
pub eight_run : (c : ℕ) (l : List ℕ) → length l ≡ 8 → c < 256 → Bytes l
    → count_trailing_zeros 64 (hits 8 (low l) (c * 0x0101010101010101)) / 8 ≡ run c l
eight_run c l n hc h =
    let e : c * 0x0101010101010101 ≡ times 8 c = omega arith in
    let r : count_trailing_zeros (digits 8) (hits 8 (low l) (times 8 c)) / 8 ≡ run c l = rw n at (first_run c l hc h) in
    ap (λ (a : ℕ). count_trailing_zeros 64 (hits 8 (low l) a) / 8) e ∙ r

-- eight bytes read as one number, first byte lowest
pub low_from_le : (l : List ℕ) → length l ≡ 8 → from_le_bytes w64 l ≡ low l
low_from_le [] h = absurd (omega arith)
low_from_le (a ∷ []) h = absurd (omega arith)
low_from_le (a ∷ b ∷ []) h = absurd (omega arith)
low_from_le (a ∷ b ∷ c ∷ []) h = absurd (omega arith)
low_from_le (a ∷ b ∷ c ∷ d ∷ []) h = absurd (omega arith)
low_from_le (a ∷ b ∷ c ∷ d ∷ e ∷ []) h = absurd (omega arith)
low_from_le (a ∷ b ∷ c ∷ d ∷ e ∷ f ∷ []) h = absurd (omega arith)
low_from_le (a ∷ b ∷ c ∷ d ∷ e ∷ f ∷ g ∷ []) h = absurd (omega arith)
low_from_le (a ∷ b ∷ c ∷ d ∷ e ∷ f ∷ g ∷ i ∷ []) h = omega arith
low_from_le (a ∷ b ∷ c ∷ d ∷ e ∷ f ∷ g ∷ i ∷ j ∷ l) h = absurd (omega arith)

-- the four bytes at a place
take_four : (l : List ℕ) → 4 ≤ length l → take 4 l ≡ get_or l 0 0 ∷ get_or l 1 0 ∷ get_or l 2 0 ∷ get_or l 3 0 ∷ []
take_four [] h = absurd (omega arith)
take_four (a ∷ []) h = absurd (omega arith)
take_four (a ∷ b ∷ []) h = absurd (omega arith)
take_four (a ∷ b ∷ c ∷ []) h = absurd (omega arith)
take_four (a ∷ b ∷ c ∷ d ∷ l) h = refl

pub four_at : (s : List ℕ) (i : ℕ) → i + 4 ≤ length s → get_or s i 0 + get_or s (i + 1) 0 * 0x100 + get_or s (i + 2) 0 * 0x10000 + get_or s (i + 3) 0 * 0x1000000 ≡ low (take 4 (drop i s))
four_at s i h =
    let e : take 4 (drop i s) ≡ get_or s i 0 ∷ get_or s (i + 1) 0 ∷ get_or s (i + 2) 0 ∷ get_or s (i + 3) 0 ∷ [] =
    take_four (drop i s) (omega (arith, length-drop i s)) ∙ simp (get_or-drop, add-zero) in
    rw e (omega arith)

-- eight bytes are four and four
low_go : (l : List ℕ) → 4 ≤ length l → low (take 8 l) ≡ low (take 4 l) + low (take 4 (drop 4 l)) * 0x100000000
low_go [] h = absurd (omega arith)
low_go (a ∷ []) h = absurd (omega arith)
low_go (a ∷ b ∷ []) h = absurd (omega arith)
low_go (a ∷ b ∷ c ∷ []) h = absurd (omega arith)
low_go (a ∷ b ∷ c ∷ d ∷ l) h = omega arith

pub low_eight : (s : List ℕ) (i : ℕ) → i + 8 ≤ length s → low (take 8 (drop i s)) ≡ low (take 4 (drop i s)) + low (take 4 (drop (i + 4) s)) * 0x100000000
low_eight s i h = low_go (drop i s) (omega (arith, length-drop i s)) ∙ rw (drop-drop 4 i s)

-- a part of bytes is bytes
bytes_go : (s : List ℕ) (a n i : ℕ) → Bytes s → Dec (i < n) → get_or (take n (drop a s)) i 0 < 256
bytes_go s a n i h (yes l) = rw (get_or-take n (drop a s) i 0 l, get_or-drop a s i 0) (h (a + i))
bytes_go s a n i h (no l) = rw (get_or-eq_default (take n (drop a s)) 0 {n = i} (omega (arith, length-take n (drop a s)))) (omega arith)

pub part_bytes : (s : List ℕ) (a n : ℕ) → Bytes s → Bytes (take n (drop a s))
part_bytes s a n h i = bytes_go s a n i h (dec_lt i n)
