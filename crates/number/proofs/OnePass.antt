-- Digits that are tested and read in one pass. Assumes nothing.
use mathlib.Core.Path.{◌≡◌, refl, sym, ◌∙◌, ap}
use mathlib.Core.Bool.{Bool, true, false, cond, ◌&&◌}
use mathlib.Core.List.{List}
use Prim.Native.Nat.{ℕ, suc, ◌+◌, ◌-◌, ◌*◌, ◌%◌, ◌^◌, ◌≤◌, ◌<◌}
use native.Mathlib.Nat.{sub-zero, le_trans, mod-lt, mul_assoc, mul-le-mul_left, mul-le-mul_right, pow-succ', pow-le-pow_right, one-le-pow}
use native.Mathlib.Omega.{arith}
use lib.Bits.{bit_or}
use lib.Dec.{ltb, leb, eqb, lit<}
use lib.ListN.{length, get_or, drop}
use lib.Pow.{pow-add}
use borrow.Author.Tests.{lt-ltb, le-ltb, ltb-true, ltb-false, le-leb, lt-leb}
use Rattle.text.specs.Characters.{all, is_digit}
use Rattle.text.proofs.Lists.{all_here, all_end}
use Rattle.text.proofs.Ors.{or_below, grouped}
use Rattle.number.specs.Numbers.{number_from, number, plain, spelled}
use Rattle.number.specs.Leaves.{leads, spelt_from}
use Rattle.std.specs.Prelude.{Some, None}
use Rattle.std.specs.Option.{option_eq}
use Rattle.number.proofs.Digits.{upper, and_left, and_right, digit_low, digit_high, number_next, number_end}

-- the two marks of a byte are small where it is a digit
low_mark : (b : ℕ) → b < 256 → ltb (303 - b) 256 ≡ leb 48 b
low_mark b h = go (ltb (303 - b) 256) refl
  where
    go : (t : Bool) → ltb (303 - b) 256 ≡ t → t ≡ leb 48 b
    go true e = let k : 303 - b < 256 = ltb-true (303 - b) 256 e in sym (le-leb 48 b (omega arith))
    go false e = let k : 256 ≤ 303 - b = ltb-false (303 - b) 256 e in sym (lt-leb 48 b (omega arith))

high_mark : (b : ℕ) → ltb (b + 198) 256 ≡ leb b 57
high_mark b = go (ltb (b + 198) 256) refl
  where
    go : (t : Bool) → ltb (b + 198) 256 ≡ t → t ≡ leb b 57
    go true e = let k : b + 198 < 256 = ltb-true (b + 198) 256 e in sym (le-leb b 57 (omega arith))
    go false e = let k : 256 ≤ b + 198 = ltb-false (b + 198) 256 e in sym (lt-leb b 57 (omega arith))

marks_next : (marks b : ℕ) → b < 256 → ltb (bit_or (bit_or marks (303 - b)) (b + 198)) 256 ≡ (ltb marks 256 && is_digit b)
unfolding is_digit
marks_next marks b h =
    or_below 8 (bit_or marks (303 - b)) (b + 198) (ltb marks 256 && leb 48 b) (leb b 57)
    (or_below 8 marks (303 - b) (ltb marks 256) (leb 48 b) refl (low_mark b h)) (high_mark b)
    ∙ grouped (ltb marks 256) (leb 48 b) (leb b 57)

-- a digit's last four bits
last_bits : (b : ℕ) → 48 ≤ b → b ≤ 57 → b % 16 ≡ b - 48
last_bits b h k = omega arith

-- what a pass knows after i bytes: the number so far is n and has room for the rest, and the bytes were digits where marks is small
pub record Passed (v : ℕ) (d : List ℕ) (n marks i : ℕ) : Type 0 where
  pub within : i ≤ length d
  pub room : (n + 2) * 10 ^ (length d - i) ≤ 2 * 10 ^ 18
  pub test : (ltb marks 256 && all is_digit (drop i d)) ≡ all is_digit d
  pub spells : marks < 256 → number_from n (drop i d) ≡ number_from v d

pub pass_starts : (v : ℕ) (d : List ℕ) → (v + 2) * 10 ^ length d ≤ 2 * 10 ^ 18 → Passed v d v 0 0
pass_starts v d h = record { within = omega arith; room = rw sub-zero h; test = refl; spells = λ k. refl }

module _ (v : ℕ) (d : List ℕ) (n marks i : ℕ) (p : Passed v d n marks i) where
  -- there is room for one digit more
  room_left : i < length d → (n + 2) * (10 * 10 ^ (length d - (i + 1))) ≤ 2 * 10 ^ 18
  room_left h =
      let left : length d - i ≡ suc (length d - (i + 1)) = omega arith in
      rw (left, pow-succ') at p.room

  pub room_here : i < length d → (n + 2) * 10 ≤ 2 * 10 ^ 18
  room_here h =
      let ten : 10 ≤ 10 * 10 ^ (length d - (i + 1)) = omega (arith, one-le-pow (length d - (i + 1)) 10 (lit< tt)) in
      le_trans (mul-le-mul_left (n + 2) ten) (room_left h)

  room_next : i < length d → (x : ℕ) → x ≤ 15 → (n * 10 + x + 2) * 10 ^ (length d - (i + 1)) ≤ 2 * 10 ^ 18
  room_next h x k =
      let e = length d - (i + 1) in
      let up : n * 10 + x + 2 ≤ (n + 2) * 10 = omega arith in
      le_trans (mul-le-mul_right (10 ^ e) up) (rw (mul_assoc (n + 2) 10 (10 ^ e)) (room_left h))

  -- one byte more
  pub pass_next : (b : ℕ) → b ≡ get_or d i 0 → b < 256 → i < length d → Passed v d (n * 10 + b % 16) (bit_or (bit_or marks (303 - b)) (b + 198)) (i + 1)
  pass_next b e small h =
      let last : b % 16 < 16 = mod-lt b {m = 16} (lit< tt) in
      record {
        within = omega arith;
        room = room_next h (b % 16) (omega arith);
        test =
            ap (λ (t : Bool). t && all is_digit (drop (i + 1) d)) (marks_next marks b small)
            ∙ grouped (ltb marks 256) (is_digit b) (all is_digit (drop (i + 1) d))
            ∙ ap (λ (t : Bool). ltb marks 256 && t) (sym here) ∙ p.test;
        spells = λ k. spelt k;
      }
    where
      here : all is_digit (drop i d) ≡ (is_digit b && all is_digit (drop (i + 1) d))
      here = rw e (all_here is_digit d i h)

      spelt : bit_or (bit_or marks (303 - b)) (b + 198) < 256 → number_from (n * 10 + b % 16) (drop (i + 1) d) ≡ number_from v d
      spelt k =
          let both : (ltb marks 256 && is_digit b) ≡ true = sym (marks_next marks b small) ∙ lt-ltb _ 256 k in
          let digit = and_right (ltb marks 256) (is_digit b) both in
          let before = ltb-true marks 256 (and_left (ltb marks 256) (is_digit b) both) in
          ap (λ (x : ℕ). number_from (n * 10 + x) (drop (i + 1) d)) (last_bits b (digit_low b digit) (digit_high b digit) ∙ ap (λ (x : ℕ). x - 48) e)
          ∙ sym (number_next d i h n) ∙ p.spells before

  -- at the end
  pub pass_fails : 256 ≤ marks → all is_digit d ≡ false
  pass_fails h = sym p.test ∙ ap (λ (t : Bool). t && all is_digit (drop i d)) (le-ltb marks 256 h)

  pub pass_digits : length d ≤ i → marks < 256 → all is_digit d ≡ true
  pass_digits h k = sym p.test ∙ rw (lt-ltb marks 256 k) (all_end is_digit d i h)

  pub pass_number : length d ≤ i → marks < 256 → n ≡ number_from v d
  pass_number h k = sym (number_end n d i h) ∙ p.spells k

-- what an answer of the pass says
spelt_by : (t : Bool) (x n : ℕ) → cond t (Some x) None ≡ Some n → (t ≡ true) × (x ≡ n)
spelt_by true x n e = (refl, cc)
spelt_by false x n e = let z : ◌≡◌ {A = ℕ} 0 1 = cc in absurd (omega arith)

other_by : (t : Bool) (x : ℕ) → cond t (Some x) None ≡ None → t ≡ false
other_by true x e = let z : ◌≡◌ {A = ℕ} 0 1 = cc in absurd (omega arith)
other_by false x e = refl

module _ (v : ℕ) (d : List ℕ) where
  pub spelt_other : spelt_from v d ≡ None → all is_digit d ≡ false
  spelt_other e = other_by (all is_digit d) (number_from v d) e

  module _ (n : ℕ) (e : spelt_from v d ≡ Some n) where
    pub spelt_digits : all is_digit d ≡ true
    spelt_digits = (spelt_by (all is_digit d) (number_from v d) n e).0

    pub spelt_number : number_from v d ≡ n
    spelt_number = (spelt_by (all is_digit d) (number_from v d) n e).1

    -- where the pass had room, the number fits in 63 bits
    pub spelt_small : (v + 2) * 10 ^ length d ≤ 2 * 10 ^ 18 → n < 2 ^ 63
    spelt_small h =
        let more : v + 1 ≤ v + 2 = omega arith in
        omega (arith, spelt_number, upper v d spelt_digits, mul-le-mul_right (10 ^ length d) more)

-- there is room for 18 digits
pub room_18 : (d : List ℕ) → length d ≤ 18 → (0 + 2) * 10 ^ length d ≤ 2 * 10 ^ 18
room_18 d h = mul-le-mul_left 2 (pow-le-pow_right {n = 10} (lit< tt) {i = length d} {j = 18} h)

-- in all, where some of them are read
pub room_two : (a b : List ℕ) (n : ℕ) → spelt_from 0 a ≡ Some n → length a + length b ≤ 18 → (n + 2) * 10 ^ length b ≤ 2 * 10 ^ 18
room_two a b n e h =
    let some : n < 1 * 10 ^ length a = rw (sym (spelt_number 0 a n e)) (upper 0 a (spelt_digits 0 a n e)) in
    let double : n + 2 ≤ 2 * 10 ^ length a = omega arith in
    le_trans (mul-le-mul_right (10 ^ length b) double)
    (rw (mul_assoc 2 (10 ^ length a) (10 ^ length b), ← pow-add) (mul-le-mul_left 2 (pow-le-pow_right {n = 10} (lit< tt) {i = length a + length b} {j = 18} h)))

-- what spells n, as the code tests it: the length, the first digit, the pass over all of them
equals_spelt : (b t : Bool) (x n : ℕ) → (b && t && eqb x n) ≡ (b && option_eq eqb (cond t (Some x) None) (Some n))
equals_spelt false t x n = refl
equals_spelt true true x n = refl
equals_spelt true false x n = refl

pub spelled_is : (n : ℕ) (s : List ℕ) → spelled n s ≡ (leb (length s) 10 && (leads s && option_eq eqb (spelt_from 0 s) (Some n)))
unfolding spelled plain
spelled_is n s = ap (λ (b : Bool). leb (length s) 10 && b) (equals_spelt (leads s) (all is_digit s) (number s) n)

-- the laws of a pass over digits
pub ruleset spelling = (spelt_other, spelt_digits, spelt_number, spelt_small, room_18, room_two)
