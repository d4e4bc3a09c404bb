-- A number read digit by digit. Assumes nothing.
use mathlib.Core.Path.{◌≡◌, refl, sym, ◌∙◌}
use mathlib.Core.Bool.{Bool, true, false, cond, ◌&&◌}
use mathlib.Core.List.{List}
use Prim.Native.Nat.{ℕ, ◌+◌, ◌-◌, ◌*◌, ◌≤◌, ◌<◌}
use native.Mathlib.Omega.{arith}
use borrow.Author.Tests.{le-leb, lt-leb, ne_eqb, eq-eqb, leb-false}
use lib.Dec.{leb}
use lib.ListN.{length, get_or, drop}
use Rattle.text.specs.Characters.{all, is_digit}
use Rattle.text.proofs.Lists.{all_fails, all_next, all_end}
use Rattle.number.specs.Numbers.{number, number_from}
use Rattle.number.proofs.Digits.{grows, number_next, number_end}
use Rattle.words.specs.Spelling.{is_number, number_of}
use Rattle.std.specs.Prelude.{Some, None}

-- two tests of which the second fails
second_fails : (a b : Bool) (n : ℕ) → b ≡ false → None ≡ cond (a && b) (Some n) None
second_fails true b n e = rw e
second_fails false b n e = refl

pub no_digits : (most limit : ℕ) (s : List ℕ) → length s ≡ 0 → None ≡ number_of most limit s
unfolding number_of is_number
no_digits most limit s e = rw (eq-eqb _ _ e)

-- as many bytes as there may be digits
pub record Long (most : ℕ) (s : List ℕ) : Type 0 where
  pub some : length s ≡ 0 → ⊥
  pub few : length s ≤ most

pub too_many : (most limit : ℕ) (s : List ℕ) → (length s ≡ 0 → ⊥) → most < length s → None ≡ number_of most limit s
unfolding number_of is_number
too_many most limit s e h = rw (ne_eqb _ _ e, lt-leb _ _ h)

-- the number n is read of the bytes before i, and the answer hangs on those from i on
pub record ReadTo (most limit : ℕ) (s : List ℕ) (i n : ℕ) : Type 0 where
  pub long : Long most s
  pub within : i ≤ length s
  pub low : n ≤ limit
  pub digits : all is_digit (drop i s) ≡ all is_digit s
  pub spelt : number_from n (drop i s) ≡ number s

module _ (most limit : ℕ) (s : List ℕ) (i n : ℕ) (l : ReadTo most limit s i n) where
  pub no_digit : i < length s → is_digit (get_or s i 0) ≡ false → None ≡ number_of most limit s
  unfolding number_of is_number
  no_digit h e =
      rw (ne_eqb _ _ l.long.some, le-leb _ _ l.long.few, sym l.digits ∙ all_fails is_digit s i h e)

  pub too_large : i < length s → leb (n * 10 + (get_or s i 0 - 48)) limit ≡ false → None ≡ number_of most limit s
  unfolding number_of is_number
  too_large h e =
      let k : limit < n * 10 + (get_or s i 0 - 48) = leb-false _ _ e in
      let up : limit < number s = omega (arith, sym l.spelt ∙ number_next s i h n, grows (n * 10 + (get_or s i 0 - 48)) (drop (i + 1) s)) in
      rw (ne_eqb _ _ l.long.some, le-leb _ _ l.long.few) (second_fails (all is_digit s) _ _ (lt-leb _ _ up))

  pub one_more_lem : i < length s → is_digit (get_or s i 0) ≡ true → n * 10 + (get_or s i 0 - 48) ≤ limit →
      ReadTo most limit s (i + 1) (n * 10 + (get_or s i 0 - 48))
  one_more_lem h e k = record {
    long = l.long;
    within = omega arith;
    low = k;
    digits = all_next is_digit s i h e ∙ l.digits;
    spelt = sym (number_next s i h n) ∙ l.spelt;
  }

  pub all_read : length s ≤ i → Some n ≡ number_of most limit s
  unfolding number_of is_number
  all_read h =
      let e : number s ≡ n = sym l.spelt ∙ number_end n s i h in
      rw (ne_eqb _ _ l.long.some, le-leb _ _ l.long.few, sym l.digits ∙ all_end is_digit s i h, e, le-leb _ _ l.low)
