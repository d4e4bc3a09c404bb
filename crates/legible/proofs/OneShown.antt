-- What is shown tells the bytes: no two strings of bytes are shown alike. Assumes nothing.
use Prim.Native.Nat.{ℕ, ◌+◌, ◌/◌, ◌%◌}
use native.Mathlib.Omega.{arith}
use mathlib.Core.Path.{◌≡◌, refl, sym, ap₂}
use mathlib.Core.Bool.{Bool, true, false, cond}
use mathlib.Core.List.{List, [], ◌∷◌, ◌++◌}
use borrow.Author.Tests.{leb-true, leb-false}
use lib.Dec.{leb}
use Rattle.legible.specs.Shown.{is_plain, hex_digit, escaped, shown_byte, shown}

plain_not_backslash : (b : ℕ) → is_plain b ≡ true → b ≡ 0x5C → ⊥
unfolding is_plain
plain_not_backslash b p e = let z : ◌≡◌ {A = Bool} (is_plain 0x5C) true = rw e at p in let no : ◌≡◌ {A = ℕ} 0 1 = cc in omega arith

digit_one : (d e : ℕ) → hex_digit d ≡ hex_digit e → d ≡ e
unfolding hex_digit
digit_one d e = by (leb d 9) (leb e 9) refl refl
  where
    by : (t u : Bool) → leb d 9 ≡ t → leb e 9 ≡ u → cond t (48 + d) (87 + d) ≡ cond u (48 + e) (87 + e) → d ≡ e
    by true true p q h = omega arith
    by true false p q h = omega (arith, leb-true d 9 p, leb-false e 9 q)
    by false true p q h = omega (arith, leb-false d 9 p, leb-true e 9 q)
    by false false p q h = omega arith

byte_one : (a b : ℕ) → hex_digit (a / 16) ≡ hex_digit (b / 16) → hex_digit (a % 16) ≡ hex_digit (b % 16) → a ≡ b
byte_one a b p q = omega (arith, digit_one (a / 16) (b / 16) p, digit_one (a % 16) (b % 16) q)

-- one byte and what is shown behind it
first_one : (a b : ℕ) (s t : List ℕ) → shown_byte a ++ s ≡ shown_byte b ++ t → (a ≡ b) × (s ≡ t)
unfolding shown_byte
first_one a b s t = by (is_plain a) (is_plain b) refl refl
  where
    by : (p q : Bool) → is_plain a ≡ p → is_plain b ≡ q → cond p (a ∷ []) (escaped a) ++ s ≡ cond q (b ∷ []) (escaped b) ++ t → (a ≡ b) × (s ≡ t)
    by true true p q e = (cc, cc)
    by true false p q e = absurd (plain_not_backslash a p (cc))
    by false true p q e = absurd (plain_not_backslash b q (cc))
    by false false p q e = (byte_one a b (cc) (cc), cc)

some_shown : (b : ℕ) (s : List ℕ) → [] ≡ shown_byte b ++ s → ⊥
unfolding shown_byte
some_shown b s = by (is_plain b)
  where
    by : (p : Bool) → [] ≡ cond p (b ∷ []) (escaped b) ++ s → ⊥
    by true e = let no : ◌≡◌ {A = ℕ} 0 1 = cc in omega arith
    by false e = let no : ◌≡◌ {A = ℕ} 0 1 = cc in omega arith

-- two strings of bytes that are shown alike are the same
pub one_shown : (s t : List ℕ) → shown s ≡ shown t → s ≡ t
unfolding shown
one_shown [] [] e = refl
one_shown [] (b ∷ t) e = absurd (some_shown b (shown t) e)
one_shown (a ∷ s) [] e = absurd (some_shown a (shown s) (sym e))
one_shown (a ∷ s) (b ∷ t) e =
    let f = first_one a b (shown s) (shown t) e in
    ap₂ (λ (x : ℕ) (r : List ℕ). x ∷ r) f.0 (one_shown s t f.1)
