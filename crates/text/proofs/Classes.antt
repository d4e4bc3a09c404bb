-- What the classes of bytes say of them. Assumes nothing.
use mathlib.Core.Path.{◌≡◌, refl, sym, ◌∙◌, ap}
use mathlib.Core.Bool.{Bool, true, false, cond, ◌&&◌, or-true, and-true}
use mathlib.Core.List.{List}
use Prim.Native.Nat.{ℕ, zero, suc, ◌+◌, ◌<◌, ◌≤◌}
use native.Mathlib.Omega.{arith}
use lib.Bits.{bit_or}
use lib.Dec.{ltb}
use lib.ListN.{length, get_or, drop}
use Rattle.text.specs.Characters.{all, class_of, is_text, is_digit}
use Rattle.text.proofs.Lists.{all_here, all_end}
use Rattle.text.proofs.Ors.{or_below, grouped}

-- a byte is a text character where its class is below 2
text_class : (d t : Bool) → (d ≡ true → t ≡ true) → t ≡ ltb (cond d 0 (cond t 1 2)) 2
text_class true t h = h refl
text_class false true h = refl
text_class false false h = refl

text_is : (b : ℕ) → is_text b ≡ ltb (class_of b) 2
unfolding class_of is_text
text_is b = text_class (is_digit b) (is_text b) (λ e. rw (e, or-true))

-- what a pass that ors classes knows after i bytes
abbrev pub Seen : List ℕ → ℕ → ℕ → Type 0
Seen s seen i = (i ≤ length s) × ((ltb seen 2 && all is_text (drop i s)) ≡ all is_text s)

seen_class : (seen b : ℕ) → ltb (bit_or seen (class_of b)) 2 ≡ (ltb seen 2 && is_text b)
seen_class seen b = or_below 1 seen (class_of b) (ltb seen 2) (is_text b) refl (sym (text_is b))

module _ (s : List ℕ) (seen i : ℕ) (p : Seen s seen i) where
  pub seen_next : i < length s → Seen s (bit_or seen (class_of (get_or s i 0))) (i + 1)
  seen_next h = (
    omega arith,
    ap (λ (t : Bool). t && all is_text (drop (i + 1) s)) (seen_class seen (get_or s i 0))
        ∙ grouped (ltb seen 2) (is_text (get_or s i 0)) (all is_text (drop (i + 1) s))
        ∙ ap (λ (t : Bool). ltb seen 2 && t) (sym (all_here is_text s i h)) ∙ p.1,
  )

  pub seen_end : length s ≤ i → ltb seen 2 ≡ all is_text s
  seen_end h = sym (and-true (ltb seen 2)) ∙ ap (λ (t : Bool). ltb seen 2 && t) (sym (all_end is_text s i h)) ∙ p.1

-- how many of the numbers below n pass a test
unfoldable pub how_many_lem : (ℕ → Bool) → ℕ → ℕ
how_many_lem p zero = 0
how_many_lem p (suc n) = cond (p n) 1 0 + how_many_lem p n

-- there are 83 text characters, ten of them digits
pub eighty_three : how_many_lem is_text 256 ≡ 83
unfolding how_many_lem is_text is_digit
eighty_three = refl

pub ten_digits : how_many_lem is_digit 256 ≡ 10
unfolding how_many_lem is_digit
ten_digits = refl
