-- What stands between brackets, as it is got by taking off a word's front and its end. Assumes nothing.
use mathlib.Core.Path.{◌≡◌, sym, ◌∙◌, ap}
use mathlib.Core.Bool.{true, false, and-true, and-false}
use mathlib.Core.List.{List, [], ◌∷◌}
use Prim.Native.Nat.{ℕ, suc, ◌+◌, ◌-◌, ◌≤◌, ◌<◌}
use native.Mathlib.Omega.{arith}
use borrow.Author.Tests.{ne_eqb}
use denote.Ref.{Bor}
use lib.Dec.{eqb}
use lib.ListN.{length, get_or, take, drop, drop_of_length-le}
use lib.Pointwise.{pointwise}
use Rattle.std.proofs.Common.{◌⊎◌, inl, inr, nat_eq, Option, Some, None, MatchOption}
use Rattle.std.proofs.Math.Seq.{drop-cons, drop-length}
use Rattle.std.proofs.lemmas.List.{length-drop, get_or-drop, take_all}
use Rattle.std.proofs.lemmas.Slice.Eq.{bytes_eq-Decides}
use Rattle.std.proofs.lemmas.Bool.{cases_lt}
use Rattle.words.proofs.Bytewise.{same_pointwise}
use Rattle.words.specs.Spelling.{ends_in, bracketed, inside}

-- a last byte is compared by itself
last_is : (b : ℕ) (s : List ℕ) → 0 < length s → pointwise nat_eq (drop (length s - 1) s) (b ∷ []) ≡ ends_in b s
unfolding ends_in
last_is b s h =
    let k : length s - 1 < length s = omega arith in
    let e : suc (length s - 1) ≡ length s = omega arith in
    let end : drop (suc (length s - 1)) s ≡ [] = rw e (drop-length s) in
    let one : drop (length s - 1) s ≡ get_or s (length s - 1) 0 ∷ [] = drop-cons s (length s - 1) 0 k ∙ ap (λ (r : List ℕ). get_or s (length s - 1) 0 ∷ r) end in
    rw (one, ne_eqb (length s) 0 (λ z. omega (arith, z))) (and-true (eqb (get_or s (length s - 1) 0) b))

-- a front that is less than the whole leaves the end as it is
ends_dropped : (b n : ℕ) (s : List ℕ) → n < length s → ends_in b (drop n s) ≡ ends_in b s
unfolding ends_in
ends_dropped b n s h =
    let e : n + (length s - n - 1) ≡ length s - 1 = omega arith in
    rw (length-drop n s, get_or-drop n s (length s - n - 1) 0, e, ne_eqb (length s - n) 0 (λ z. omega (arith, z)), ne_eqb (length s) 0 (λ z. omega (arith, z)))

module _ (name s : List ℕ) where
  pub not_begun : pointwise nat_eq (take (length name) s) name ≡ false → bracketed name s ≡ false
  unfolding bracketed
  not_begun e = rw (same_pointwise (take (length name) s) name ∙ e) (and-false (ends_in 0x29 s))

  -- a front that is not closed, and the end of what is behind it
  end_of_rest : ends_in 0x29 name ≡ false → pointwise nat_eq (take (length name) s) name ≡ true →
      (length name < length s) ⊎ (length s ≤ length name) →
      pointwise nat_eq (drop (length (drop (length name) s) - 1) (drop (length name) s)) (0x29 ∷ []) ≡ ends_in 0x29 s
  end_of_rest unclosed begun (inl h) =
      last_is 0x29 (drop (length name) s) (omega (arith, length-drop (length name) s)) ∙ ends_dropped 0x29 (length name) s h
  end_of_rest unclosed begun (inr h) =
      let same : s ≡ name = rw (take_all (length name) s h) at ((bytes_eq-Decides (take (length name) s) name).0 begun) in
      rw (drop_of_length-le s h, same, unclosed)

  closed : ends_in 0x29 name ≡ false → pointwise nat_eq (take (length name) s) name ≡ true →
      pointwise nat_eq (drop (length (drop (length name) s) - 1) (drop (length name) s)) (0x29 ∷ []) ≡ bracketed name s
  unfolding bracketed
  closed unclosed begun =
      rw (same_pointwise (take (length name) s) name ∙ begun, and-true) (end_of_rest unclosed begun (cases_lt (length name) (length s)))

  between : take (length (drop (length name) s) - 1) (drop (length name) s) ≡ inside name s
  between = let e : length s - length name - 1 ≡ length s - 1 - length name = omega arith in rw (length-drop (length name) s, e)

  -- what taking off the bracket at the end of the rest says
  pub ended : ends_in 0x29 name ≡ false → pointwise nat_eq (take (length name) s) name ≡ true → (rest : Bor (List ℕ)) → rest.now ≡ drop (length name) s →
      (r : Option (Bor (List ℕ))) →
      MatchOption r (pointwise nat_eq (drop (length rest.now - 1) rest.now) (0x29 ∷ []) ≡ false)
      (λ x. (pointwise nat_eq (drop (length rest.now - 1) rest.now) (0x29 ∷ []) ≡ true) × (x.now ≡ take (length rest.now - 1) rest.now) × (length x.now + 1 ≡ length rest.now)) →
      MatchOption r (bracketed name s ≡ false) (λ x. (bracketed name s ≡ true) × (x.now ≡ inside name s))
  ended unclosed begun rest e None h = sym (closed unclosed begun) ∙ (rw e at h)
  ended unclosed begun rest e (Some x) h = (sym (closed unclosed begun) ∙ (rw e at h.0), (rw e at h.1) ∙ between)

-- a word that is no longer than a name has nothing behind it
pub nothing_inside : (name s : List ℕ) → length s ≤ length name → [] ≡ inside name s
nothing_inside name s h = let z : length s - 1 - length name ≡ 0 = omega arith in rw z
