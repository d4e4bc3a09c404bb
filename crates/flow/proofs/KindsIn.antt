-- The kinds in some bytes, three bytes each, from a place on. Assumes nothing.
use Prim.Native.Nat.{ℕ, ◌+◌, ◌-◌, ◌<◌, ◌≤◌}
use mathlib.Core.Path.{◌≡◌, refl, ap, ◌∙◌}
use mathlib.Core.List.{List, [], ◌∷◌}
use native.Mathlib.Decide.{dec_lt}
use native.Mathlib.Omega.{arith}
use lib.ListN.{length, take, drop, length-drop, drop_of_length-le}
use lib.Seq.{drop-drop, take_all}
use Rattle.flow.specs.Step.{kinds_in}

-- fewer than three bytes are one kind that is cut short
kinds_short : (u : List ℕ) → 0 < length u → length u < 3 → kinds_in u ≡ u ∷ []
unfolding kinds_in
kinds_short [] h k = absurd (omega arith)
kinds_short (a ∷ []) h k = refl
kinds_short (a ∷ b ∷ []) h k = refl
kinds_short (a ∷ b ∷ c ∷ u) h k = absurd (omega arith)

-- three bytes or more begin with a kind
kinds_more : (u : List ℕ) → 3 ≤ length u → kinds_in u ≡ take 3 u ∷ kinds_in (drop 3 u)
unfolding kinds_in
kinds_more [] h = absurd (omega arith)
kinds_more (a ∷ []) h = absurd (omega arith)
kinds_more (a ∷ b ∷ []) h = absurd (omega arith)
kinds_more (a ∷ b ∷ c ∷ u) h = refl

module _ (s : List ℕ) (a : ℕ) where
  pub kinds_end : length s ≤ a → kinds_in (drop a s) ≡ []
  unfolding kinds_in
  kinds_end h = rw (drop_of_length-le s h)

-- from a place on, the first kind is the next three bytes, or fewer at the end
module _ (s : List ℕ) (a : ℕ) (h : a < length s) where
  first_go : Dec (length s - a < 3) → kinds_in (drop a s) ≡ take 3 (drop a s) ∷ kinds_in (drop (a + 3) s)
  first_go (yes k) =
      let whole : take 3 (drop a s) ≡ drop a s = take_all 3 (drop a s) (omega (arith, length-drop a s)) in
      rw (whole, kinds_end s (a + 3) (omega arith)) (kinds_short (drop a s) (omega (arith, length-drop a s)) (omega (arith, length-drop a s)))
  first_go (no k) =
      kinds_more (drop a s) (omega (arith, length-drop a s)) ∙ ap (λ (u : List ℕ). take 3 (drop a s) ∷ kinds_in u) (drop-drop 3 a s)

  pub kinds_first : kinds_in (drop a s) ≡ take 3 (drop a s) ∷ kinds_in (drop (a + 3) s)
  kinds_first = first_go (dec_lt (length s - a) 3)
