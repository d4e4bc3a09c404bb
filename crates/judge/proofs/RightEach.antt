-- What holds of each record with those before it. Assumes nothing.
use Prim.Native.Nat.{ℕ}
use mathlib.Core.Path.{◌≡◌, refl, ap}
use mathlib.Core.List.{List, [], ◌∷◌, ◌++◌, append-nil}
use native.Mathlib.Omega.{arith}
use lib.Seq.{append_snoc}

-- of each of rs with the records before it, where these come first
abbrev pub Each : (List (List ℕ) → List ℕ → Type 0) → List (List ℕ) → List (List ℕ) → Type 0
Each P before rs = (b : List (List ℕ)) (r : List ℕ) (a : List (List ℕ)) → rs ≡ b ++ r ∷ a → P (before ++ b) r

same_first : {x r : List ℕ} {xs a : List (List ℕ)} → x ∷ xs ≡ r ∷ a → x ≡ r
same_first e = cc

same_rest : {x r : List ℕ} {xs a : List (List ℕ)} → x ∷ xs ≡ r ∷ a → xs ≡ a
same_rest e = cc

no_records : {r : List ℕ} {a : List (List ℕ)} → [] ≡ r ∷ a → ⊥
no_records e = let z : ◌≡◌ {A = ℕ} 0 1 = cc in omega arith

no_split : (b : List (List ℕ)) (r : List ℕ) (a : List (List ℕ)) → [] ≡ b ++ r ∷ a → ⊥
no_split [] r a e = no_records e
no_split (x ∷ b) r a e = no_records e

module _ (P : List (List ℕ) → List ℕ → Type 0) (before : List (List ℕ)) where
  pub each_none : Each P before []
  each_none b r a e = absurd (no_split b r a e)

  -- of the first and of the others
  module _ (x : List ℕ) (xs : List (List ℕ)) where
    pub each_cons : P before x → Each P (before ++ x ∷ []) xs → Each P before (x ∷ xs)
    each_cons p later [] r a e = rw (append-nil, ← same_first e) p
    each_cons p later (y ∷ b) r a e = rw (← same_first e, ← append_snoc before x b) (later b r a (same_rest e))

    pub each_first : Each P before (x ∷ xs) → P before x
    each_first h = rw append-nil at (h [] x xs refl)

    pub each_rest : Each P before (x ∷ xs) → Each P (before ++ x ∷ []) xs
    each_rest h b r a e = rw (append_snoc before x b) (h (x ∷ b) r a (ap (λ (t : List (List ℕ)). x ∷ t) e))
