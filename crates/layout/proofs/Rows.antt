-- What the numbers of a row are in the layout, for any bytes. Assumes nothing.
use Prim.Native.Nat.{ℕ, ◌+◌, ◌-◌, ◌≤◌, ◌<◌, ◌/◌, min}
use mathlib.Core.Path.{◌≡◌, refl, sym, ap, ◌∙◌}
use mathlib.Core.Bool.{Bool, true, false, cond}
use mathlib.Core.List.{List, [], ◌∷◌}
use native.Mathlib.Omega.{arith}
use lib.Dec.{eqb, leb}
use lib.ListN.{length, drop}
use borrow.Author.Tests.{le-leb, lt-leb, leb-true, leb-false}
use Rattle.layout.specs.Layout.{KindRow, row, blank, is_footer}
use Rattle.layout.specs.Numbers.{each, cell, name_of, key_of, repeats_of, row_of, row_word, row_count, rules_at, rules_from, layout_of}
use Rattle.layout.proofs.Each.{each_length, each_at, each_past, each_drop, each_done}

module _ (t bytes : List ℕ) where
  -- as many rows as the numbers have room for, at most the start and 32 kinds
  pub rows_length : length (layout_of t bytes).rows ≡ row_count t
  unfolding layout_of
  rows_length = each_length (row_of t bytes) 0 (row_count t)

  -- the last row is the footer
  pub footer_is : (k : ℕ) → 1 ≤ k → eqb (row_count t - 1) k ≡ is_footer (layout_of t bytes) k
  footer_is k h = rw (le-leb 1 k h, rows_length)

module _ (t bytes : List ℕ) (k : ℕ) where
  -- row k where there is one
  pub row_of_lem : k < row_count t → row (layout_of t bytes) k ≡ row_of t bytes k
  unfolding layout_of
  row_of_lem h = each_at (row_of t bytes) blank (row_count t) k h

  -- no kind at all past the end
  pub row_past : row_count t ≤ k → row (layout_of t bytes) k ≡ blank
  unfolding layout_of
  row_past h = each_past (row_of t bytes) blank (row_count t) k h

  by_test : (b : Bool) → leb (row_count t) k ≡ b → row (layout_of t bytes) k ≡ cond b blank (row_of t bytes k)
  by_test true e = row_past (leb-true _ _ e)
  by_test false e = row_of_lem (leb-false _ _ e)

  -- both by the test that the code makes
  pub row_is : row (layout_of t bytes) k ≡ cond (leb (row_count t) k) blank (row_of t bytes k)
  row_is = by_test (leb (row_count t) k) refl

  -- what a row's number j says, where 0 says what no kind at all has
  number_is : {A : Type 0} (says : ℕ → A) (g : KindRow → A) (j : ℕ) → g blank ≡ says 0 → g (row_of t bytes k) ≡ says (cell t k j)
      → says (row_word t k j) ≡ g (row (layout_of t bytes) k)
  number_is says g j none some = go (leb (row_count t) k) ∙ sym (ap g row_is)
    where
      go : (b : Bool) → says (cond b 0 (cell t k j)) ≡ g (cond b blank (row_of t bytes k))
      go true = sym none
      go false = sym some

  pub next_is : row_word t k 1 ≡ (row (layout_of t bytes) k).next
  unfolding row_of
  next_is = number_is (λ n. n) (λ (r : KindRow). r.next) 1 refl refl

  pub key_is : key_of (row_word t k 4) ≡ (row (layout_of t bytes) k).key
  unfolding row_of
  key_is = number_is key_of (λ (r : KindRow). r.key) 4 refl refl

  pub repeats_is : repeats_of (row_word t k 4) ≡ (row (layout_of t bytes) k).repeats
  unfolding row_of
  repeats_is = number_is repeats_of (λ (r : KindRow). r.repeats) 4 refl refl

  pub head_is : row_word t k 5 ≡ (row (layout_of t bytes) k).head
  unfolding row_of
  head_is = number_is (λ n. n) (λ (r : KindRow). r.head) 5 refl refl

  pub name_is : k < row_count t → name_of (row_word t k 0) ≡ (row (layout_of t bytes) k).name
  unfolding row_of
  name_is h = rw (lt-leb _ _ h, row_of_lem h)

  rules_go : (b : Bool) → rules_at t bytes (cond b 0 (cell t k 2)) (cond b 0 (cell t k 3)) ≡ (cond b blank (row_of t bytes k)).rules
  unfolding row_of rules_from each
  rules_go true = let z : min 0 ((length t - min 0 (length t)) / 3) ≡ 0 = omega arith in rw z
  rules_go false = refl

  pub rules_are : rules_at t bytes (row_word t k 2) (row_word t k 3) ≡ (row (layout_of t bytes) k).rules
  rules_are = rules_go (leb (row_count t) k) ∙ sym (ap (λ (r : KindRow). r.rules) row_is)

  -- what is left of the rows from k on begins with row k
  pub rows_drop : k < row_count t → drop k (layout_of t bytes).rows ≡ row_of t bytes k ∷ drop (k + 1) (layout_of t bytes).rows
  unfolding layout_of
  rows_drop h = each_drop (row_of t bytes) (row_count t) k h

  pub rows_done : row_count t ≤ k → drop k (layout_of t bytes).rows ≡ []
  unfolding layout_of
  rows_done h = each_done (row_of t bytes) (row_count t) k h
