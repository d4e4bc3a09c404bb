-- Laws of a field as text. Assumes nothing.
use Prim.Native.Nat.{ℕ, suc, ◌+◌, ◌≤◌, ◌<◌}
use mathlib.Core.Path.{◌≡◌, refl, sym, ap, ◌∙◌}
use mathlib.Core.Bool.{Bool, true, false, cond}
use mathlib.Core.List.{List, [], ◌∷◌, ◌++◌}
use native.Mathlib.Numerals.{add-one}
use native.Mathlib.Omega.{arith}
use lib.Dec.{eqb}
use lib.ListN.{length, get_or, drop, length-append, drop_of_length-le}
use lib.Seq.{drop-cons}
use borrow.Author.Tests.{eq-eqb, ne_eqb}
use Rattle.rfc4180.specs.Rfc.{quote}
use Rattle.csv_text.specs.Export.{quoted, doubled, field_of}

cons_go : (b : ℕ) (s : List ℕ) (t : Bool) → eqb b quote ≡ t → doubled (b ∷ s) ≡ doubled (b ∷ []) ++ doubled s
unfolding doubled
cons_go b s true e = rw e
cons_go b s false e = rw e

pub doubled_cons : (b : ℕ) (s : List ℕ) → doubled (b ∷ s) ≡ doubled (b ∷ []) ++ doubled s
doubled_cons b s = cons_go b s (eqb b quote) refl

-- one byte
pub doubled_quote : (b : ℕ) → b ≡ quote → doubled (b ∷ []) ≡ b ∷ b ∷ []
unfolding doubled
doubled_quote b e = rw (eq-eqb b quote e) (λ i. sym e i ∷ sym e i ∷ [])

pub doubled_other : (b : ℕ) → (b ≡ quote → ⊥) → doubled (b ∷ []) ≡ b ∷ []
unfolding doubled
doubled_other b h = rw (ne_eqb b quote h)

module _ (x : List ℕ) (i : ℕ) where
  pub doubled_next : i < length x → doubled (drop i x) ≡ doubled (get_or x i 0 ∷ []) ++ doubled (drop (i + 1) x)
  doubled_next h = rw (add-one i, drop-cons x i 0 h) (doubled_cons (get_or x i 0) (drop (suc i) x))

  pub doubled_end : length x ≤ i → doubled (drop i x) ≡ []
  unfolding doubled
  doubled_end h = rw (drop_of_length-le x {i = i} h)

two_go : (b n : ℕ) (s : List ℕ) (t : Bool) → length s ≤ n → length (cond t (quote ∷ quote ∷ s) (b ∷ s)) ≤ n + 2
two_go b n s true h = omega arith
two_go b n s false h = omega arith

pub doubled_le : (x : List ℕ) → length (doubled x) ≤ length x + length x
unfolding doubled
doubled_le [] = omega arith
doubled_le (b ∷ s) = omega (arith, two_go b (length s + length s) (doubled s) (eqb b quote) (doubled_le s))

module _ (x : List ℕ) where
  pub field_plain : quoted x ≡ false → field_of x ≡ x
  unfolding field_of
  field_plain e = rw e

  pub field_quoted : quoted x ≡ true → field_of x ≡ quote ∷ (doubled x ++ quote ∷ [])
  unfolding field_of
  field_quoted e = rw e

  pub size_quoted : quoted x ≡ true → length (field_of x) ≡ length (doubled x) + 2
  size_quoted e = omega (arith, ap length (field_quoted e), length-append (doubled x) (quote ∷ []))

  le_go : (t : Bool) → quoted x ≡ t → length (field_of x) ≤ length x + length x + 2
  le_go true e = omega (arith, size_quoted e, doubled_le x)
  le_go false e = omega (arith, ap length (field_plain e))

  pub field_le : length (field_of x) ≤ length x + length x + 2
  field_le = le_go (quoted x) refl

some_go : (b : ℕ) (t : Bool) → 1 ≤ length (cond t (quote ∷ quote ∷ []) (b ∷ []))
some_go b true = omega arith
some_go b false = omega arith

pub doubled_some : (b : ℕ) → 1 ≤ length (doubled (b ∷ []))
unfolding doubled
doubled_some b = some_go b (eqb b quote)
