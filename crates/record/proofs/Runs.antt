-- Laws of runs: a run at a place, and what it says of records and fields.
use Prim.Native.Nat.{ℕ, zero, suc, ◌+◌, ◌≤◌, ◌<◌, zero-le, suc-le-suc}
use mathlib.Core.Path.{◌≡◌, refl, ap}
use mathlib.Core.List.{List, [], ◌∷◌}
use mathlib.Core.Bool.{Bool, true, false, cond}
use native.Mathlib.Numerals.{add-one}
use native.Mathlib.Omega.{arith}
use lib.Dec.{eqb}
use lib.ListN.{length, take, drop, get_or, drop_of_length-le}
use lib.Seq.{drop-cons}
use borrow.Author.Tests.{eq-eqb, ne_eqb}
use Rattle.std.specs.List.{count_by}
use Rattle.std.proofs.lemmas.List.Recursion.{is_count_by}
use Rattle.record.specs.Records.{records, fields, onto, run}

module _ (sep : ℕ) (s : List ℕ) (i : ℕ) where
  pub run_here : i < length s → get_or s i 0 ≡ sep → run sep (drop i s) ≡ 0
  unfolding run
  run_here h e = rw (drop-cons s i 0) (simp (eq-eqb _ _ e))

  pub run_next : i < length s → (get_or s i 0 ≡ sep → ⊥) → run sep (drop i s) ≡ suc (run sep (drop (i + 1) s))
  unfolding run
  run_next h e = rw (add-one, drop-cons s i 0) (simp (ne_eqb _ _ e))

  pub run_end : length s ≤ i → run sep (drop i s) ≡ 0
  unfolding run
  run_end h = rw (drop_of_length-le s {i = i} h)

run_le_go : (n m : ℕ) (t : Bool) → n ≤ m → cond t 0 (suc n) ≤ suc m
run_le_go n m true h = zero-le
run_le_go n m false h = suc-le-suc h

pub run_le : (sep : ℕ) (s : List ℕ) → run sep s ≤ length s
unfolding run
run_le sep [] = zero-le
run_le sep (b ∷ s) = run_le_go (run sep s) (length s) (eqb b sep) (run_le sep s)

-- a run that ends within the first n bytes, and one that goes through them
hit_go : (b m k n : ℕ) (t : Bool) → (k < n → m ≡ k) → cond t 0 (suc k) < suc n → cond t 0 (suc m) ≡ cond t 0 (suc k)
hit_go b m k n true ih h = refl
hit_go b m k n false ih h = ap suc (ih (omega arith))

pub run_ends : (sep n : ℕ) (l : List ℕ) → run sep (take n l) < n → run sep l ≡ run sep (take n l)
unfolding run
run_ends sep zero l h = absurd (omega arith)
run_ends sep (suc n) [] h = refl
run_ends sep (suc n) (b ∷ l) h = hit_go b (run sep l) (run sep (take n l)) n (eqb b sep) (run_ends sep n l) h

through_go : (m k n d : ℕ) (t : Bool) → (n ≤ k → m ≡ n + d) → suc n ≤ cond t 0 (suc k) → cond t 0 (suc m) ≡ suc n + d
through_go m k n d true ih h = absurd (omega arith)
through_go m k n d false ih h = omega (arith, ih (omega arith))

pub run_through : (sep n : ℕ) (l : List ℕ) → n ≤ run sep (take n l) → run sep l ≡ n + run sep (drop n l)
unfolding run
run_through sep zero l h = omega arith
run_through sep (suc n) [] h = absurd (omega arith)
run_through sep (suc n) (b ∷ l) h = through_go (run sep l) (run sep (take n l)) n (run sep (drop n l)) (eqb b sep) (run_through sep n l) h

-- the first record is the run up to the first line feed, and the others are those past it
records_go : (b : ℕ) (s : List ℕ) (t : Bool) → (0 < length s → records s ≡ take (run 0x0A s) s ∷ records (drop (suc (run 0x0A s)) s))
    → cond t ([] ∷ records s) (onto b (records s)) ≡ take (cond t 0 (suc (run 0x0A s))) (b ∷ s) ∷ records (drop (suc (cond t 0 (suc (run 0x0A s)))) (b ∷ s))
unfolding records run onto
records_go b s true ih = refl
records_go b [] false ih = refl
records_go b (a ∷ s) false ih = ap (onto b) (ih (omega arith))

pub records_first : (l : List ℕ) → 0 < length l → records l ≡ take (run 0x0A l) l ∷ records (drop (suc (run 0x0A l)) l)
unfolding records run
records_first [] h = absurd (omega arith)
records_first (b ∷ s) h = records_go b s (eqb b 0x0A) (records_first s)

-- where no separator is left, the rest is one field
last_go : (sep b : ℕ) (s : List ℕ) (t : Bool) → (length s ≤ run sep s → fields sep s ≡ s ∷ []) → suc (length s) ≤ cond t 0 (suc (run sep s))
    → cond t ([] ∷ fields sep s) (onto b (fields sep s)) ≡ (b ∷ s) ∷ []
unfolding onto
last_go sep b s true ih h = absurd (omega arith)
last_go sep b s false ih h = ap (onto b) (ih (omega arith))

pub fields_last : (sep : ℕ) (l : List ℕ) → length l ≤ run sep l → fields sep l ≡ l ∷ []
unfolding fields run
fields_last sep [] h = refl
fields_last sep (b ∷ s) h = last_go sep b s (eqb b sep) (fields_last sep s) h

-- where one is left, the first field is the run up to it, and the others are those past it
more_go : (sep b : ℕ) (s : List ℕ) (t : Bool) → (run sep s < length s → fields sep s ≡ take (run sep s) s ∷ fields sep (drop (suc (run sep s)) s))
    → cond t 0 (suc (run sep s)) < suc (length s)
    → cond t ([] ∷ fields sep s) (onto b (fields sep s)) ≡ take (cond t 0 (suc (run sep s))) (b ∷ s) ∷ fields sep (drop (suc (cond t 0 (suc (run sep s)))) (b ∷ s))
unfolding onto
more_go sep b s true ih h = refl
more_go sep b s false ih h = ap (onto b) (ih (omega arith))

pub fields_more : (sep : ℕ) (l : List ℕ) → run sep l < length l → fields sep l ≡ take (run sep l) l ∷ fields sep (drop (suc (run sep l)) l)
unfolding fields run
fields_more sep [] h = absurd (omega arith)
fields_more sep (b ∷ s) h = more_go sep b s (eqb b sep) (fields_more sep s) h

-- one more byte at the front keeps the number of parts, where there is one
onto_length : (b : ℕ) (ps : List (List ℕ)) → 0 < length ps → length (onto b ps) ≡ length ps
unfolding onto
onto_length b [] h = absurd (omega arith)
onto_length b (p ∷ ps) h = refl

some_go : (b : ℕ) (ps : List (List ℕ)) (t : Bool) → 0 < length ps → 0 < length (cond t ([] ∷ ps) (onto b ps))
some_go b ps true h = omega arith
some_go b ps false h = omega (arith, onto_length b ps h)

-- a record has at least one field
pub fields_some : (sep : ℕ) (r : List ℕ) → 0 < length (fields sep r)
unfolding fields
fields_some sep [] = omega arith
fields_some sep (b ∷ s) = some_go b (fields sep s) (eqb b sep) (fields_some sep s)

count_go : (b n : ℕ) (ps : List (List ℕ)) (t : Bool) → 0 < length ps → n ≡ cond t 1 0 → (n ≤ 1) × (length (cond t ([] ∷ ps) (onto b ps)) ≡ n + length ps)
count_go b n ps true h e = (omega arith, omega arith)
count_go b n ps false h e = (omega arith, omega (arith, onto_length b ps h))

-- the number of fields from a place on: one more for a separator there
module _ (sep : ℕ) (r : List ℕ) (i : ℕ) where
  pub count_next : (n : ℕ) → i < length r → n ≡ cond (eqb (get_or r i 0) sep) 1 0 → (n ≤ 1) × (length (fields sep (drop i r)) ≡ n + length (fields sep (drop (i + 1) r)))
  unfolding fields
  count_next n h e =
      rw (add-one, drop-cons r i 0) (count_go (get_or r i 0) n (fields sep (drop (suc i) r)) (eqb (get_or r i 0) sep) (fields_some sep (drop (suc i) r)) e)

  pub count_end : length r ≤ i → length (fields sep (drop i r)) ≡ 1
  unfolding fields
  count_end h = rw (drop_of_length-le r {i = i} h)

-- how many of some bytes are the byte b
unfoldable pub how_many : ℕ → List ℕ → ℕ
how_many b [] = 0
how_many b (a ∷ s) = cond (eqb a b) 1 0 + how_many b s

-- a record with n separators has n + 1 fields
pub fields_and_bars : (sep : ℕ) (r : List ℕ) → length (fields sep r) ≡ how_many sep r + 1
unfolding fields how_many
fields_and_bars sep [] = refl
fields_and_bars sep (b ∷ s) =
    let one = count_go b (cond (eqb b sep) 1 0) (fields sep s) (eqb b sep) (fields_some sep s) refl in
    omega (arith, one.1, fields_and_bars sep s)

one_more_go : (n : ℕ) (t : Bool) → cond t 1 0 + n ≡ cond t (1 + n) n
one_more_go n true = refl
one_more_go n false = omega arith

-- and those that a count finds
pub bars_counted : (sep : ℕ) (r : List ℕ) → how_many sep r ≡ count_by (λ b. eqb b sep) r
unfolding how_many
bars_counted sep r = is_count_by (how_many sep) (λ b. eqb b sep) refl (λ b s. one_more_go (how_many sep s) (eqb b sep)) r
