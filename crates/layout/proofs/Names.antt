-- The kind of a name: found, and compared as one number. Assumes nothing.
use Prim.Native.Nat.{ℕ, zero, suc, ◌+◌, ◌-◌, ◌*◌, ◌≤◌, ◌<◌, ◌/◌, ◌%◌}
use mathlib.Core.Path.{◌≡◌, refl, sym, ap, ◌∙◌, subst}
use mathlib.Core.Bool.{Bool, true, false, cond}
use mathlib.Core.List.{List, [], ◌∷◌}
use native.Mathlib.Nat.{add-zero}
use native.Mathlib.Numerals.{add-one}
use native.Mathlib.Omega.{arith}
use lib.Dec.{T}
use lib.ListN.{length, get_or, drop, length-drop, length-map, get_or-map}
use lib.Seq.{get_or-drop}
use Rattle.text.specs.Order.{same_bytes}
use Rattle.text.proofs.Lists.{same→≡, same_refl, three_of}
use Rattle.text.proofs.Places.{place_name, place_most}
use Rattle.layout.specs.Layout.{KindRow, Layout, row, blank, row_names, find, kind_named}
use Rattle.layout.specs.Numbers.{word, cell, name_of, row_of, row_count, layout_of}
use Rattle.layout.proofs.Rows.{rows_length, row_of_lem, rows_drop, rows_done}

-- the kind of a name in any layout
module _ (l : Layout) (name : List ℕ) where
  kind_most_of : kind_named l name ≤ length l.rows - 1
  unfolding find
  kind_most_of = omega (arith, place_most name (row_names (drop 1 l.rows)), length-map (drop 1 l.rows) (λ (r : KindRow). r.name), length-drop 1 l.rows)

  found_go : (k : ℕ) → kind_named l name ≡ k → (k ≡ 0 → ⊥) → (row l k).name ≡ name
  unfolding find
  found_go zero e h = absurd (h refl)
  found_go (suc j) e h =
      let z : 1 + j ≡ suc j = omega arith in
      sym (get_or-map (λ (r : KindRow). r.name) (drop 1 l.rows) j blank ∙ ap (λ (r : KindRow). r.name) (get_or-drop 1 l.rows j blank ∙ ap (row l) z))
      ∙ (place_name name (row_names (drop 1 l.rows)) j e).1

  pub found_row : (kind_named l name ≡ 0 → ⊥) → (row l (kind_named l name)).name ≡ name
  found_row found = found_go (kind_named l name) refl found

-- there are at most 32 kinds
pub kind_most : (t bytes name : List ℕ) → kind_named (layout_of t bytes) name ≤ 32
kind_most t bytes name = omega (arith, kind_most_of (layout_of t bytes) name, rows_length t bytes)

-- three bytes, and the number that they are
pub record Spells (name : List ℕ) (n : ℕ) : Type 0 where
  pub three : length name ≡ 3
  pub first : get_or name 0 0 < 256
  pub second : get_or name 1 0 < 256
  pub third : get_or name 2 0 < 256
  pub is : n ≡ get_or name 0 0 * 65536 + get_or name 1 0 * 256 + get_or name 2 0

-- a number's name is these bytes exactly where its lowest 24 bits are the number that they are
module _ (name : List ℕ) (n : ℕ) (s : Spells name n) (w : ℕ) where
  pub number→name : w % 16777216 ≡ n → name_of w ≡ name
  number→name e =
      let a : w / 65536 % 256 ≡ get_or name 0 0 = omega arith in
      let b : w / 256 % 256 ≡ get_or name 1 0 = omega arith in
      let c : w % 256 ≡ get_or name 2 0 = omega arith in
      (λ i. a i ∷ b i ∷ c i ∷ []) ∙ sym (three_of 0 name s.three)

  pub name→number : name_of w ≡ name → w % 16777216 ≡ n
  name→number e =
      let a : w / 65536 % 256 ≡ get_or name 0 0 = ap (λ (x : List ℕ). get_or x 0 0) e in
      let b : w / 256 % 256 ≡ get_or name 1 0 = ap (λ (x : List ℕ). get_or x 1 0) e in
      let c : w % 256 ≡ get_or name 2 0 = ap (λ (x : List ℕ). get_or x 2 0) e in
      omega arith

  same_name : w % 16777216 ≡ n → same_bytes (name_of w) name ≡ true
  same_name e = ap (λ (x : List ℕ). same_bytes x name) (number→name e) ∙ same_refl name

  other_name : (w % 16777216 ≡ n → ⊥) → same_bytes (name_of w) name ≡ false
  other_name h = go (same_bytes (name_of w) name) refl
    where
      go : (b : Bool) → same_bytes (name_of w) name ≡ b → b ≡ false
      go true e = absurd (h (name→number (same→≡ (name_of w) name (subst T (sym e) tt))))
      go false e = refl

-- one step of the search
module _ (t bytes name : List ℕ) (n : ℕ) (s : Spells name n) (i : ℕ) where
  name_at : cell t i 0 ≡ word t (i * 6 + 2)
  name_at = ap (word t) (add-zero (i * 6 + 2))

  step : (b : Bool) → i < row_count t → same_bytes (name_of (cell t i 0)) name ≡ b
      → find name i (drop i (layout_of t bytes).rows) ≡ cond b i (find name (i + 1) (drop (i + 1) (layout_of t bytes).rows))
  unfolding find row_of
  step b h e =
      ap (find name i) (rows_drop t bytes i h)
      ∙ ap (λ (x : Bool). cond x i (find name (suc i) (drop (i + 1) (layout_of t bytes).rows))) e
      ∙ rw add-one

  pub find_here : i < row_count t → word t (i * 6 + 2) % 16777216 ≡ n → find name i (drop i (layout_of t bytes).rows) ≡ i
  find_here h e = step true h (same_name name n s (cell t i 0) (ap (λ (x : ℕ). x % 16777216) name_at ∙ e))

  pub find_next : i < row_count t → (word t (i * 6 + 2) % 16777216 ≡ n → ⊥)
      → find name (i + 1) (drop (i + 1) (layout_of t bytes).rows) ≡ find name i (drop i (layout_of t bytes).rows)
  find_next h e = sym (step false h (other_name name n s (cell t i 0) (λ q. e (ap (λ (x : ℕ). x % 16777216) (sym name_at) ∙ q))))

  pub find_end : row_count t ≤ i → find name i (drop i (layout_of t bytes).rows) ≡ 0
  unfolding find
  find_end h = rw (rows_done t bytes i h)

-- a name that is not of three bytes is no kind's
no_kind : (t bytes name : List ℕ) → (length name ≡ 3 → ⊥) → (kind_named (layout_of t bytes) name ≡ 0 → ⊥) → ⊥
unfolding row_of
no_kind t bytes name h found =
    let l = layout_of t bytes in
    let k : kind_named l name < row_count t = omega (arith, kind_most_of l name, rows_length t bytes) in
    h (ap length (sym (found_row l name found) ∙ ap (λ (r : KindRow). r.name) (row_of_lem t bytes (kind_named l name) k)))

pub find_long : (t bytes name : List ℕ) → (length name ≡ 3 → ⊥) → kind_named (layout_of t bytes) name ≡ 0
find_long t bytes name h = go (kind_named (layout_of t bytes) name) refl
  where
    go : (k : ℕ) → kind_named (layout_of t bytes) name ≡ k → kind_named (layout_of t bytes) name ≡ 0
    go zero e = e
    go (suc k) e = absurd (no_kind t bytes name h (λ z. let q : suc k ≡ 0 = sym e ∙ z in omega arith))
