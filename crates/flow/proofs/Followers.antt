-- The names of the kinds that may follow, written one after the other. Assumes nothing.
use Prim.Native.Nat.{ℕ, ◌+◌, ◌*◌, ◌≤◌, ◌<◌}
use mathlib.Core.Path.{◌≡◌, refl, ap, ◌∙◌, subst}
use mathlib.Core.Bool.{Bool, true, false, cond}
use mathlib.Core.List.{List, [], ◌∷◌}
use native.Mathlib.Numerals.{add-one}
use native.Mathlib.Omega.{arith}
use borrow.Author.Tests.{lt-leb}
use lib.ListN.{length, drop}
use Rattle.layout.specs.Layout.{Layout, may_follow}
use Rattle.layout.specs.Numbers.{name_of, row_of, row_word, row_count, layout_of}
use Rattle.layout.proofs.Rows.{rows_drop, rows_done}
use Rattle.flow.specs.ByTable.{followers_from, PutIf}
use Rattle.flow.proofs.Listing.{Written, written_more}

-- what putting a name or not does to the count
put_counts : (b : Bool) (name : List ℕ) (count after : ℕ) (old new : List ℕ) → PutIf b name count after old new → after ≤ count + 1
put_counts true name count after old new p = omega (arith, p.0)
put_counts false name count after old new p = omega (arith, p.0)

module _ (t fixed : List ℕ) (last k : ℕ) where
  abbrev l : Layout
  l = layout_of t fixed

  -- the followers among the rows from k on, and from the next
  abbrev here : List (List ℕ)
  here = followers_from l last k (drop k l.rows)

  abbrev later : List (List ℕ)
  later = followers_from l last (k + 1) (drop (k + 1) l.rows)

  abbrev name : List ℕ
  name = name_of (row_word t k 0)

  -- row k is the first of them, where it may follow
  followers_here : k < row_count t → here ≡ cond (may_follow l last k) (name ∷ later) later
  unfolding followers_from row_of
  followers_here h =
      ap (followers_from l last k) (rows_drop t fixed k h)
      ∙ rw (lt-leb _ _ h, add-one)

  pub followers_done : row_count t ≤ k → here ≡ []
  unfolding followers_from
  followers_done h = rw (rows_done t fixed k h)

  pub followers_counts : (count after : ℕ) (new put : List ℕ) → PutIf (may_follow l last k) name count after new put → after ≤ count + 1
  followers_counts count after new put p = put_counts (may_follow l last k) name count after new put p

  go : (b : Bool) (whole : List (List ℕ)) (count after : ℕ) (old new put : List ℕ) → Written whole (cond b (name ∷ later) later) count old new
      → 3 * count + 3 ≤ length new → PutIf b name count after new put → Written whole later after old put
  go true whole count after old new put w room p = rw (p.0, p.1) (written_more whole later name count old new w refl room)
  go false whole count after old new put w room p = rw (p.0, p.1) w

  -- what is written stays right when row k has had its turn
  pub followers_next : k < row_count t → (whole : List (List ℕ)) (count after : ℕ) (old new put : List ℕ) → Written whole here count old new
      → 3 * count + 3 ≤ length new → PutIf (may_follow l last k) name count after new put → Written whole later after old put
  followers_next h whole count after old new put w room p =
      go (may_follow l last k) whole count after old new put
      (subst (λ (x : List (List ℕ)). Written whole x count old new) (followers_here h) w) room p
