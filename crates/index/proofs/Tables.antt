-- The kinds that an index goes by are those of the table that is lent: fixed values have no part in them. Assumes nothing.
use Prim.Native.Nat.{ℕ, zero, suc, ◌+◌, ◌≤◌}
use mathlib.Core.Path.{◌≡◌, refl, sym, ap, ◌∙◌, subst}
use mathlib.Core.Bool.{Bool, false, ◌||◌}
use mathlib.Core.List.{List, [], ◌∷◌, map}
use native.Mathlib.Omega.{arith}
use lib.ListN.{length, get_or, drop, length-map, length-drop, drop_of_length-le, get_or-map}
use lib.Seq.{drop-cons}
use native.Mathlib.Numerals.{add-one}
use lib.Dec.{eqb}
use Rattle.std.proofs.Common.{nat_eq}
use Rattle.std.specs.List.{list_any, range_with_len}
use borrow.Author.Tests.{le-leb, lt-leb}
use Rattle.record.specs.Records.{bar}
use Rattle.layout.specs.Layout.{KindRow, row, blank, find}
use Rattle.layout.specs.Numbers.{each, row_of, row_count, layout_of}
use Rattle.layout.proofs.Each.{each_at}
use Rattle.layout.proofs.Rows.{rows_length}
use Rattle.place.specs.declared.Refusal.{Refusal}
use Rattle.flow.specs.Publication.{Flow, layout_for}
use Rattle.flow.specs.Editions.{Asked, a_flow, no_flow}
use Rattle.fault.specs.Record.{kind_of}
use Rattle.index.specs.Entries.{Kinds, kinds_by, kind_in, head_of, some_is, may_head}
use Rattle.index.specs.Code.{kinds_in, heads_of, HasKinds}

-- a row's name and head
abbrev name_in : KindRow → List ℕ
name_in r = r.name

abbrev head_in : KindRow → ℕ
head_in r = r.head

-- rows that differ in their rules alone have the same names and heads
module _ {A : Type 0} (part : KindRow → A) (t b c : List ℕ) (same : (k : ℕ) → part (row_of t b k) ≡ part (row_of t c k)) where
  pub rows_alike : (i n : ℕ) → map part (each (row_of t b) i n) ≡ map part (each (row_of t c) i n)
  unfolding each
  rows_alike i zero = refl
  rows_alike i (suc n) = λ j. same i j ∷ rows_alike (suc i) n j

  pub rest_alike : (n : ℕ) → map part (drop 1 (each (row_of t b) 0 n)) ≡ map part (drop 1 (each (row_of t c) 0 n))
  unfolding each
  rest_alike zero = refl
  rest_alike (suc n) = rows_alike 1 n

-- kinds of these names and heads
abbrev of : List (List ℕ) → List ℕ → Kinds
of names heads = record { names = names; heads = heads }

pub unfixed : (t fixed : List ℕ) → kinds_in t ≡ kinds_by (layout_of t fixed)
unfolding kinds_by layout_of row_of
unfixed t fixed =
    let names = rest_alike name_in t [] fixed (λ k. refl) (row_count t) in
    let heads = rows_alike head_in t [] fixed (λ k. refl) 0 (row_count t) in
    λ i. of (names i) (heads i)

-- the kinds of the flow that is asked for, where one is
module _ (a : Asked) where
  pub no_kinds : (ks : Kinds) (r : Refusal) → no_flow r ≡ a → HasKinds a ks
  no_kinds ks r e = subst (λ (x : Asked). HasKinds x ks) e tt

  pub flow_kinds : (fl : Flow) → a_flow fl ≡ a → (t fixed : List ℕ) → layout_of t fixed ≡ layout_for fl → HasKinds a (kinds_in t)
  flow_kinds fl e t fixed is = subst (λ (x : Asked). HasKinds x (kinds_in t)) e (unfixed t fixed ∙ ap kinds_by is)

module _ (t : List ℕ) where
  -- the kind that the code finds
  pub kind_found : (r : List ℕ) → kind_of bar (layout_of t []) r ≡ kind_in (kinds_in t) r
  unfolding kinds_by find
  kind_found r = refl

  -- the head that the code reads
  pub head_read : (k : ℕ) → (row (layout_of t []) k).head ≡ head_of (kinds_in t) k
  unfolding kinds_by
  head_read k = sym (get_or-map head_in (layout_of t []).rows k blank)

  pub heads_length : length (kinds_in t).heads ≡ row_count t
  unfolding kinds_by
  heads_length = length-map (layout_of t []).rows head_in ∙ rows_length t []

  -- a table has at most 32 kinds
  pub few_kinds : length (kinds_in t).names ≤ 32
  unfolding kinds_by
  few_kinds =
      omega (arith, length-map (drop 1 (layout_of t []).rows) name_in, length-drop 1 (layout_of t []).rows, rows_length t [])

-- the search for a kind that stands within kind k
module _ (ks : Kinds) (k : ℕ) where
  pub none_within_nothing : k ≡ 0 → false ≡ may_head ks k
  unfolding may_head
  none_within_nothing e = rw (lt-leb 1 k (omega (arith, e)))

  -- some of n heads from i on is k, however a head is read
  module _ (head : ℕ → ℕ) (is : (j : ℕ) → head j ≡ head_of ks j) where
    pub heads_from : (i n : ℕ) → i + n ≡ length ks.heads → list_any (λ j. nat_eq (head j) k) (range_with_len i n) ≡ some_is k (drop i ks.heads)
    unfolding some_is
    heads_from i zero e = rw (drop_of_length-le ks.heads {i = i} (omega (arith, e))) refl
    heads_from i (suc n) e =
        rw (drop-cons ks.heads i 0 (omega (arith, e)))
        (λ j. eqb (is i j) k || (heads_from (i + 1) n (omega (arith, e)) ∙ ap (λ (m : ℕ). some_is k (drop m ks.heads)) (add-one i)) j)

    pub some_within : 1 ≤ k → (n : ℕ) → n ≡ length ks.heads → list_any (λ j. nat_eq (head j) k) (range_with_len 0 n) ≡ may_head ks k
    unfolding may_head
    some_within h n e = rw (le-leb 1 k h) (heads_from 0 n (omega (arith, e)))

-- the list of the kinds that may have children, at one of them
pub head_listed : (ks : Kinds) (heads : List Bool) (k : ℕ) → heads ≡ heads_of ks → k ≤ 32 → get_or heads k false ≡ may_head ks k
head_listed ks heads k e h = ap (λ (bs : List Bool). get_or bs k false) e ∙ each_at (may_head ks) false 33 k (omega (arith, h))
