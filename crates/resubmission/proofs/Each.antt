-- The rows of a file: each is a record of the pair, each record of the pair is one, and they stand in the file's order. Assumes nothing.
use Prim.Native.Nat.{ℕ, zero, suc, ◌≤◌, ◌<◌}
use mathlib.Core.Path.{◌≡◌, refl, sym, ap, ◌∙◌}
use mathlib.Core.Bool.{Bool, true, false, cond, ◌&&◌}
use mathlib.Core.List.{List, [], ◌∷◌, ◌++◌, append_assoc}
use native.Mathlib.Decide.{dec_lt}
use native.Mathlib.Omega.{arith}
use lib.ListN.{length, get_or, length-append, get_or-eq_default}
use lib.Seq.{get_or-append_seam}
use Rattle.text.specs.Order.{same_bytes}
use Rattle.record.specs.Records.{records, field, extent, bar}
use Rattle.record.proofs.Search.{extent_snoc}
use Rattle.flow.specs.Letters.{CM1}
use Rattle.flow.specs.Publication.{Flow}
use Rattle.judge.specs.Right.{kind_in}
use Rattle.resubmission.specs.Rows.{Pair, Row, row, end_of, is_of_group, under_subject, rows_from, rows_in, row_at}
use Rattle.resubmission.specs.Plain.{OfPair}
use Rattle.resubmission.proofs.Reading.{rows_append}
use Rattle.resubmission.proofs.Subjects.{both, same, is_same, under_plainly, is_under}
use Rattle.resubmission.proofs.Standing.{lies_there}

abbrev none : Row
none = row 0 []

module _ (flow : Flow) (p : Pair) where
  -- a record passes both tests
  abbrev is_row : List (List ℕ) → List ℕ → Bool
  is_row before r = under_subject flow p before && is_of_group p.group r

  module _ (f : List ℕ) where
    -- each of some rows is a record of the pair
    abbrev Each : List Row → Type 0
    Each rows = (i : ℕ) → i < length rows → OfPair flow p f (get_or rows i none)

    here : (before : List (List ℕ)) (r : List ℕ) (rs : List (List ℕ)) → records f ≡ before ++ r ∷ rs → is_row before r ≡ true → OfPair flow p f (row (extent before) r)
    here before r rs e t =
        let tests = both (under_subject flow p before) (is_of_group p.group r) t in
        let group = both (same_bytes CM1 (kind_in r)) (same_bytes p.group (field bar 2 r)) tests.1 in
        record {
          before = before;
          after = rs;
          stands = e;
          starts = refl;
          kind = same CM1 (kind_in r) group.0;
          group = same p.group (field bar 2 r) group.1;
          under = under_plainly flow p before tests.0;
        }

    one_more_lem : (before : List (List ℕ)) (r : List ℕ) (rs : List (List ℕ)) → records f ≡ before ++ r ∷ rs → (t : Bool) → is_row before r ≡ t → (rows : List Row) → Each rows
        → Each (cond t (row (extent before) r ∷ rows) rows)
    one_more_lem before r rs e true t rows rest zero h = here before r rs e t
    one_more_lem before r rs e true t rows rest (suc i) h = rest i (omega (arith, h))
    one_more_lem before r rs e false t rows rest i h = rest i h

    each_from : (before rs : List (List ℕ)) → records f ≡ before ++ rs → Each (rows_from flow p before rs)
    unfolding rows_from
    each_from before [] e = λ i h. absurd (omega (arith, h))
    each_from before (r ∷ rs) e =
        one_more_lem before r rs e (is_row before r) refl (rows_from flow p (before ++ r ∷ []) rs)
        (each_from (before ++ r ∷ []) rs (e ∙ sym (append_assoc before (r ∷ []) rs)))

    pub each_row : (n : ℕ) → 1 ≤ n → n ≤ length (rows_in flow p f) → OfPair flow p f (row_at (rows_in flow p f) n)
    unfolding row_at
    each_row zero l h = absurd (omega (arith, l))
    each_row (suc i) l h = each_from [] (records f) refl i (omega (arith, h))

    -- each record of the pair is a row: its number is one more than the rows of the records before it
    pub every_record : (r : Row) → OfPair flow p f r → (n : ℕ) × (1 ≤ n) × (n ≤ length (rows_in flow p f)) × (row_at (rows_in flow p f) n ≡ r)
    unfolding rows_from row_at
    every_record r x =
        let rows = rows_from flow p [] x.before in
        let is : is_row x.before r.bytes ≡ true =
        rw (
          is_under flow p x.before x.under,
          is_same CM1 (kind_in r.bytes) x.kind,
          is_same p.group (field bar 2 r.bytes) x.group,
        ) in
        let more = rows_from flow p (x.before ++ r.bytes ∷ []) x.after in
        let split : rows_in flow p f ≡ rows ++ row (extent x.before) r.bytes ∷ more =
        ap (rows_from flow p []) x.stands
        ∙ rows_append flow p [] x.before (r.bytes ∷ x.after)
        ∙ ap (λ (t : Bool). rows ++ cond t (row (extent x.before) r.bytes ∷ more) more) is in
        let long = ap length split ∙ length-append rows (row (extent x.before) r.bytes ∷ more) in (
          suc (length rows),
          omega arith,
          omega (arith, long),
          ap (λ (l : List Row). get_or l (length rows) none) split
              ∙ get_or-append_seam rows (row (extent x.before) r.bytes) more none
              ∙ (λ i. row (sym x.starts i) r.bytes),
        )

    -- a row lies in its file
    pub row_within : (n : ℕ) → end_of (row_at (rows_in flow p f) n) ≤ length f
    unfolding row_at
    row_within n = by (dec_lt (length (rows_in flow p f)) n) n refl
      where
        by : Dec (length (rows_in flow p f) < n) → (m : ℕ) → n ≡ m → end_of (row_at (rows_in flow p f) n) ≤ length f
        by over zero e = rw e (omega arith)
        by (yes over) (suc i) e = rw (e, get_or-eq_default (rows_in flow p f) none {n = i} (omega (arith, over, e))) (omega arith)
        by (no over) (suc i) e =
            let x = each_row n (omega (arith, e)) (omega (arith, over)) in
            omega (arith, x.starts, (lies_there f x.before (row_at (rows_in flow p f) n).bytes x.after x.stands).within)

  -- rows start at the records behind those given, and one after the other
  abbrev From : ℕ → List Row → Type 0
  From least rows = (i : ℕ) → i < length rows → least ≤ (get_or rows i none).start

  abbrev Rise : List Row → Type 0
  Rise rows = (i j : ℕ) → i < j → j < length rows → (get_or rows i none).start < (get_or rows j none).start

  later : (before : List (List ℕ)) (r : List ℕ) (t : Bool) (rows : List Row) → From (extent (before ++ r ∷ [])) rows → From (extent before) (cond t (row (extent before) r ∷ rows) rows)
  later before r true rows l zero h = omega arith
  later before r true rows l (suc i) h = omega (arith, l i (omega (arith, h)), extent_snoc before r)
  later before r false rows l i h = omega (arith, l i h, extent_snoc before r)

  rising : (before : List (List ℕ)) (r : List ℕ) (t : Bool) (rows : List Row) → From (extent (before ++ r ∷ [])) rows → Rise rows → Rise (cond t (row (extent before) r ∷ rows) rows)
  rising before r true rows l u zero zero h k = absurd (omega (arith, h))
  rising before r true rows l u zero (suc j) h k = omega (arith, l j (omega (arith, k)), extent_snoc before r)
  rising before r true rows l u (suc i) zero h k = absurd (omega (arith, h))
  rising before r true rows l u (suc i) (suc j) h k = u i j (omega (arith, h)) (omega (arith, k))
  rising before r false rows l u i j h k = u i j h k

  from_there : (before rs : List (List ℕ)) → From (extent before) (rows_from flow p before rs) × Rise (rows_from flow p before rs)
  unfolding rows_from
  from_there before [] = (λ i h. absurd (omega (arith, h)), λ i j h k. absurd (omega (arith, k)))
  from_there before (r ∷ rs) =
      let rest = from_there (before ++ r ∷ []) rs in
      let rows = rows_from flow p (before ++ r ∷ []) rs in
      (later before r (is_row before r) rows rest.0, rising before r (is_row before r) rows rest.0 rest.1)

  -- the rows of a file stand in its order
  pub in_order_lem : (f : List ℕ) (n m : ℕ) → 1 ≤ n → n < m → m ≤ length (rows_in flow p f) → (row_at (rows_in flow p f) n).start < (row_at (rows_in flow p f) m).start
  unfolding row_at
  in_order_lem f zero m l h k = absurd (omega (arith, l))
  in_order_lem f (suc i) zero l h k = absurd (omega (arith, h))
  in_order_lem f (suc i) (suc j) l h k = (from_there [] (records f)).1 i j (omega (arith, h)) (omega (arith, k))
