-- A file read record by record: the rows among the records read, and what the code tells of them. Assumes nothing.
use Prim.Native.Nat.{ℕ, zero, suc, ◌+◌, ◌-◌, ◌≤◌, ◌<◌}
use mathlib.Core.Path.{◌≡◌, refl, sym, ap, ◌∙◌}
use mathlib.Core.Bool.{Bool, true, false, cond, ◌&&◌}
use mathlib.Core.List.{List, [], ◌∷◌, ◌++◌, append_assoc, append-nil}
use native.Mathlib.Decide.{ℕ_discrete, dec_lt}
use native.Mathlib.Omega.{arith}
use lib.Dec.{eqb}
use lib.ListN.{length, take, drop, get_or, length-append}
use borrow.Author.Tests.{eq-eqb, ne_eqb, le-leb, lt-leb}
use Rattle.std.specs.Prelude.{Some, None}
use Rattle.record.specs.declared.Span.{Span}
use Rattle.record.specs.Records.{records, fields, field, extent}
use Rattle.record.specs.Step.{IsRecord}
use Rattle.record.proofs.Cursors.{records_end, part_length}
use Rattle.record.proofs.Search.{extent_snoc}
use Rattle.flow.specs.Publication.{Flow}
use Rattle.resubmission.specs.Rows.{Pair, Row, row, is_sb1, is_subject, is_of_group, last_sb1, under_subject, rows_from, rows_in, row_at}
use Rattle.resubmission.specs.Code.{span_of, nth_of, told_of, one_more}
use Rattle.resubmission.specs.declared.Rows.{Rows}

-- the last SB1 with one record more: that record, where it is one
pub last_snoc : (s : List ℕ) (before : List (List ℕ)) (r : List ℕ) → last_sb1 s (before ++ r ∷ []) ≡ cond (is_sb1 r) r (last_sb1 s before)
unfolding last_sb1
last_snoc s [] r = refl
last_snoc s (q ∷ before) r = last_snoc (cond (is_sb1 q) q s) before r

-- one row more in front, or none
in_front : (t : Bool) (x : Row) (a b : List Row) → cond t (x ∷ (a ++ b)) (a ++ b) ≡ cond t (x ∷ a) a ++ b
in_front true x a b = refl
in_front false x a b = refl

-- a test of either of two
either : (test : List ℕ → Bool) (t : Bool) (r s : List ℕ) → cond t (test r) (test s) ≡ test (cond t r s)
either test true r s = refl
either test false r s = refl

module _ (flow : Flow) (p : Pair) where
  -- the rows of some records and then of those behind them
  pub rows_append : (before rs more : List (List ℕ)) → rows_from flow p before (rs ++ more) ≡ rows_from flow p before rs ++ rows_from flow p (before ++ rs) more
  unfolding rows_from
  rows_append before [] more = ap (λ (b : List (List ℕ)). rows_from flow p b more) (sym (append-nil before))
  rows_append before (r ∷ rs) more =
      let rest = rows_append (before ++ r ∷ []) rs more
      ∙ ap (λ (b : List (List ℕ)). rows_from flow p (before ++ r ∷ []) rs ++ rows_from flow p b more) (append_assoc before (r ∷ []) rs) in
      ap (λ (l : List Row). cond (under_subject flow p before && is_of_group p.group r) (row (extent before) r ∷ l) l) rest
      ∙ in_front (under_subject flow p before && is_of_group p.group r) (row (extent before) r) (rows_from flow p (before ++ r ∷ []) rs) (rows_from flow p (before ++ r ∷ rs) more)

  -- under the subject, with one record more: an SB1 decides anew
  pub under_snoc : (before : List (List ℕ)) (r : List ℕ)
      → cond (is_sb1 r) (is_subject flow p.id p.date r) (under_subject flow p before) ≡ under_subject flow p (before ++ r ∷ [])
  under_snoc before r =
      either (is_subject flow p.id p.date) (is_sb1 r) r (last_sb1 [] before) ∙ sym (ap (is_subject flow p.id p.date) (last_snoc [] before r))

-- row n, with one row more
abbrev none : Row
none = row 0 []

new_row : (rows : List Row) (x : Row) (i : ℕ) → length rows ≡ i → get_or (rows ++ x ∷ []) i none ≡ x
new_row [] x zero e = refl
new_row [] x (suc i) e = absurd (omega (arith, e))
new_row (r ∷ rows) x zero e = absurd (omega (arith, e))
new_row (r ∷ rows) x (suc i) e = new_row rows x i (omega (arith, e))

old_row : (rows : List Row) (x : Row) (i : ℕ) → (length rows ≡ i → ⊥) → get_or (rows ++ x ∷ []) i none ≡ get_or rows i none
old_row [] x zero e = absurd (e refl)
old_row [] x (suc i) e = refl
old_row (r ∷ rows) x zero e = refl
old_row (r ∷ rows) x (suc i) e = old_row rows x i (λ h. e (omega (arith, h)))

row_snoc : (rows : List Row) (x : Row) (n : ℕ) → row_at (rows ++ x ∷ []) n ≡ cond (eqb (length rows + 1) n) x (row_at rows n)
unfolding row_at
row_snoc rows x zero = rw (ne_eqb (length rows + 1) 0 (λ e. omega (arith, e)))
row_snoc rows x (suc i) = by (ℕ_discrete (length rows) i)
  where
    by : Dec (length rows ≡ i) → get_or (rows ++ x ∷ []) i none ≡ cond (eqb (length rows + 1) (suc i)) x (get_or rows i none)
    by (yes e) = rw (eq-eqb (length rows + 1) (suc i) (omega (arith, e))) (new_row rows x i e)
    by (no e) = rw (ne_eqb (length rows + 1) (suc i) (λ h. e (omega (arith, h)))) (old_row rows x i e)

-- where row n stands, with one row more
nth_snoc : (rows : List Row) (x : Row) (n : ℕ) → cond (eqb (length rows + 1) n) (Some (span_of x)) (nth_of rows n) ≡ nth_of (rows ++ x ∷ []) n
nth_snoc rows x n = by (ℕ_discrete (length rows + 1) n) (dec_lt (length rows + 1) n) (dec_lt 0 n)
  where
    long : length (rows ++ x ∷ []) ≡ length rows + 1
    long = length-append rows (x ∷ [])

    by : Dec (length rows + 1 ≡ n) → Dec (length rows + 1 < n) → Dec (0 < n) → cond (eqb (length rows + 1) n) (Some (span_of x)) (nth_of rows n) ≡ nth_of (rows ++ x ∷ []) n
    by (yes e) over some =
        rw (row_snoc rows x n, eq-eqb (length rows + 1) n e, le-leb 1 n (omega arith), le-leb n (length (rows ++ x ∷ [])) (omega (arith, long, e)))
    by (no e) (yes over) some =
        rw (ne_eqb (length rows + 1) n e, le-leb 1 n (omega arith), lt-leb n (length rows) (omega arith), lt-leb n (length (rows ++ x ∷ [])) (omega (arith, long)))
    by (no e) (no over) (yes some) =
        rw (row_snoc rows x n, ne_eqb (length rows + 1) n e, le-leb 1 n (omega arith), le-leb n (length rows) (omega arith), le-leb n (length (rows ++ x ∷ [])) (omega (arith, long)))
    by (no e) (no over) (no none-asked) = rw (ne_eqb (length rows + 1) n e, lt-leb 1 n (omega arith))

-- what is told, with one row more
told_snoc : (rows : List Row) (x : Row) (n : ℕ) → one_more (told_of rows n) n (span_of x) ≡ told_of (rows ++ x ∷ []) n
unfolding one_more
told_snoc rows x n = λ i. record { number = sym (length-append rows (x ∷ [])) i; nth = nth_snoc rows x n i }

-- or with none
tell_by : (t : Bool) (rows : List Row) (x : Row) (n : ℕ)
    → cond t (one_more (told_of rows n) n (span_of x)) (told_of rows n) ≡ told_of (rows ++ cond t (x ∷ []) []) n
tell_by true rows x n = told_snoc rows x n
tell_by false rows x n = ap (λ (l : List Row). told_of l n) (sym (append-nil rows))

few_by : (t : Bool) (told : Rows) (n : ℕ) (s : Span) (k : ℕ) → told.number ≤ k → (cond t (one_more told n s) told).number ≤ k + 1
unfolding one_more
few_by true told n s k h = omega (arith, h)
few_by false told n s k h = omega (arith, h)

-- a record under the subject and of the group is a row more; any other is none
module _ (u g : Bool) (more rows : Rows) where
  pub row_more : u ≡ true → g ≡ true → more ≡ cond (u && g) more rows
  row_more e f = rw (e, f)

  pub other_subject : u ≡ false → rows ≡ cond (u && g) more rows
  other_subject e = rw e

  pub other_group : u ≡ true → g ≡ false → rows ≡ cond (u && g) more rows
  other_group e f = rw (e, f)

-- what the reading keeps: the records read, whether they end under the subject, and what is told of their rows
pub record Reading (flow : Flow) (p : Pair) (f : List ℕ) (n at : ℕ) (under : Bool) (told : Rows) : Type 0 where
  pub before : List (List ℕ)
  pub every : before ++ records (drop at f) ≡ records f
  pub place : 0 < length (records (drop at f)) → at ≡ extent before
  pub is_under : under ≡ under_subject flow p before
  pub tells : told ≡ told_of (rows_from flow p [] before) n
  pub few : told.number ≤ at

module _ (flow : Flow) (p : Pair) (f : List ℕ) (n : ℕ) where
  pub from_start : Reading flow p f n 0 false (record { number = 0; nth = None })
  unfolding last_sb1 field fields rows_from row_at extent
  from_start = record { before = []; every = refl; place = λ _. refl; is_under = refl; tells = at_zero n; few = omega arith }
    where
      at_zero : (k : ℕ) → record { number = 0; nth = None } ≡ told_of [] k
      at_zero zero = refl
      at_zero (suc i) = rw (le-leb 1 (suc i) (omega arith), lt-leb (suc i) 0 (omega arith))

  module _ (at : ℕ) (under : Bool) (told : Rows) (x : Reading flow p f n at under told) where
    -- no records are left
    pub all_read : records (drop at f) ≡ [] → told ≡ told_of (rows_in flow p f) n
    all_read e =
        let all : x.before ≡ records f = sym (append-nil x.before) ∙ ap (λ (l : List (List ℕ)). x.before ++ l) (sym e) ∙ x.every in
        x.tells ∙ ap (λ (l : List (List ℕ)). told_of (rows_from flow p [] l) n) all

    module _ {a e m : ℕ} (y : IsRecord f at a e m) where
      abbrev r : List ℕ
      r = take (e - a) (drop a f)

      abbrev rest : List (List ℕ)
      rest = records (drop m f)

      long : length r ≡ e - a
      long = part_length f a e y.ordered y.within

      some : 0 < length (records (drop at f))
      some = omega (arith, ap length y.splits)

      behind : Dec (m < length f) → 0 < length rest → m ≡ extent (x.before ++ r ∷ [])
      behind (yes l) h = omega (arith, y.past l, y.starts, y.ordered, long, extent_snoc x.before r, x.place some)
      behind (no l) h = absurd (omega (arith, ap length (records_end f m (omega arith)), h))

      starts : a ≡ extent x.before
      starts = y.starts ∙ x.place some

      ends : e ≡ extent x.before + length r
      ends = omega (arith, starts, long, y.ordered)

      abbrev rows : List Row
      rows = rows_from flow p [] x.before

      more : rows ++ cond (under_subject flow p x.before && is_of_group p.group r) (row (extent x.before) r ∷ []) [] ≡ rows_from flow p [] (x.before ++ r ∷ [])
      unfolding rows_from
      more = sym (rows_append flow p [] x.before (r ∷ []))

      -- one record more is read
      pub one_read : (t : Rows) → t ≡ cond (under && is_of_group p.group r) (one_more told n (record { start = a; end = e })) told
          → (u : Bool) → u ≡ cond (is_sb1 r) (is_subject flow p.id p.date r) under → Reading flow p f n m u t
      one_read t is u now =
          record {
            before = x.before ++ r ∷ [];
            every = append_assoc x.before (r ∷ []) rest ∙ ap (λ (l : List (List ℕ)). x.before ++ l) (sym y.splits) ∙ x.every;
            place = behind (dec_lt m (length f));
            is_under =
                now ∙ ap (cond (is_sb1 r) (is_subject flow p.id p.date r)) x.is_under ∙ under_snoc flow p x.before r;
            tells =
                is
                ∙ (λ i. cond (x.is_under i && is_of_group p.group r) (one_more (x.tells i) n (record { start = starts i; end = ends i })) (x.tells i))
                ∙ tell_by (under_subject flow p x.before && is_of_group p.group r) rows (row (extent x.before) r) n
                ∙ ap (λ (l : List Row). told_of l n) more;
            few =
                let fewer = few_by (under && is_of_group p.group r) told n (record { start = a; end = e }) at x.few in
                omega (arith, ap (λ (k : Rows). k.number) is, fewer, y.onward);
          }
