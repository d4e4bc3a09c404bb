-- What an accepted file is: lines of text characters, so without a tab, and a footer that is the made one. Assumes nothing.
use Prim.Native.Nat.{ℕ, ◌+◌, ◌-◌, ◌≤◌, ◌<◌}
use mathlib.Core.Path.{◌≡◌, refl, sym, ap, ◌∙◌}
use mathlib.Core.Bool.{Bool, true, false, cond, not, false≢true, or-true}
use mathlib.Core.List.{List, [], ◌∷◌, ◌++◌}
use native.Mathlib.Omega.{arith}
use lib.Dec.{eqb, leb}
use lib.ListN.{length, get_or, length-append}
use borrow.Author.Tests.{eqb-true, eqb-false}
use Rattle.text.proofs.Lists.{three_of}
use Rattle.text.specs.Characters.{all, is_digit, is_text}
use Rattle.record.specs.Records.{onto, records, fields, field, turned, joined, holds, some_holds, bar}
use Rattle.checksum.specs.Checksum.{checksum}
use Rattle.record.proofs.Cutting.{neither, records_joined, records_free, joined_ended, joined_not_ended}
use Rattle.record.proofs.Runs.{fields_some}
use Rattle.record.proofs.Turned.{turned_same}
use Rattle.record.proofs.Fields.{field_number}
use Rattle.number.specs.Numbers.{decimal}
use Rattle.number.proofs.Digits.{and_left, and_right}
use Rattle.number.proofs.Spelling.{spelled_is}
use Rattle.layout.specs.Layout.{Rule, Layout, row, is_footer}
use Rattle.flow.specs.Letters.{ZPT}
use Rattle.flow.specs.Proper.{last_row, ProperFooter}
use Rattle.fault.specs.Record.{kind_of}
use Rattle.judge.specs.Record.{last_kind}
use Rattle.judge.specs.File.{checked_from, ends_in_feed}
use Rattle.judge.proofs.RightFields.{FineRecord}
use Rattle.judge.proofs.Passes.{Passes, all_fine, last_closes, last_spells}
use Rattle.sheet.specs.Sheets.{tab, footer, but_last, parted, with_feed}
use Rattle.sheet.proofs.MadeFiles.{ends_so}
use Rattle.sheet.proofs.Characters.{text_record, kind_name, each_text, text_free}

-- the fields of a record with a byte between them are the record, its separators turned to that byte
parted_go : (from to b : ℕ) (fs : List (List ℕ)) (s : List ℕ) (t : Bool) → 0 < length fs → parted to fs ≡ turned from to s
    → parted to (cond t ([] ∷ fs) (onto b fs)) ≡ cond t to b ∷ turned from to s
unfolding parted onto
parted_go from to b [] s t h e = absurd (omega arith)
parted_go from to b (p ∷ fs) s true h e = ap (λ (x : List ℕ). to ∷ x) e
parted_go from to b (p ∷ []) s false h e = ap (λ (x : List ℕ). b ∷ x) e
parted_go from to b (p ∷ q ∷ fs) s false h e = ap (λ (x : List ℕ). b ∷ x) e

pub parted_turned : (from to : ℕ) (r : List ℕ) → parted to (fields from r) ≡ turned from to r
unfolding parted fields turned
parted_turned from to [] = refl
parted_turned from to (b ∷ s) = parted_go from to b (fields from s) s (eqb b from) (fields_some from s) (parted_turned from to s)

parted_fields : (sep : ℕ) (r : List ℕ) → parted sep (fields sep r) ≡ r
parted_fields sep r = parted_turned sep sep r ∙ turned_same sep r

-- the last record of an accepted file is the footer that is made for the records before it
module _ (l : Layout) (proper : ProperFooter l) (f : List ℕ) (n : ℕ) (p : Passes l f n) (before : List (List ℕ)) (r : List ℕ)
    (whole : records f ≡ before ++ r ∷ []) where
  fine : FineRecord l before r
  fine = all_fine l f n p before r [] whole

  kind_is : kind_of bar l r ≡ last_row l
  kind_is =
      sym (eqb-true (last_row l) (kind_of bar l r) (and_right (leb 1 (kind_of bar l r)) (eqb (last_row l) (kind_of bar l r)) (last_closes l f n p before r whole)))

  one : get_or (fields bar r) 0 [] ≡ ZPT
  one = sym (field_number bar 0 r) ∙ sym (kind_name l proper before r fine) ∙ ap (λ (k : ℕ). (row l k).name) kind_is ∙ proper.name

  two : get_or (fields bar r) 1 [] ≡ decimal (length before + 1)
  two = sym (field_number bar 1 r) ∙ spelled_is (length before + 1) (field bar 2 r) (last_spells l f n p before r whole).0

  sum : get_or (fields bar r) 2 [] ≡ decimal (checksum before)
  sum = sym (field_number bar 2 r) ∙ spelled_is (checksum before) (field bar 3 r) (last_spells l f n p before r whole).1

  many : length (fields bar r) ≡ 3
  many = fine.counted ∙ ap (λ (k : ℕ). length (row l k).rules + 1) kind_is ∙ ap (λ (rules : List Rule). length rules + 1) proper.rules

  pub footer_made : r ≡ footer (length before + 1) (checksum before)
  unfolding parted footer
  footer_made =
      sym (parted_fields bar r) ∙ ap (parted bar) (three_of [] (fields bar r) many)
      ∙ (λ i. parted bar (one i ∷ two i ∷ sum i ∷ []))

-- the last of some records, and those before it
last_of : List (List ℕ) → List ℕ
last_of [] = []
last_of (r ∷ []) = r
last_of (r ∷ q ∷ rs) = last_of (q ∷ rs)

last_split : (rs : List (List ℕ)) → 0 < length rs → rs ≡ but_last rs ++ last_of rs ∷ []
unfolding but_last last_of
last_split [] h = absurd (omega arith)
last_split (r ∷ []) h = refl
last_split (r ∷ q ∷ rs) h = ap (λ (x : List (List ℕ)). r ∷ x) (last_split (q ∷ rs) (omega arith))

all_front : (test : List ℕ → Bool) (ps : List (List ℕ)) (q : List ℕ) → all test (ps ++ q ∷ []) ≡ true → all test ps ≡ true
all_front test [] q h = refl
all_front test (p ∷ ps) q h =
    rw (and_left (test p) (all test (ps ++ q ∷ [])) h) (all_front test ps q (and_right (test p) (all test (ps ++ q ∷ [])) h))

pub none_front : (b : ℕ) (ps : List (List ℕ)) (q : List ℕ) → some_holds b (ps ++ q ∷ []) ≡ false → some_holds b ps ≡ false
unfolding some_holds
none_front b [] q h = refl
none_front b (p ∷ ps) q h =
    let n = neither (holds b p) (some_holds b (ps ++ q ∷ [])) h in
    rw n.0 (none_front b ps q n.1)

some_record : (l : Layout) (rs : List (List ℕ)) → is_footer l (last_kind bar l rs) ≡ true → 0 < length rs
unfolding last_kind
some_record l [] e = absurd (false≢true e)
some_record l (r ∷ rs) e = omega arith

-- an accepted file: its lines are of text characters, so hold no tab, and its last record is the footer that is made for them
module _ (l : Layout) (proper : ProperFooter l) (f : List ℕ) (n : ℕ) (p : Passes l f n) where
  abbrev lines : List (List ℕ)
  lines = but_last (records f)

  split : records f ≡ lines ++ last_of (records f) ∷ []
  split = last_split (records f) (some_record l (records f) p.closes)

  -- of text characters
  pub lines_text : all text_record lines ≡ true
  lines_text = all_front text_record lines (last_of (records f)) (ap (all text_record) (sym split) ∙ each_text l proper [] (records f) (all_fine l f n p))

  pub lines_no_tab : some_holds tab lines ≡ false
  unfolding is_text is_digit
  lines_no_tab = text_free tab refl (λ e. omega arith) lines lines_text

  pub records_split : records f ≡ lines ++ footer (length lines + 1) (checksum lines) ∷ []
  records_split = split ∙ ap (λ (r : List ℕ). lines ++ r ∷ []) (footer_made l proper f n p lines (last_of (records f)) split)

-- a file that is not empty, with its last line feed, is its records joined
feed_go : (f : List ℕ) (t : Bool) → ends_in_feed f ≡ t → 0 < length f → joined (records f) ≡ cond t f (f ++ 0x0A ∷ [])
feed_go f true e h = joined_ended f h (eqb-true (get_or f (length f - 1) 0) 0x0A e)
feed_go f false e h = joined_not_ended f h (eqb-false (get_or f (length f - 1) 0) 0x0A e)

pub feed_joined : (f : List ℕ) → 0 < length f → joined (records f) ≡ with_feed f
unfolding with_feed
feed_joined f h = feed_go f (ends_in_feed f) refl h

ends_go : (f : List ℕ) (t : Bool) → ends_in_feed f ≡ t → ends_in_feed (cond t f (f ++ 0x0A ∷ [])) ≡ true
ends_go f true e = e
ends_go f false e = ends_so f

long_go : (f : List ℕ) (t : Bool) → length (cond t f (f ++ 0x0A ∷ [])) ≤ length f + 1
long_go f true = omega arith
long_go f false = omega (arith, length-append f (0x0A ∷ []))

pub feed_long : (f : List ℕ) → length (with_feed f) ≤ length f + 1
unfolding with_feed
feed_long f = long_go f (ends_in_feed f)

-- with its last line feed it is accepted all the more
pub feed_passes : (l : Layout) (f : List ℕ) (n : ℕ) → 0 < length f → length f + 1 ≤ 1048576 → Passes l f n → Passes l (with_feed f) n
unfolding with_feed
feed_passes l f n some short p =
    let same : records (with_feed f) ≡ records f = ap records (sym (feed_joined f some)) ∙ records_joined (records f) (records_free f) in
    record {
      limit = omega (arith, feed_long f);
      last = p.last;
      checked = ap (checked_from bar l []) same ∙ p.checked;
      closes = ap (λ (rs : List (List ℕ)). is_footer l (last_kind bar l rs)) same ∙ p.closes;
      feed = rw (ends_go f (ends_in_feed f) refl) (or-true (not l.feed));
      count = ap length same ∙ p.count;
    }
