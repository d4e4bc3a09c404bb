-- The made file: its records, its length, and what the reader says of it. Assumes nothing.
use Prim.Native.Nat.{ℕ, suc, ◌+◌, ◌-◌, ◌^◌, ◌≤◌, ◌<◌}
use mathlib.Core.Path.{◌≡◌, refl, sym, ap, ◌∙◌}
use mathlib.Core.Bool.{Bool, true, false, not, or-true}
use mathlib.Core.List.{List, [], ◌∷◌, ◌++◌, map, append_assoc}
use native.Mathlib.Omega.{arith}
use lib.ListN.{length, get_or, length-append, length-map}
use lib.Seq.{get_or_at}
use borrow.Author.Tests.{eqb-true, ne_eqb, le-leb}
use Rattle.text.specs.Rules.{must}
use Rattle.record.specs.Records.{records, turned, barred, joined, holds, some_holds, bar}
use Rattle.checksum.specs.Checksum.{checksum_of}
use Rattle.record.proofs.Turned.{turned_length, turned_joined, records_turned}
use Rattle.record.proofs.Cutting.{records_joined, records_free, records_le, joined_append, joined_ended}
use Rattle.layout.specs.Layout.{Layout, may_follow}
use Rattle.flow.specs.Proper.{last_row, ProperFooter}
use Rattle.judge.specs.Record.{last_kind, sum_of, fault}
use Rattle.judge.specs.File.{unplaced, at_record, checked_from, ends_in_feed, ended, finish, judged_by}
use Rattle.fault.specs.Fields.{fine, fault as wrong}
use Rattle.judge.specs.declared.Unplaced.{Unplaced}
use Rattle.std.specs.Prelude.{Result, Ok, Err}
use Rattle.judge.proofs.Files.{last_snoc}
use Rattle.sheet.specs.Sheets.{tab, footer, made}
use Rattle.sheet.specs.Write.{lines_ended}
use Rattle.sheet.specs.Code.{lines_judged}
use Rattle.sheet.proofs.Holding.{none_snoc, records_hold}
use Rattle.sheet.proofs.Lines.{same_checked, same_last, same_sum, checked_snoc}
use Rattle.sheet.proofs.Footers.{foot_free, foot_fault, foot_kind, foot_last, foot_short}

not_feed : tab ≡ 0x0A → ⊥
not_feed e = omega arith

-- a sheet's lines, their tabs turned to bars
sheet_lines : (sheet : List ℕ) → records (turned tab bar sheet) ≡ map (barred tab) (records sheet)
sheet_lines = records_turned tab bar not_feed (λ e. omega arith)

-- the checksum of a made file is that of the lines, their tabs counted as bars
pub sheet_sum : (sheet : List ℕ) → checksum_of (turned tab bar sheet) ≡ sum_of tab (records sheet)
unfolding checksum_of
sheet_sum sheet = rw (sheet_lines sheet)

-- a file ends in a line feed where one was put there
pub ends_so : (s : List ℕ) → ends_in_feed (s ++ 0x0A ∷ []) ≡ true
ends_so s =
    let n : length (s ++ 0x0A ∷ []) - 1 ≡ length s = omega (arith, length-append s (0x0A ∷ [])) in
    rw (n, get_or_at s 0x0A [] 0 (length s) refl)

module _ (sheet : List ℕ) where
  abbrev lines : List (List ℕ)
  lines = records sheet

  abbrev bars : List (List ℕ)
  bars = map (barred tab) (records sheet)

  abbrev foot : List ℕ
  foot = footer (length (records sheet) + 1) (checksum_of (turned tab bar sheet))

  pub made_length : length (made sheet) ≡ length sheet + length foot + 1
  unfolding made
  made_length =
      omega (arith, length-append (turned tab bar sheet ++ foot) (0x0A ∷ []), length-append (turned tab bar sheet) foot, turned_length tab bar sheet)

  pub made_ends : ends_in_feed (made sheet) ≡ true
  unfolding made
  made_ends = ends_so (turned tab bar sheet ++ foot)

-- a sheet whose lines are ended is its lines, joined
pub sheet_joined : (sheet : List ℕ) → lines_ended sheet ≡ true → joined (records sheet) ≡ sheet
unfolding joined records
sheet_joined [] e = refl
sheet_joined (b ∷ s) e =
    let feed : ends_in_feed (b ∷ s) ≡ true = rw (ne_eqb (suc (length s)) 0 (λ q. omega arith)) at e in
    joined_ended (b ∷ s) (omega arith) (eqb-true (get_or (b ∷ s) (length (b ∷ s) - 1) 0) 0x0A feed)

module _ (sheet : List ℕ) (ends : lines_ended sheet ≡ true) where
  pub sheet_turned : turned tab bar sheet ≡ joined (bars sheet)
  sheet_turned =
      ap (barred tab) (sym (sheet_joined sheet ends)) ∙ turned_joined tab bar not_feed (records sheet)

  bars_free : some_holds 0x0A (bars sheet) ≡ false
  bars_free = rw (← sheet_lines sheet) (records_free (turned tab bar sheet))

  -- the records of a made file are the lines, parted by bars, and the footer
  pub records_made : records (made sheet) ≡ bars sheet ++ foot sheet ∷ []
  unfolding made joined
  records_made =
      ap (λ (x : List ℕ). records (x ++ foot sheet ++ 0x0A ∷ [])) sheet_turned
      ∙ ap records (append_assoc (joined (bars sheet)) (foot sheet) (0x0A ∷ []) ∙ sym (joined_append (bars sheet) (foot sheet ∷ [])))
      ∙ records_joined (bars sheet ++ foot sheet ∷ [])
      (none_snoc 0x0A (bars sheet) (foot sheet) bars_free (foot_free (length (records sheet) + 1) (checksum_of (turned tab bar sheet))))

-- what the reader says of it
module _ (l : Layout) (proper : ProperFooter l) (sheet : List ℕ) (short : length sheet ≤ 1048000) (free : holds bar sheet ≡ false)
    (ends : lines_ended sheet ≡ true) (small : checksum_of (turned tab bar sheet) < 2 ^ 32) where
  abbrev n : ℕ
  n = length (records sheet) + 1

  abbrev sum : ℕ
  sum = checksum_of (turned tab bar sheet)

  few : n < 10 ^ 10
  few = omega (arith, records_le sheet)

  sum_few : sum < 10 ^ 10
  sum_few = omega arith

  lines_free : some_holds bar (lines sheet) ≡ false
  lines_free = records_hold bar sheet (λ e. omega arith) ∙ free

  made_short : length (made sheet) ≤ 1048576
  made_short = omega (arith, made_length sheet, foot_short l proper n sum few sum_few)

  bars_count : length (bars sheet) ≡ length (records sheet)
  bars_count = length-map (records sheet) (barred tab)

  fault_made : fault bar l (bars sheet) (foot sheet) ≡ must (may_follow l (last_kind tab l (lines sheet)) (last_row l)) (wrong 5 1) fine
  fault_made =
      foot_fault l proper n sum few sum_few (bars sheet) (ap (λ (m : ℕ). m + 1) (sym bars_count)) (sheet_sum sheet ∙ sym (same_sum l (lines sheet)))
      ∙ ap (λ (k : ℕ). must (may_follow l k (last_row l)) (wrong 5 1) fine) (same_last l (lines sheet) lines_free)

  checked_made : checked_from bar l [] (records (made sheet))
      ≡ finish (checked_from tab l [] (lines sheet)) (at_record n (must (may_follow l (last_kind tab l (lines sheet)) (last_row l)) (wrong 5 1) fine) (Ok n))
  unfolding some_holds
  checked_made =
      ap (checked_from bar l []) (records_made sheet ends) ∙ checked_snoc bar l (foot sheet) [] (bars sheet)
      ∙ rw (bars_count, fault_made, same_checked l [] (lines sheet) refl lines_free)

  end_made : ended l (length (records (made sheet))) (last_kind bar l (records (made sheet))) (ends_in_feed (made sheet)) ≡ Ok n
  unfolding ended
  end_made =
      let many : length (records (made sheet)) ≡ n =
      ap length (records_made sheet ends) ∙ length-append (bars sheet) (foot sheet ∷ []) ∙ ap (λ (m : ℕ). m + 1) bars_count in
      let last : last_kind bar l (records (made sheet)) ≡ last_row l =
      ap (last_kind bar l) (records_made sheet ends) ∙ last_snoc bar l (bars sheet) (foot sheet) ∙ foot_kind l proper n sum few sum_few in
      rw (many, last, made_ends sheet, foot_last l proper n sum few sum_few, or-true (not l.feed))

  settled : (v : Result ℕ Unplaced) (t : Bool) (m : ℕ) → finish (finish v (at_record m (must t (wrong 5 1) fine) (Ok m))) (Ok m) ≡ finish v (must t (Err (unplaced 5 m 1)) (Ok m))
  settled (Ok k) true m = refl
  settled (Ok k) false m = refl
  settled (Err x) t m = refl

  pub made_judged : judged_by l (made sheet) ≡ lines_judged l (records sheet)
  unfolding judged_by lines_judged
  made_judged =
      rw (le-leb (length (made sheet)) 1048576 made_short, checked_made, end_made)
      (settled (checked_from tab l [] (lines sheet)) (may_follow l (last_kind tab l (lines sheet)) (last_row l)) n)
