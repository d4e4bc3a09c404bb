-- What is said of a sheet, test by test: by its lines, and then in the writer's order. Assumes nothing.
use Prim.Native.Nat.{ℕ, ◌+◌, ◌^◌, ◌≤◌, ◌<◌}
use mathlib.Core.Path.{◌≡◌, sym, ap, ◌∙◌}
use mathlib.Core.Bool.{true, false}
use mathlib.Core.List.{List, []}
use native.Mathlib.Omega.{arith}
use lib.ListN.{length}
use borrow.Author.Tests.{le-leb, lt-leb}
use Rattle.std.specs.Prelude.{Result, Ok, Err}
use Rattle.record.specs.Records.{records, turned, holds, Bytes, bar}
use Rattle.checksum.specs.Checksum.{checksum_of}
use Rattle.checksum.proofs.Sums.{checksum_of_lt}
use Rattle.record.proofs.Cutting.{records_le}
use Rattle.record.proofs.Turned.{turned_bytes}
use Rattle.place.specs.Places.{place_at, refusal_at}
use Rattle.layout.specs.Layout.{Layout, may_follow}
use Rattle.flow.specs.Proper.{last_row, ProperFooter}
use Rattle.judge.specs.Record.{last_kind, sum_of}
use Rattle.judge.specs.Code.{summary}
use Rattle.judge.specs.File.{unplaced, checked_from, judged_by}
use Rattle.fault.specs.declared.State.{State}
use Rattle.judge.specs.declared.Unplaced.{Unplaced}
use Rattle.sheet.specs.Sheets.{tab, made, bar_line}
use Rattle.sheet.specs.Write.{lines_ended, fitted, written_by}
use Rattle.sheet.specs.Code.{lines_judged, Totals, LinesRight, MadeRight}
use Rattle.sheet.specs.declared.Made.{Made}
use Rattle.sheet.proofs.MadeFiles.{sheet_sum, made_judged}

-- the lines of a sheet
module _ (l : Layout) (sheet : List ℕ) where
  pub lines_stopped : (x : Unplaced) → checked_from tab l [] (records sheet) ≡ Err x → lines_judged l (records sheet) ≡ Err x
  unfolding lines_judged
  lines_stopped x e = rw e

  module _ (st : State) (is : st ≡ summary tab l (records sheet)) where
    count_is : st.count ≡ length (records sheet)
    unfolding summary
    count_is = ap (λ (s : State). s.count) is

    last_is : st.last ≡ last_kind tab l (records sheet)
    unfolding summary
    last_is = ap (λ (s : State). s.last) is

    sum_is : st.sum ≡ sum_of tab (records sheet)
    unfolding summary
    sum_is = ap (λ (s : State). s.sum) is

    pub lines_few : length sheet ≤ 1048000 → st.count ≤ 1048000
    lines_few h = omega (arith, count_is, records_le sheet)

    module _ (k m : ℕ) (through : checked_from tab l [] (records sheet) ≡ Ok m) (last : k ≡ last_row l) where
      follows_is : may_follow l (last_kind tab l (records sheet)) (last_row l) ≡ may_follow l st.last k
      follows_is = λ i. may_follow l (sym last_is i) (sym last i)

      pub lines_no_footer : may_follow l st.last k ≡ false → lines_judged l (records sheet) ≡ Err (unplaced 5 (st.count + 1) 1)
      unfolding lines_judged
      lines_no_footer e = rw (through, follows_is, e, count_is)

      pub lines_right : may_follow l st.last k ≡ true → (lines_judged l (records sheet) ≡ Ok (st.count + 1)) × Totals sheet (st.count + 1) st.sum
      unfolding lines_judged
      lines_right e = (
        rw (through, follows_is, e, count_is),
        record { count = ap (λ (n : ℕ). n + 1) count_is; total = sum_is ∙ sym (sheet_sum sheet) },
      )

-- the writer's tests, one after the other
module _ (l : Layout) (sheet : List ℕ) where
  pub sheet_long : 1048000 < length sheet → (room : ℕ) → written_by l sheet room ≡ Err (refusal_at tab sheet 2 0 0)
  unfolding written_by place_at
  sheet_long h room = rw (lt-leb (length sheet) 1048000 h)

  module _ (short : length sheet ≤ 1048000) where
    pub sheet_bar : holds bar sheet ≡ true → (room : ℕ) → written_by l sheet room ≡ Err (refusal_at tab sheet 16 (bar_line 1 (records sheet)) 0)
    unfolding written_by
    sheet_bar e room = rw (le-leb (length sheet) 1048000 short, e)

    module _ (free : holds bar sheet ≡ false) where
      pub sheet_open : lines_ended sheet ≡ false → (room : ℕ) → written_by l sheet room ≡ Err (refusal_at tab sheet 15 (length (records sheet)) 0)
      unfolding written_by
      sheet_open e room = rw (le-leb (length sheet) 1048000 short, free, e)

      module _ (proper : ProperFooter l) (ends : lines_ended sheet ≡ true) (bytes : Bytes sheet) where
        small : checksum_of (turned tab bar sheet) < 2 ^ 32
        small = checksum_of_lt (turned tab bar sheet) (turned_bytes tab bar sheet (omega arith) bytes)

        verdict_is : judged_by l (made sheet) ≡ lines_judged l (records sheet)
        verdict_is = made_judged l proper sheet short free ends small

        pub refused_is : (number r f room : ℕ) → lines_judged l (records sheet) ≡ Err (unplaced number r f) → written_by l sheet room ≡ Err (refusal_at tab sheet number r f)
        unfolding written_by
        refused_is number r f room e = rw (le-leb (length sheet) 1048000 short, free, ends, verdict_is, e)

        taken_is : (n room : ℕ) → lines_judged l (records sheet) ≡ Ok n → written_by l sheet room ≡ fitted room (made sheet) n
        unfolding written_by
        taken_is n room e = rw (le-leb (length sheet) 1048000 short, free, ends, verdict_is, e)

        -- only the lines and the room are left to ask
        pub sheet_judged : (m : Result Made Unplaced) → LinesRight l sheet m → MadeRight l sheet m
        sheet_judged (Err x) h = λ room. refused_is x.number x.«record» x.field room h
        sheet_judged (Ok m) h = record { says = λ room. taken_is m.records room h.0; short = short; totals = h.1 }
