-- What the code says on the way: of a sheet up to the question of room, and of bytes put among lent ones. Assumes nothing.
use Rattle.std.specs.Prelude.{ℕ, ◌+◌, ◌-◌, ◌≤◌, ◌≡◌, List, [], ◌++◌, length, take, drop, Result, Ok, Err}
use Rattle.text.specs.Rules.{must}
use Rattle.record.specs.Records.{records, turned, bar}
use Rattle.checksum.specs.Checksum.{checksum_of}
use Rattle.place.specs.Places.{refusal_at}
use Rattle.layout.specs.Layout.{Layout, may_follow}
use Rattle.judge.specs.Record.{last_kind}
use Rattle.judge.specs.File.{unplaced, checked_from, finish}
use Rattle.judge.specs.declared.Unplaced.{Unplaced}
use Rattle.sheet.specs.Sheets.{tab, made}
use Rattle.sheet.specs.Write.{fitted, written_by}
use Rattle.sheet.specs.declared.Made.{Made}

-- what the reader says of a made file, by the lines of its sheet: the first refusal among them; or 5 at the footer, where the
-- grammar has no ZPT after them; or that it accepts the lines and the footer
unfoldable pub lines_judged : Layout → List (List ℕ) → Result ℕ Unplaced
lines_judged l lines =
    finish (checked_from tab l [] lines)
    (must (may_follow l (last_kind tab l lines) (length l.rows - 1)) (Err (unplaced 5 (length lines + 1) 1))
    (Ok (length lines + 1)))

-- the records and the checksum are those of the sheet's made file
pub record Totals (sheet : List ℕ) (n sum : ℕ) : Type 0 where
  pub count : n ≡ length (records sheet) + 1
  pub total : sum ≡ checksum_of (turned tab bar sheet)

-- the lines of a sheet, judged by a layout
abbrev pub LinesRight : Layout → List ℕ → Result Made Unplaced → Type 0
LinesRight l sheet (Err x) = lines_judged l (records sheet) ≡ Err x
LinesRight l sheet (Ok m) = (lines_judged l (records sheet) ≡ Ok m.records) × Totals sheet m.records m.sum

-- a sheet that only the room can refuse
pub record Taken (l : Layout) (sheet : List ℕ) (n sum : ℕ) : Type 0 where
  pub says : (room : ℕ) → written_by l sheet room ≡ fitted room (made sheet) n
  pub short : length sheet ≤ 1048000
  pub totals : Totals sheet n sum

-- a sheet up to the question of room
abbrev pub MadeRight : Layout → List ℕ → Result Made Unplaced → Type 0
MadeRight l sheet (Err x) = (room : ℕ) → written_by l sheet room ≡ Err (refusal_at tab sheet x.number x.«record» x.field)
MadeRight l sheet (Ok m) = Taken l sheet m.records m.sum

-- bytes with others put at a place
abbrev pub put : List ℕ → ℕ → List ℕ → List ℕ
put old at x = take at old ++ x ++ drop (at + length x) old
