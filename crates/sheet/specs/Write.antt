-- Writing a file from a sheet (document 01, "Sheets" and the writer's order; document 02, C-12 and C-16). Assumes nothing.
use Rattle.std.specs.Prelude.{ℕ, ◌≡◌, Bool, not, ◌||◌, List, ◌++◌, eqb, leb, length, drop, Result, Ok, Err}
use Rattle.text.specs.Rules.{must}
use Rattle.record.specs.Records.{records, holds, bar}
use Rattle.place.specs.Places.{refusal_at, whole}
use Rattle.place.specs.declared.Refusal.{Refusal}
use Rattle.layout.specs.Layout.{Layout}
use Rattle.flow.specs.Publication.{layout_for}
use Rattle.flow.specs.Editions.{Asked, a_flow, no_flow}
use Rattle.judge.specs.File.{judged_by, with_place, ends_in_feed}
use Rattle.sheet.specs.Sheets.{tab, made, bar_line}
use Rattle.sheet.specs.declared.Transferred.{Transferred}

-- a file or sheet handed over, or a refusal
abbrev pub Transfer : Type 0
Transfer = Result Transferred Refusal

-- so many records in so many bytes
abbrev pub transferred : ℕ → ℕ → Transfer
transferred n b = Ok (record { records = n; bytes = b })

-- each line is ended by a line feed; an empty sheet has no line
abbrev pub lines_ended : List ℕ → Bool
lines_ended sheet = eqb (length sheet) 0 || ends_in_feed sheet

-- the reader's refusal; where it accepts, what comes after is given its number of records
abbrev pub as_judged : Result ℕ Refusal → (ℕ → Transfer) → Transfer
as_judged (Ok n) after = after n
as_judged (Err r) after = Err r

-- 17 where the room is too short for the result; else so many records in so many bytes
abbrev pub fitted : ℕ → List ℕ → ℕ → Transfer
fitted room result n = must (leb (length result) room) (Err (whole 17)) (transferred n (length result))

-- a sheet by a layout, in the writer's order: 2, 16, 15, the reader's from record 1 on the made file, then 17; each with its place in the sheet
unfoldable pub written_by : Layout → List ℕ → ℕ → Transfer
written_by l sheet room =
    must (leb (length sheet) 1048000) (Err (whole 2))
    (must (not (holds bar sheet)) (Err (refusal_at tab sheet 16 (bar_line 1 (records sheet)) 0))
    (must (lines_ended sheet) (Err (refusal_at tab sheet 15 (length (records sheet)) 0))
    (as_judged (with_place tab sheet (judged_by l (made sheet)))
    (fitted room (made sheet)))))

-- a sheet for what is asked: 1 and 21 come first
unfoldable pub written : Asked → List ℕ → ℕ → Transfer
written (a_flow fl) sheet room = written_by (layout_for fl) sheet room
written (no_flow r) sheet room = Err r

-- the papers' answers: records and bytes written, or a refusal's number, record, field and place
pub data Reply : Type 0 where
  done : ℕ → ℕ → Reply
  refused : ℕ → ℕ → ℕ → ℕ → Reply

-- what each case of the code's answer says in the papers' terms
abbrev pub paper : Transfer → Reply
paper (Ok t) = done t.records t.bytes
paper (Err r) = refused r.number r.«record» r.field r.place

-- the lent output: on success the result, and past it the bytes it held before; on a refusal all of those
abbrev pub output : Transfer → List ℕ → List ℕ → List ℕ
output (Ok t) result old = result ++ drop t.bytes old
output (Err r) result old = old

-- what is handed over: the answer that is to be said, and every byte that was lent
pub record Handed (said : Transfer) (result : List ℕ) (answer : Transfer) (old new : List ℕ) : Type 0 where
  pub says : paper answer ≡ paper said
  pub leaves : new ≡ output answer result old

-- writing a file from a sheet
abbrev pub Wrote : Asked → List ℕ → Transfer → List ℕ → List ℕ → Type 0
Wrote a sheet answer old new = Handed (written a sheet (length old)) (made sheet) answer old new
