-- Import takes just the texts that the RFC's grammar has, whichever way that grammar reads the last CR LF. Assumes nothing.
use Prim.Native.Nat.{ℕ, ◌<◌}
use mathlib.Core.List.{List, [], ◌∷◌, ◌++◌, append_assoc}
use native.Mathlib.Omega.{arith}
use lib.ListN.{length}
use Rattle.rfc4180.specs.Rfc.{return, feed, Line, Records, File, Text}
use Rattle.rfc4180.specs.Rfc as rfc

-- a text of the RFC's is read
line_text : (s : List ℕ) {row : List (List ℕ)} → Line s row → (rows : List (List (List ℕ))) × Text s rows
line_text [] l = ([], rfc.Text.none)
line_text (b ∷ s) {row} l = (row ∷ [], rfc.Text.last {s = b ∷ s} (omega arith) l)

open_text : {s : List ℕ} {rows : List (List (List ℕ))} → Records s rows → (rows' : List (List (List ℕ))) × Text s rows'
open_text (rfc.Records.one {s} l) = line_text s l
open_text (rfc.Records.more {s} {t} {row} l r) =
    let x = open_text r in
    (row ∷ x.0, rfc.Text.more l x.1)

ended_text : {s : List ℕ} {rows : List (List (List ℕ))} → Records s rows → Text (s ++ return ∷ feed ∷ []) rows
ended_text (rfc.Records.one l) = rfc.Text.more l rfc.Text.none
ended_text (rfc.Records.more {s} {t} l r) =
    rw (append_assoc s (return ∷ feed ∷ t) (return ∷ feed ∷ [])) (rfc.Text.more l (ended_text r))

pub file_taken : {s : List ℕ} {rows : List (List (List ℕ))} → File s rows → (rows' : List (List (List ℕ))) × Text s rows'
file_taken (rfc.File.unended r) = open_text r
file_taken (rfc.File.ended {s} {rows} r) = (rows, ended_text r)

-- and what is read, but the empty text, is one of the RFC's with the same lines
more_file : {s t : List ℕ} {row : List (List ℕ)} {rows : List (List (List ℕ))} → Line s row → File t rows → File (s ++ return ∷ feed ∷ t) (row ∷ rows)
more_file l (rfc.File.unended r) = rfc.File.unended (rfc.Records.more l r)
more_file {s} l (rfc.File.ended {s = t} r) =
    rw (← append_assoc s (return ∷ feed ∷ t) (return ∷ feed ∷ [])) (rfc.File.ended (rfc.Records.more l r))

after_line : {s t : List ℕ} {row : List (List ℕ)} {rows : List (List (List ℕ))} → Line s row → Text t rows → File (s ++ return ∷ feed ∷ t) (row ∷ rows)
after_line l rfc.Text.none = rfc.File.ended (rfc.Records.one l)
after_line l (rfc.Text.last h m) = more_file l (rfc.File.unended (rfc.Records.one m))
after_line l (rfc.Text.more m x) = more_file l (after_line m x)

pub taken_file : {s : List ℕ} {rows : List (List (List ℕ))} → 0 < length s → Text s rows → File s rows
taken_file h rfc.Text.none = absurd (omega arith)
taken_file h (rfc.Text.last k l) = rfc.File.unended (rfc.Records.one l)
taken_file h (rfc.Text.more l x) = after_line l x
