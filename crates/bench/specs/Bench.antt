-- What the bench answers (document 01, "Bench examples"; document 02, C-12 and C-16). Assumes nothing.
use Rattle.std.specs.Prelude.{ℕ, ◌+◌, Bool, List, [], leb, length, get_or, drop}
use Rattle.text.specs.Rules.{must}
use Rattle.record.specs.Records.{records}
use Rattle.place.specs.Places.{whole}
use Rattle.flow.specs.Editions.{Asked, a_flow, no_flow, asked}
use Rattle.judge.specs.File.{Reply, refused, judged}

-- the first line, up to the first line feed
abbrev pub first_line : List ℕ → List ℕ
first_line input = get_or (records input) 0 []

-- it is ended by its line feed
abbrev pub line_ended : List ℕ → Bool
line_ended input = leb (length (first_line input) + 1) (length input)

-- its words ask for a flow; one that is not ended asks for none that we hold
abbrev pub asked_by : List ℕ → Asked
asked_by input = must (line_ended input) (no_flow (whole 1)) (asked (first_line input))

-- the file is all that stands behind it
abbrev pub file_behind : List ℕ → List ℕ
file_behind input = drop (length (first_line input) + 1) input

-- a file for what is asked: a refusal of what is asked comes first, then 2 for more than 65,536 bytes; else the file is judged
abbrev pub benched_for : Asked → List ℕ → Reply
benched_for (no_flow r) file = judged (no_flow r) file
benched_for (a_flow fl) file = must (leb (length file) 65536) (refused 2 0 0 0) (judged (a_flow fl) file)

unfoldable pub benched : List ℕ → Reply
benched input = benched_for (asked_by input) (file_behind input)
