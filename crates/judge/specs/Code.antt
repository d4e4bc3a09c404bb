-- What the code keeps while it reads: a summary of the records passed. Assumes nothing.
use Rattle.std.specs.Prelude.{ℕ, ◌≡◌, List, [], length, Result, Ok, Err}
use Rattle.record.specs.Records.{records}
use Rattle.layout.specs.Layout.{Layout}
use Rattle.fault.specs.declared.State.{State}
use Rattle.judge.specs.Record.{last_kind, sum_of}
use Rattle.judge.specs.File.{checked_from}
use Rattle.judge.specs.declared.Unplaced.{Unplaced}

-- the state is a summary of the records passed: how many, the last one's kind, their checksum
unfoldable pub summary : ℕ → Layout → List (List ℕ) → State
summary sep l before = record { count = length before; last = last_kind sep l before; sum = sum_of sep before }

-- what all records of some bytes come to: the first refusal, or the summary of them all
abbrev pub WalkRight : ℕ → Layout → List ℕ → Result State Unplaced → Type 0
WalkRight sep l f (Err refused) = checked_from sep l [] (records f) ≡ Err refused
WalkRight sep l f (Ok st) =
    (checked_from sep l [] (records f) ≡ Ok (length (records f))) × (st ≡ summary sep l (records f))
