-- What a run over files counts, and how it ends. Assumes nothing.
use Rattle.std.specs.Prelude.{◌+◌, cond, ltb, Result, Ok, Err}
use Rattle.stream.specs.declared.ending.Ending.{Ending}
use Rattle.stream.specs.declared.ending.Ending.TheVariants as endings
use Rattle.stream.specs.declared.output.Unwritten.{Unwritten}
use Rattle.rig.specs.declared.judging.Outcome.{Outcome}
use Rattle.rig.specs.declared.judging.Outcome.TheVariants.{Accepted, Refused, Unread}
use Rattle.rig.specs.declared.judging.Tally.{Tally}

-- a tally with one file more
abbrev pub counted_of : Tally → Outcome → Tally
counted_of t Accepted = record { accepted = t.accepted + 1; refused = t.refused; unread = t.unread }
counted_of t Refused = record { accepted = t.accepted; refused = t.refused + 1; unread = t.unread }
counted_of t Unread = record { accepted = t.accepted; refused = t.refused; unread = t.unread + 1 }

-- hindered where an answer was not written or a file not read, else refused where one was refused, else well
abbrev pub ending_of : Result Tally Unwritten → Ending
ending_of (Err e) = endings.Hindered
ending_of (Ok t) =
    cond (ltb 0 t.unread) endings.Hindered
    (cond (ltb 0 t.refused) endings.Refused
    endings.Well)
