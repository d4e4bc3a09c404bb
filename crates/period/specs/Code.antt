-- What the search for the stop answers. Assumes nothing.
use Rattle.std.specs.Prelude.{ℕ, ◌+◌, ◌≤◌, ◌≡◌, Bool, true, false, Option, Some, None, List, length}
use Rattle.record.specs.Records.{records, extent}
use Rattle.period.specs.Answer.{some_stops, up_to, some_has}
use Rattle.period.specs.declared.Stop.{Stop}

-- the record at which reading stops ends at a byte within the file, and has the asked period, which none before it has
pub record StopsAt (f : List ℕ) (p end : ℕ) (asked : Bool) : Type 0 where
  pub there : some_stops p (records f) ≡ true
  pub within : end ≤ length f
  pub ends : end + 1 ≡ extent (up_to p (records f))
  pub is : asked ≡ some_has p (up_to p (records f))

abbrev pub StopFound : List ℕ → ℕ → Option Stop → Type 0
StopFound f p (Some s) = StopsAt f p s.end s.is_asked
StopFound f p None = some_stops p (records f) ≡ false
