-- What the drill says of one spoiled file. Assumes nothing.
use Rattle.std.specs.Prelude.{ℕ, ◌+◌, ◌%◌, ◌≡◌, Bool, true, false, cond, List, get_or, set}
use Rattle.flow.specs.Editions.{Asked}
use Rattle.judge.specs.File.{Reply, accepted, refused, judged}

-- an answer that accepts
abbrev pub accepts : Reply → Bool
accepts (accepted n) = true
accepts (refused number r f place) = false

-- a file passes where it is accepted for what is asked
unfoldable pub passes : Asked → List ℕ → Bool
passes a file = accepts (judged a file)

-- the byte that is d above b, past the highest counted on from 0
abbrev pub other : ℕ → ℕ → ℕ
other b d = (b + d % 256) % 256

-- a file with one byte made another
abbrev pub spoilt : List ℕ → ℕ → ℕ → List ℕ
spoilt file at d = set file at (other (get_or file at 0) d)

-- one file more is counted, as refused or as passed
pub record Counted (refused passed : ℕ) (good : Bool) (refused' passed' : ℕ) : Type 0 where
  pub refusals : refused' ≡ refused + cond good 0 1
  pub passes : passed' ≡ passed + cond good 1 0
