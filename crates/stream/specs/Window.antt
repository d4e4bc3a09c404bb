-- The part of a window that is read and not used yet.
use Rattle.std.specs.Prelude.{ℕ, ◌-◌, ◌≤◌, ◌<◌, ◌≡◌, List, length, take, drop}
use Rattle.stream.specs.declared.input.Reading.{Reading}
use Rattle.stream.specs.declared.input.Reading.TheVariants.{Came, Ended, Full, Failed}

-- the bytes from `from` up to `to` are bytes of the window
pub record Within (window : List ℕ) (from to : ℕ) : Type 0 where
  pub ordered : from ≤ to
  pub within : to ≤ length window

-- the unread bytes are unread as before, and perhaps more behind them
pub record Grown (old : List ℕ) (from to : ℕ) (new : List ℕ) (from' to' : ℕ) : Type 0 where
  pub ordered : from' ≤ to'
  pub within : to' ≤ length new
  pub longer : to - from ≤ to' - from'
  pub kept : take (to - from) (drop from' new) ≡ take (to - from) (drop from old)

-- after a read: more bytes are unread than before; or just as many, at the end of the input or where the window is full
abbrev pub GrownBy : List ℕ → ℕ → ℕ → List ℕ → Reading → Type 0
GrownBy old from to new (Came u) = Grown old from to new u.from u.to × (to - from < u.to - u.from)
GrownBy old from to new (Ended u) = Grown old from to new u.from u.to × (u.to - u.from ≡ to - from)
GrownBy old from to new (Full u) = Grown old from to new u.from u.to × (u.to - u.from ≡ to - from) × (u.to ≡ length new)
GrownBy old from to new Failed = Unit {0}
