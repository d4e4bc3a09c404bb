-- Reading has no limit of its own.
use Prim.Native.Nat.{ℕ, ◌≤◌}
use mathlib.Core.Path.{◌≡◌, refl}
use mathlib.Core.List.{List}
use lib.ListN.{length}
use borrow.Author.Tests.{le-leb}
use Rattle.flow.specs.Editions.{Asked}
use Rattle.judge.specs.File.{judged, accepted}
use Rattle.judge.proofs.Demand2.{accepted_answer}
use Rattle.sheet.specs.Sheets.{sheet_of}
use Rattle.sheet.specs.Read.{read_to}
use Rattle.sheet.specs.Write.{transferred}

-- an accepted file is read whole where there is room, even where its sheet is longer than the writer takes
pub reads_whole : (a : Asked) (f : List ℕ) (n room : ℕ) → judged a f ≡ accepted n → length (sheet_of f) ≤ room
    → read_to a f room ≡ transferred n (length (sheet_of f))
unfolding read_to
reads_whole a f n room e h = rw (accepted_answer a f n e) (rw (le-leb (length (sheet_of f)) room h) refl)
