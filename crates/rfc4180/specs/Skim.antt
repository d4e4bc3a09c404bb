-- A stretch of data and commas, which the code passes over at once and the walk byte by byte. Assumes nothing.
use Rattle.std.specs.Prelude.{ℕ, suc, ◌≡◌, Bool, true, false, cond, List, [], ◌∷◌, eqb}
use Rattle.text.specs.Characters.{all, from_to}
use Rattle.record.specs.Records.{turned}
use Rattle.sheet.specs.Sheets.{tab}
use Rattle.rfc4180.specs.Rfc.{comma, quote}
use Rattle.rfc4180.specs.Walk.{in_quotes, next_of}
use Rattle.rfc4180.specs.declared.State.{State}
use Rattle.rfc4180.specs.declared.State.TheVariants.{AfterQuote, AfterReturn, Stopped}

-- data or a comma: any printable byte but a quotation mark
unfoldable pub bare : ℕ → Bool
bare b = cond (eqb b quote) false (from_to 0x20 0x7E b)

-- how many such bytes stand first
unfoldable pub bare_run : List ℕ → ℕ
bare_run [] = 0
bare_run (b ∷ s) = cond (bare b) (suc (bare_run s)) 0

-- the walk may pass over them: it has not stopped, and neither a quotation mark in quotes nor a CR is just behind
abbrev pub skims : State → Bool
skims AfterQuote = false
skims AfterReturn = false
skims Stopped = false
skims st = true

-- how many bytes it passes over
abbrev pub skimmed : State → List ℕ → ℕ
skimmed st s = cond (skims st) (bare_run s) 0

-- where some bytes lead
unfoldable pub led_to : State → List ℕ → State
led_to st [] = st
led_to st (b ∷ s) = led_to (next_of st b) s

-- what a stretch of them gives: in quotes itself, else its commas are tabs
abbrev pub stretch_given : State → List ℕ → List ℕ
stretch_given st u = cond (in_quotes st) u (turned comma tab u)

-- a stretch of such bytes, and a state from which the walk may pass over them
pub record Stretch (st : State) (u : List ℕ) : Type 0 where
  pub skim : skims st ≡ true
  pub plainly : all bare u ≡ true
