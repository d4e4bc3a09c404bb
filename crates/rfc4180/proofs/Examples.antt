-- Texts written out by hand, and what the walk says of them, by computing; more are in answers:CommaText. Assumes nothing.
use Prim.Native.Nat.{ℕ}
use mathlib.Core.Path.{◌≡◌, refl}
use mathlib.Core.Bool.{cond}
use mathlib.Core.List.{List, [], ◌∷◌, ◌++◌, map}
use lib.Dec.{eqb}
use Rattle.text.specs.Characters.{bytes}
use Rattle.rfc4180.specs.Rfc.{textdata}
use Rattle.rfc4180.specs.Walk.{next_of, given_of, stop_at, sheet_from, lines_from}
use Rattle.rfc4180.specs.declared.State.TheVariants.{AtLine}

-- a text is read, with the lines and the bytes of its sheet, or it stops at a line
pub data Outcome : Type 0 where
  reads : ℕ → List ℕ → Outcome
  stops : ℕ → Outcome

pub data Case : Type 0 where
  case : List ℕ → Outcome → Case

pub given : Case → Outcome
given (case s o) = cond (eqb (stop_at AtLine 0 s) 0) (reads (lines_from AtLine s) (sheet_from AtLine s)) (stops (stop_at AtLine 0 s))

pub expected : Case → Outcome
expected (case s o) = o

pub table : List Case
table =
    -- any quoting; the last CR LF optional; a blank line is a line, and the empty text has none
    case (bytes "a,b\r\n\"c\",\"\"\r\n") (reads 2 (bytes "a\tb\nc\t\n"))
    ∷ case (bytes "\"a,b\",\"say \"\"c\"\"\"") (reads 1 (bytes "a,b\tsay \"c\"\n"))
    ∷ case (bytes "a\r\n\r\n,") (reads 3 (bytes "a\n\n\t\n"))
    ∷ case [] (reads 0 [])
    -- every byte of TEXTDATA, here its first and last of each range
    ∷ case (bytes " !#+-~") (reads 1 (bytes " !#+-~\n"))
    -- a tab, a control byte, one above 126; CR or LF alone, in quotes too
    ∷ case (bytes "a\r\nb\tc\r\n") (stops 2)
    ∷ case (bytes "\"\t\"") (stops 1)
    ∷ case (bytes "a" ++ 0x1F ∷ []) (stops 1)
    ∷ case (bytes "a" ++ 0x7F ∷ []) (stops 1)
    ∷ case (bytes "a\nb") (stops 1)
    ∷ case (bytes "a\rb") (stops 1)
    ∷ case (bytes "\"a\nb\"") (stops 1)
    ∷ case (bytes "\"a\rb\"") (stops 1)
    -- a mark in a field without quotes; anything behind a closing one; one that is not closed in its line
    ∷ case (bytes "a\"b") (stops 1)
    ∷ case (bytes "a\r\n\"b\" ") (stops 2)
    ∷ case (bytes "a\r\n\"b\r\nc\"") (stops 2)
    ∷ case (bytes "\"") (stops 1)
    ∷ []

pub text_cases : map given table ≡ map expected table
unfolding given expected table textdata next_of given_of stop_at sheet_from lines_from
text_cases = refl
