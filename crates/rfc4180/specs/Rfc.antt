-- RFC 4180's grammar, section 2, each relation a line of it; fields without a line break (document 02, C-15). Assumes nothing.
use Rattle.std.specs.Prelude.{ℕ, suc, ◌+◌, ◌<◌, ◌≡◌, Bool, true, ◌||◌, List, [], ◌∷◌, ◌++◌, map, length}
use Rattle.text.specs.Characters.{all, from_to}
use Rattle.sheet.specs.Sheets.{tab, parted}

-- the bytes that part fields, stand around a quoted field, and end a line
abbrev pub comma : ℕ
comma = 0x2C

abbrev pub quote : ℕ
quote = 0x22

abbrev pub return : ℕ
return = 0x0D

abbrev pub feed : ℕ
feed = 0x0A

-- TEXTDATA = %x20-21 / %x23-2B / %x2D-7E
unfoldable pub textdata : ℕ → Bool
textdata b = from_to 0x20 0x21 b || from_to 0x23 0x2B b || from_to 0x2D 0x7E b

-- *(TEXTDATA / COMMA / 2DQUOTE), and the bytes that it stands for: CR and LF, which the RFC has here too, are a line break
pub data Inside : List ℕ → List ℕ → Type 0 where
  none : Inside [] []
  one : {b : ℕ} {s v : List ℕ} → textdata b ≡ true → Inside s v → Inside (b ∷ s) (b ∷ v)
  parting : {s v : List ℕ} → Inside s v → Inside (comma ∷ s) (comma ∷ v)
  two : {s v : List ℕ} → Inside s v → Inside (quote ∷ quote ∷ s) (quote ∷ v)

-- field = (escaped / non-escaped); escaped = DQUOTE *(..) DQUOTE; non-escaped = *TEXTDATA
pub data Field : List ℕ → List ℕ → Type 0 where
  non_escaped : {s : List ℕ} → all textdata s ≡ true → Field s s
  escaped : {s v : List ℕ} → Inside s v → Field (quote ∷ (s ++ quote ∷ [])) v

-- record = field *(COMMA field)
pub data Line : List ℕ → List (List ℕ) → Type 0 where
  last : {s v : List ℕ} → Field s v → Line s (v ∷ [])
  more : {s v t : List ℕ} {vs : List (List ℕ)} → Field s v → Line t vs → Line (s ++ comma ∷ t) (v ∷ vs)

-- file = [header CRLF] record *(CRLF record) [CRLF], as the RFC has it, a header being a record like any other: it leaves open if a last
-- CRLF ends a line or parts it from an empty one
pub data Records : List ℕ → List (List (List ℕ)) → Type 0 where
  one : {s : List ℕ} {row : List (List ℕ)} → Line s row → Records s (row ∷ [])
  more : {s t : List ℕ} {row : List (List ℕ)} {rows : List (List (List ℕ))} → Line s row → Records t rows → Records (s ++ return ∷ feed ∷ t) (row ∷ rows)

pub data File : List ℕ → List (List (List ℕ)) → Type 0 where
  unended : {s : List ℕ} {rows : List (List (List ℕ))} → Records s rows → File s rows
  ended : {s : List ℕ} {rows : List (List (List ℕ))} → Records s rows → File (s ++ return ∷ feed ∷ []) rows

-- the same as import takes it (document 02): a last CRLF ends its line, and the empty text has no line
pub data Text : List ℕ → List (List (List ℕ)) → Type 0 where
  none : Text [] []
  last : {s : List ℕ} {row : List (List ℕ)} → 0 < length s → Line s row → Text s (row ∷ [])
  more : {s t : List ℕ} {row : List (List ℕ)} {rows : List (List (List ℕ))} → Line s row → Text t rows → Text (s ++ return ∷ feed ∷ t) (row ∷ rows)

-- the lines of its sheet: the fields of each parted by tabs
abbrev pub lines_of : List (List (List ℕ)) → List (List ℕ)
lines_of rows = map (parted tab) rows

-- the first line of a text that is no line of the grammar is line n, counted from 1: its first line is none, that is neither all of it
-- nor what stands before a CR LF; or its first line is one, and the text behind that line's CR LF has such a line
pub data Stops : List ℕ → ℕ → Type 0 where
  here : {s : List ℕ} → 0 < length s → ((row : List (List ℕ)) → Line s row → ⊥)
      → ((u t : List ℕ) (row : List (List ℕ)) → s ≡ u ++ return ∷ feed ∷ t → Line u row → ⊥) → Stops s 1
  later : {s t : List ℕ} {row : List (List ℕ)} {n : ℕ} → Line s row → Stops t n → Stops (s ++ return ∷ feed ∷ t) (suc n)

-- line n of a text, counted from 1, starts at byte p, counted from 0: the first at its start, another behind lines of the grammar and
-- the CR LF of each
pub data Starts : List ℕ → ℕ → ℕ → Type 0 where
  first : {s : List ℕ} → Starts s 1 0
  later : {s t : List ℕ} {row : List (List ℕ)} {n p : ℕ} → Line s row → Starts t n p → Starts (s ++ return ∷ feed ∷ t) (suc n) (length s + 2 + p)
