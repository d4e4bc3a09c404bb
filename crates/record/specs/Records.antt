-- What a file's records and a record's fields are (document 01, "Bytes, records, fields").
use Rattle.std.specs.Prelude.{ℕ, zero, suc, ◌+◌, ◌-◌, ◌≤◌, ◌<◌, ◌≡◌, List, [], ◌∷◌, ◌++◌, map, Bool, false, cond, ◌||◌, eqb, leb, length, take, drop, get_or}

-- one more byte at the front of the first of some parts; of no parts, a part of its own
unfoldable pub onto : ℕ → List (List ℕ) → List (List ℕ)
onto b [] = (b ∷ []) ∷ []
onto b (p ∷ ps) = (b ∷ p) ∷ ps

-- a file is cut at each line feed; bytes after the last line feed, if any, are one more record
unfoldable pub records : List ℕ → List (List ℕ)
records [] = []
records (b ∷ s) = cond (eqb b 0x0A) ([] ∷ records s) (onto b (records s))

-- fields are parted by the byte sep; a record with n of it has n + 1 fields
unfoldable pub fields : ℕ → List ℕ → List (List ℕ)
fields sep [] = [] ∷ []
fields sep (b ∷ s) = cond (eqb b sep) ([] ∷ fields sep s) (onto b (fields sep s))

-- field k of a record, counted from 1; no bytes where there is none
unfoldable pub field : ℕ → ℕ → List ℕ → List ℕ
field sep zero r = []
field sep (suc k) r = get_or (fields sep r) k []

-- how many bytes stand before the first sep, or the end
unfoldable pub run : ℕ → List ℕ → ℕ
run sep [] = 0
run sep (b ∷ s) = cond (eqb b sep) 0 (suc (run sep s))

-- the fields of a record from the byte at on; none where at is past the record's end
unfoldable pub fields_from : ℕ → ℕ → List ℕ → List (List ℕ)
fields_from sep at r = cond (leb at (length r)) (fields sep (drop at r)) []

-- how many bytes some parts take, each with the byte that ends it
unfoldable pub extent : List (List ℕ) → ℕ
extent [] = 0
extent (p ∷ ps) = length p + 1 + extent ps

-- the byte that parts fields in a file
abbrev pub bar : ℕ
bar = 0x7C

-- a byte, turned to another where it is this one
abbrev pub turned_byte : ℕ → ℕ → ℕ → ℕ
turned_byte from to b = cond (eqb b from) to b

-- bytes, each of one value turned to another
unfoldable pub turned : ℕ → ℕ → List ℕ → List ℕ
turned from to s = map (turned_byte from to) s

-- bytes with each sep turned to a bar
abbrev pub barred : ℕ → List ℕ → List ℕ
barred sep = turned sep bar

-- the file of some records, a line feed after each
unfoldable pub joined : List (List ℕ) → List ℕ
joined [] = []
joined (r ∷ rs) = r ++ 0x0A ∷ joined rs

-- the byte b stands among some bytes, and in one of some parts
unfoldable pub holds : ℕ → List ℕ → Bool
holds b [] = false
holds b (a ∷ s) = eqb a b || holds b s

unfoldable pub some_holds : ℕ → List (List ℕ) → Bool
some_holds b [] = false
some_holds b (p ∷ ps) = holds b p || some_holds b ps

-- each number of a list is a byte
abbrev pub Bytes : List ℕ → Type 0
Bytes s = (i : ℕ) → get_or s i 0 < 256

-- the bytes from a up to e of s are p
pub record IsPart (s : List ℕ) (a e : ℕ) (p : List ℕ) : Type 0 where
  pub ordered : a ≤ e
  pub within : e ≤ length s
  pub is : take (e - a) (drop a s) ≡ p
