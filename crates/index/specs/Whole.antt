-- What is said of an index as a whole: its children in all, and the records that stand within a kind. Assumes nothing.
use Rattle.std.specs.Prelude.{ℕ, ◌+◌, ◌-◌, cond, List, [], ◌∷◌, leb, get_or, take}
use Rattle.index.specs.declared.Entry.{Entry}
use Rattle.index.specs.Entries.{Kinds, kinds_of, head_of, parent_of}

-- the sum of the entries' children
unfoldable pub child_total : List Entry → ℕ
child_total [] = 0
child_total (e ∷ es) = e.children + child_total es

-- how many of some records, by their kinds, stand within a kind
unfoldable pub within_some : Kinds → List ℕ → ℕ
within_some ks [] = 0
within_some ks (j ∷ js) = cond (leb 1 (head_of ks j)) 1 0 + within_some ks js

-- the kind of record n of a file, counted from 1
abbrev pub kind_at : Kinds → List ℕ → ℕ → ℕ
kind_at ks f n = get_or (kinds_of ks f) (n - 1) 0

-- the record that is the parent of record n of a file; 0 where it has none
abbrev pub parent_at : Kinds → List ℕ → ℕ → ℕ
parent_at ks f n = parent_of ks (take (n - 1) (kinds_of ks f)) (kind_at ks f n)
