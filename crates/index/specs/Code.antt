-- What the code's inner functions do: a file is read on from entry to entry. Assumes nothing.
use Rattle.std.specs.Prelude.{ℕ, zero, suc, ◌+◌, ◌*◌, ◌≡◌, Bool, false, cond, List, [], ◌∷◌, ◌++◌, map, eqb, length, get_or, take, drop, set, replicate, Result, Ok, Err}
use Rattle.record.specs.Records.{records}
use Rattle.place.specs.declared.Refusal.{Refusal}
use Rattle.layout.specs.Numbers.{each, layout_of}
use Rattle.flow.specs.Editions.{Asked, a_flow, no_flow}
use Rattle.index.specs.declared.Entry.{Entry}
use Rattle.index.specs.declared.Filled.{Filled}
use Rattle.index.specs.declared.Filling.{Filling}
use Rattle.index.specs.Entries.{Kinds, kinds_by, kinds_for, kind_in, head_of, may_head, entry, entries_of, answer_for, numbers_of, cells_of}

-- no entry
abbrev pub blank : Entry
blank = entry 0 0 0 0

-- entry i of a list, counted from 0
abbrev pub entry_at : List Entry → ℕ → Entry
entry_at es i = get_or es i blank

-- the kinds of a table: fixed values have no part in them
abbrev pub kinds_in : List ℕ → Kinds
kinds_in t = kinds_by (layout_of t [])

-- which kinds may have children: kind k at place k
abbrev pub heads_of : Kinds → List Bool
heads_of ks = each (may_head ks) 0 33

-- of the records behind one of kind k, by their kinds, those that stand within kind k, up to the next of kind k and with it
unfoldable pub scanned : Kinds → ℕ → List ℕ → ℕ
scanned ks k [] = 0
scanned ks k (j ∷ js) = cond (eqb (head_of ks j) k) 1 0 + cond (eqb j k) 0 (scanned ks k js)

-- the parent entry by the last entry of each kind; the entry's own number where there is none
unfoldable pub parent_in : List ℕ → ℕ → ℕ → ℕ
parent_in last h own = cond (eqb (get_or last h 0) 0) own (get_or last h 0)

-- the state once record n has been entered: its kind is k, it stands from at on, len bytes long, and has so many children
abbrev pub entered : Kinds → Filling → ℕ → ℕ → ℕ → ℕ → ℕ → Filling
entered ks s n at len k count =
    record {
      records = n;
      at = at + len + 1;
      entries = s.entries + 1;
      heads = s.heads;
      last = set s.last k (s.entries + 1);
      entry = entry n at (parent_in s.last (head_of ks k) (s.entries + 1)) count;
    }

-- reading on after n records, from the byte at: the first of the records from there that may have children is entered
unfoldable pub read_on : Kinds → Filling → ℕ → ℕ → List (List ℕ) → Filling
read_on ks s n at [] = s
read_on ks s n at (r ∷ rs) =
    cond (get_or s.heads (kind_in ks r) false)
    (entered ks s (n + 1) at (length r) (kind_in ks r) (scanned ks (kind_in ks r) (map (kind_in ks) rs)))
    (read_on ks s (n + 1) (at + length r + 1) rs)

-- the state at the next entry
abbrev pub advanced : Kinds → List ℕ → Filling → Filling
advanced ks f s = read_on ks s s.records s.at (records (drop s.at f))

-- before anything is read
abbrev pub starting : Kinds → Filling
starting ks = record { records = 0; at = 0; entries = 0; heads = heads_of ks; last = replicate 33 0; entry = blank }

-- after i entries
unfoldable pub after : Kinds → List ℕ → ℕ → Filling
after ks f zero = starting ks
after ks f (suc i) = advanced ks f (after ks f i)

-- how many entries are to be stored: none where what is asked, the file or the list is refused
abbrev pub to_store : Result Filled Refusal → ℕ
to_store (Err r) = 0
to_store (Ok said) = said.entries

-- some kinds are those of the flow that is asked for, where one is
abbrev pub HasKinds : Asked → Kinds → Type 0
HasKinds (a_flow fl) ks = ks ≡ kinds_for fl
HasKinds (no_flow r) ks = Unit

-- the first n entries of a file's index, and then what a list held
abbrev pub stored : Kinds → List ℕ → ℕ → List Entry → List Entry
stored ks f n old = take n (entries_of ks f) ++ drop n old

-- the same in numbers, four an entry
abbrev pub stored_cells : Kinds → List ℕ → ℕ → List ℕ → List ℕ
stored_cells ks f n old = cells_of (take n (entries_of ks f)) ++ drop (4 * n) old

-- the entry that is read at turn k, counted from 0
abbrev pub read : Kinds → List ℕ → ℕ → Entry
read ks f k = (after ks f (suc k)).entry

-- entry i as numbers in a list of numbers
abbrev pub with_numbers : List ℕ → ℕ → Entry → List ℕ
with_numbers s i e = take (4 * i) s ++ numbers_of e ++ drop (4 * i + 4) s

-- what a list of any sort holds once n entries have been put into it, one after the other, by what putting one makes
abbrev pub storing : {A : Type 0} → (List A → ℕ → Entry → List A) → (ℕ → Entry) → ℕ → List A → List A
storing with_entry e zero s = s
storing with_entry e (suc n) s = with_entry (storing with_entry e n s) n (e n)

-- a list of any sort is filled: what is said, and the entries put by the numbers of a table that has the flow's kinds
pub record FilledBy {A : Type 0} (room : List A → ℕ) (with_entry : List A → ℕ → Entry → List A) (a : Asked) (f : List ℕ) (old new : List A) (said : Result Filled Refusal) : Type 0 where
  pub numbers : List ℕ
  pub kinds : HasKinds a (kinds_in numbers)
  pub says : said ≡ answer_for a f (room old)
  pub holds : new ≡ storing with_entry (read (kinds_in numbers) f) (to_store said) old
