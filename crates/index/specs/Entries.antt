-- An index beside the file: an entry for each record that may have children (document 02, C-13 and C-16). Assumes nothing.
use Rattle.std.specs.Prelude.{ℕ, ◌+◌, ◌*◌, ◌/◌, ◌≡◌, Bool, false, cond, ◌&&◌, ◌||◌, List, [], ◌∷◌, ◌++◌, map, eqb, leb, length, get_or, take, drop, Result, Ok, Err}
use Rattle.text.specs.Rules.{must}
use Rattle.text.specs.Places.{place_of}
use Rattle.record.specs.Records.{records, field, bar}
use Rattle.place.specs.Places.{place_at, whole}
use Rattle.place.specs.declared.Refusal.{Refusal}
use Rattle.layout.specs.Layout.{KindRow, Layout, row_names}
use Rattle.flow.specs.Publication.{Flow, layout_for}
use Rattle.flow.specs.Editions.{Asked, a_flow, no_flow}
use Rattle.judge.specs.File.{placed_by, judged_for}
use Rattle.index.specs.declared.Entry.{Entry}
use Rattle.index.specs.declared.Filled.{Filled}

-- what an index asks of a flow: the names of its kinds, which count from 1, and for each row the kind within which it stands (0: none)
pub record Kinds : Type 0 where
  pub names : List (List ℕ)
  pub heads : List ℕ

-- the kinds of a layout, whose row 0 is the start, and of a published flow
unfoldable pub kinds_by : Layout → Kinds
kinds_by l = record { names = row_names (drop 1 l.rows); heads = map (λ (r : KindRow). r.head) l.rows }

abbrev pub kinds_for : Flow → Kinds
kinds_for flow = kinds_by (layout_for flow)

-- the kind of a record, by its first field; 0 where the flow has no such kind
abbrev pub kind_in : Kinds → List ℕ → ℕ
kind_in ks r = place_of (field bar 1 r) 1 ks.names

-- the kinds of a file's records
abbrev pub kinds_of : Kinds → List ℕ → List ℕ
kinds_of ks f = map (kind_in ks) (records f)

-- the kind within which kind k stands; 0 where it stands within none
abbrev pub head_of : Kinds → ℕ → ℕ
head_of ks k = get_or ks.heads k 0

-- one of some numbers is k
unfoldable pub some_is : ℕ → List ℕ → Bool
some_is k [] = false
some_is k (h ∷ hs) = eqb h k || some_is k hs

-- records of kind k may have children: some kind of the flow stands within it
unfoldable pub may_head : Kinds → ℕ → Bool
may_head ks k = leb 1 k && some_is k ks.heads

-- how many of some records may have children
unfoldable pub heads_in : Kinds → List ℕ → ℕ
heads_in ks [] = 0
heads_in ks (j ∷ js) = cond (may_head ks j) 1 0 + heads_in ks js

-- the number of the last of some records that is of kind h, counted from 1; 0 where none is
unfoldable pub last_of : ℕ → List ℕ → ℕ
last_of h [] = 0
last_of h (j ∷ js) = cond (eqb (last_of h js) 0) (cond (eqb j h) 1 0) (1 + last_of h js)

-- the parent of a record of kind k, by the kinds of those before it: the last record of the kind within which it stands; 0 where there is none
unfoldable pub parent_of : Kinds → List ℕ → ℕ → ℕ
parent_of ks before k = must (leb 1 (head_of ks k)) 0 (last_of (head_of ks k) before)

-- how many of some records, those before them given, have record n as their parent
unfoldable pub children_from : Kinds → ℕ → List ℕ → List ℕ → ℕ
children_from ks n before [] = 0
children_from ks n before (j ∷ js) = cond (eqb (parent_of ks before j) n) 1 0 + children_from ks n (before ++ j ∷ []) js

-- the number of direct children of record n: the records of the file whose parent it is
abbrev pub children : Kinds → List ℕ → ℕ → ℕ
children ks f n = children_from ks n [] (kinds_of ks f)

-- the parent entry, counted from 1, of a record of kind k that has an entry: its parent's; its own where it has no parent
unfoldable pub parent_entry : Kinds → List ℕ → ℕ → ℕ
parent_entry ks before k =
    cond (eqb (parent_of ks before k) 0) (heads_in ks before + 1)
    (heads_in ks (take (parent_of ks before k) before))

-- an entry's record number, byte place, parent entry and number of direct children
abbrev pub entry : ℕ → ℕ → ℕ → ℕ → Entry
entry n place parent count = record { «record» = n; place = place; parent = parent; children = count }

-- the entry of the record of kind k that comes after those before it
abbrev pub entry_after : Kinds → List ℕ → List ℕ → ℕ → Entry
entry_after ks f before k =
    entry (length before + 1) (place_at bar f (length before + 1) 0) (parent_entry ks before k) (children ks f (length before + 1))

-- the entries of a file, in its order: each record in turn, those before it given
unfoldable pub entries_from : Kinds → List ℕ → List ℕ → List ℕ → List Entry
entries_from ks f before [] = []
entries_from ks f before (j ∷ js) =
    cond (may_head ks j) (entry_after ks f before j ∷ entries_from ks f (before ++ j ∷ []) js)
    (entries_from ks f (before ++ j ∷ []) js)

abbrev pub entries_of : Kinds → List ℕ → List Entry
entries_of ks f = entries_from ks f [] (kinds_of ks f)

-- what is said of a list that was filled: the file's records, and the entries
abbrev pub filled : ℕ → ℕ → Filled
filled n m = record { records = n; entries = m }

-- the reader's refusal, then 19 where the list has no room for all entries; an acceptance gives the records, with the entries beside it
unfoldable pub indexed_by : Result ℕ Refusal → List Entry → ℕ → Result Filled Refusal
indexed_by (Err r) es room = Err r
indexed_by (Ok n) es room = must (leb (length es) room) (Err (whole 19)) (Ok (filled n (length es)))

-- the list afterwards: the entries and then what it held; refused, what it held
unfoldable pub list_by : Result Filled Refusal → List Entry → List Entry → List Entry
list_by (Err r) es old = old
list_by (Ok said) es old = es ++ drop said.entries old

-- the entries of a file by a layout
abbrev pub entries_by : Layout → List ℕ → List Entry
entries_by l f = entries_of (kinds_by l) f

-- the answer by a layout for a file and a list of so many entries
abbrev pub answer_by : Layout → List ℕ → ℕ → Result Filled Refusal
answer_by l f room = indexed_by (placed_by l f) (entries_by l f) room

-- the same for what is asked: where that is refused there are no entries, and its refusal is the answer
abbrev pub entries_for : Asked → List ℕ → List Entry
entries_for (a_flow fl) f = entries_by (layout_for fl) f
entries_for (no_flow r) f = []

abbrev pub answer_for : Asked → List ℕ → ℕ → Result Filled Refusal
answer_for a f room = indexed_by (judged_for a f) (entries_for a f) room

-- the papers' answers: an acceptance gives the records and the entries, a refusal its number, record, field and place
pub data Reply : Type 0 where
  accepted : ℕ → ℕ → Reply
  refused : ℕ → ℕ → ℕ → ℕ → Reply

-- what each case of the code's answer says in the papers' terms
abbrev pub paper : Result Filled Refusal → Reply
paper (Ok said) = accepted said.records said.entries
paper (Err r) = refused r.number r.«record» r.field r.place

-- fill a lent list with the index of a file for what is asked
unfoldable pub indexed : Asked → List ℕ → ℕ → Reply
indexed a f room = paper (answer_for a f room)

-- the list once it has been lent for that
unfoldable pub listed : Asked → List ℕ → List Entry → List Entry
listed a f old = list_by (answer_for a f (length old)) (entries_for a f) old

-- a filling is right: what is said, and what the list holds at the end
pub record FilledRight (a : Asked) (f : List ℕ) (old new : List Entry) (said : Result Filled Refusal) : Type 0 where
  pub says : paper said ≡ indexed a f (length old)
  pub holds : new ≡ listed a f old

-- an entry as four numbers, and some entries, one after the other
abbrev pub numbers_of : Entry → List ℕ
numbers_of e = e.«record» ∷ e.place ∷ e.parent ∷ e.children ∷ []

unfoldable pub cells_of : List Entry → List ℕ
cells_of [] = []
cells_of (e ∷ es) = numbers_of e ++ cells_of es

-- the same list as numbers, four an entry
unfoldable pub cells_by : Result Filled Refusal → List Entry → List ℕ → List ℕ
cells_by (Err r) es old = old
cells_by (Ok said) es old = cells_of es ++ drop (4 * said.entries) old

-- a filling of numbers is right: a list of so many numbers has room for a quarter as many entries
pub record CellsRight (a : Asked) (f old new : List ℕ) (said : Result Filled Refusal) : Type 0 where
  pub says : paper said ≡ indexed a f (length old / 4)
  pub holds : new ≡ cells_by (answer_for a f (length old / 4)) (entries_for a f) old
