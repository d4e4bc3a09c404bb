-- Demand 2 in plain terms: what makes a file right for a flow. No table is in sight: the grammar is the published one, and a
-- record must be as its kind is published. Assumes nothing.
use Rattle.std.specs.Prelude.{ℕ, ◌+◌, ◌-◌, ◌≤◌, ◌<◌, ◌≡◌, Bool, true, false, cond, List, [], ◌∷◌, ◌++◌, map, length, get_or, Err}
use Rattle.text.specs.Order.{same_bytes}
use Rattle.std.specs.declared.cmp.Ordering.{Ordering}
use Rattle.std.specs.declared.cmp.Ordering.TheVariants.{Less, Greater}
use Rattle.record.specs.Records.{records, fields, field, bar}
use Rattle.checksum.specs.Checksum.{checksum as sum_of_records}
use Rattle.number.specs.Numbers.{spelled}
use Rattle.field.specs.Judge.{field_answer}
use Rattle.field.specs.Keys.{key_order}
use Rattle.field.specs.declared.Wrong.{Wrong}
use Rattle.layout.specs.Layout.{Rule}
use Rattle.grammar.specs.Sets.{Under}
use Rattle.flow.specs.Publication.{Flow, PublishedKind, kind, null, key_type_for}
use Rattle.flow.specs.Editions.{Asked, a_flow}

-- the kind of a record is its first field
abbrev pub kind_in : List ℕ → List ℕ
kind_in r = field bar 1 r

-- no record among these is of this kind
abbrev pub NoneOfKind : List ℕ → List (List ℕ) → Type 0
NoneOfKind k [] = Unit
NoneOfKind k (r ∷ rs) = (kind_in r ≡ k → ⊥) × NoneOfKind k rs

-- the published kind of this name; one without fields and key where there is none
abbrev pub published_as : List PublishedKind → List ℕ → PublishedKind
published_as [] name = kind name []
published_as (k ∷ ks) name = cond (same_bytes k.name name) k (published_as ks name)

-- the published kind of a record
abbrev pub published_for : Flow → List ℕ → PublishedKind
published_for flow r = published_as flow.kinds (kind_in r)

-- a field meets its rule: it is not refused
abbrev pub Meets : Rule → List ℕ → Type 0
Meets rule s = (wrong : Wrong) → field_answer rule.type rule.mark s ≡ Err wrong → ⊥

-- besides its kind a record has as many fields as there are rules, and each, from field 2 on, meets its rule
pub record Typed (rules : List Rule) (r : List ℕ) : Type 0 where
  pub field_count : length (fields bar r) ≡ length rules + 1
  pub each_field : (i : ℕ) → i < length rules → Meets (get_or rules i null) (field bar (i + 2) r)

-- a key that may repeat does not fall; any other rises
abbrev pub KeysInOrder : Bool → Ordering → Type 0
KeysInOrder true order = order ≡ Greater → ⊥
KeysInOrder false order = order ≡ Less

-- where the kind has a key, that of q and that of r are in order
abbrev pub Ascends : PublishedKind → List ℕ → List ℕ → Type 0
Ascends k q r = (k.key ≡ 0 → ⊥) → KeysInOrder k.repeats (key_order (key_type_for k) (field bar k.key q) (field bar k.key r))

-- a file of n records is right for a flow
pub record RightFor (flow : Flow) (f : List ℕ) (n : ℕ) : Type 0 where
  -- the file has at most 1,048,576 bytes
  pub limit : length f ≤ 1048576
  -- each record has at most 512
  pub record_limit : (before : List (List ℕ)) (r : List ℕ) (after : List (List ℕ)) → records f ≡ before ++ r ∷ after → length r ≤ 512
  -- the kinds of the records stand under the published grammar
  pub grammar : Under flow.grammar (map kind_in (records f))
  -- each record has the fields that are published for its kind
  pub typed : (before : List (List ℕ)) (r : List ℕ) (after : List (List ℕ)) → records f ≡ before ++ r ∷ after
      → Typed (published_for flow r).fields r
  -- keys ascend: from a record of a kind to the next of it, unless a record between them heads their set
  pub keys : (before : List (List ℕ)) (q : List ℕ) (between : List (List ℕ)) (r : List ℕ) (after : List (List ℕ))
      → records f ≡ before ++ q ∷ (between ++ r ∷ after) → kind_in q ≡ kind_in r
      → NoneOfKind (kind_in r) between → NoneOfKind (published_for flow r).within between → Ascends (published_for flow r) q r
  -- field 2 of the last record, which is the footer, is the number of all records
  pub count : (before : List (List ℕ)) (footer : List ℕ) → records f ≡ before ++ footer ∷ []
      → spelled (length (records f)) (field bar 2 footer) ≡ true
  -- its field 3 is the checksum of the records before it
  pub checksum : (before : List (List ℕ)) (footer : List ℕ) → records f ≡ before ++ footer ∷ []
      → spelled (sum_of_records before) (field bar 3 footer) ≡ true
  -- where the flow needs it, the last byte is a line feed
  pub last_feed : flow.feed ≡ true → get_or f (length f - 1) 0 ≡ 0x0A
  -- n is the number of records
  pub counted : n ≡ length (records f)

-- a file of n records is right for what is asked
pub record Right (a : Asked) (f : List ℕ) (n : ℕ) : Type 0 where
  -- that is a flow that we hold
  pub flow : Flow
  pub is_held : a ≡ a_flow flow
  -- the file is right for it
  pub file : RightFor flow f n
