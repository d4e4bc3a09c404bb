-- What is wrong with one record of a kind, given how many records stand before it, the last of their kinds, their checksum and the
-- key before (document 01, refusals 4 to 13). Fields are parted by the byte sep, a bar in a file. Assumes nothing.
use Rattle.std.specs.Prelude.{ℕ, ◌+◌, ◌-◌, Bool, true, false, cond, not, ◌||◌, List, eqb, length, drop, get_or}
use Rattle.text.specs.Rules.{must}
use Rattle.std.specs.declared.cmp.Ordering.{Ordering}
use Rattle.std.specs.declared.cmp.Ordering.TheVariants.{Less, Equal, Greater}
use Rattle.record.specs.Records.{fields, field}
use Rattle.number.specs.Numbers.{spelled}
use Rattle.field.specs.Keys.{key_order}
use Rattle.field.specs.declared.FieldType.{FieldType}
use Rattle.layout.specs.Layout.{Rule, no_rule, Layout, row, may_follow, kind_named, is_footer}
use Rattle.fault.specs.Fields.{Check, fine, fault, also, fields_fault}

-- the kind of a record, by its first field; 0 where the flow has no such kind
abbrev pub kind_of : ℕ → Layout → List ℕ → ℕ
kind_of sep l r = kind_named l (field sep 1 r)

-- the key of a record of kind k
abbrev pub key_in : ℕ → Layout → ℕ → List ℕ → List ℕ
key_in sep l k r = field sep (row l k).key r

-- the type of a kind's key field
abbrev pub key_type : Layout → ℕ → FieldType
key_type l k = (get_or (row l k).rules ((row l k).key - 2) no_rule).type

-- the key before stands below, or is equal where a key may repeat
abbrev pub keys_in_order : Bool → Ordering → Bool
keys_in_order repeats Less = true
keys_in_order repeats Equal = repeats
keys_in_order repeats Greater = false

-- keys ascend: the first of a set has none before it, any other is in order with the one before
abbrev pub ascending : Bool → FieldType → List ℕ → List ℕ → Bool
ascending repeats t old key = eqb (length old) 0 || keys_in_order repeats (key_order t old key)

-- 4 the kind is none of the flow's, 5 the grammar has no such kind here
unfoldable pub place_fault : Layout → ℕ → ℕ → Check
place_fault l last k =
    must (not (eqb k 0)) (fault 4 1)
    (must (may_follow l last k) (fault 5 1)
    fine)

-- 6 wrong number of fields, then those from 2 on by their rules, 7 to 10
unfoldable pub shape_fault : ℕ → List Rule → List ℕ → Check
shape_fault sep rules r =
    must (eqb (length (fields sep r)) (length rules + 1)) (fault 6 0)
    (fields_fault rules (drop 1 (fields sep r)) 2)

-- 11 key out of its order; a kind without a key has nothing to keep
unfoldable pub key_fault : Layout → ℕ → List ℕ → List ℕ → Check
key_fault l k old key =
    must (eqb (row l k).key 0 || ascending (row l k).repeats (key_type l k) old key) (fault 11 (row l k).key)
    fine

-- 12 record count wrong, 13 checksum wrong: of a footer with n records before it that have this sum
unfoldable pub footer_fault : ℕ → Layout → ℕ → ℕ → ℕ → List ℕ → Check
footer_fault sep l n sum k r =
    cond (is_footer l k)
    (must (spelled (n + 1) (field sep 2 r)) (fault 12 2)
    (must (spelled sum (field sep 3 r)) (fault 13 3)
    fine))
    fine

-- the first fault of a record of kind k, where n records stand before it, the last of them of kind last, with this sum, and this
-- key before
unfoldable pub kind_fault : ℕ → Layout → ℕ → ℕ → ℕ → List ℕ → ℕ → List ℕ → Check
kind_fault sep l n last sum old k r =
    also (place_fault l last k)
    (also (shape_fault sep (row l k).rules r)
    (also (key_fault l k old (key_in sep l k r))
    (footer_fault sep l n sum k r)))
