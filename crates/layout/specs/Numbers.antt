-- A layout as numbers and bytes that are lent: two numbers of head (how many rows; 1 if the last line feed is needed), then six
-- for each row (name, followers, place of its rules, how many, key, head). A rule is three numbers (type, mark, place of the
-- fixed value among the bytes). Any numbers are some layout: counts are cut to the room that there is, widths are clipped,
-- and what stands past the end reads as 0. Assumes nothing.
use Rattle.std.specs.Prelude.{ℕ, zero, suc, ◌+◌, ◌-◌, ◌*◌, ◌/◌, ◌%◌, ◌≤◌, min, ◌≡◌, Bool, cond, List, [], ◌∷◌, eqb, leb, get_or, length, take, drop}
use Rattle.field.specs.Judge.{Marked}
use Rattle.field.specs.Codes.{type_coded, mark_coded}
use Rattle.field.specs.declared.FieldType.{FieldType}
use Rattle.layout.specs.Layout.{Rule, KindRow, Layout, row}

-- f at i, and at each of the n - 1 numbers after it
unfoldable pub each {ℓ} : {A : Type ℓ} → (ℕ → A) → ℕ → ℕ → List A
each f i zero = []
each f i (suc n) = f i ∷ each f (suc i) n

-- the number at i, or 0 past the end
abbrev pub word : List ℕ → ℕ → ℕ
word t i = get_or t i 0

-- the type's code is the lowest octal digit, the width stands above it (to 1023), the places of a dec above that
unfoldable pub type_of : ℕ → FieldType
type_of w = type_coded (w % 8) (w / 8 % 1024) (min (w / 8 % 1024) 18) (w / 8192 % 32)

-- the bytes of the fixed value of the rule at p: its length stands above the mark, its place among the bytes in the number after
unfoldable pub fixed_of : List ℕ → List ℕ → ℕ → List ℕ
fixed_of t bytes p = take (word t (p + 1) / 4 % 1024) (drop (word t (p + 2)) bytes)

-- the mark's code is the lowest two bits
unfoldable pub mark_of : ℕ → List ℕ → Marked
mark_of w value = mark_coded (w % 4) value

-- the rule at place p
unfoldable pub rule_of : List ℕ → List ℕ → ℕ → Rule
rule_of t bytes p = record { type = type_of (word t p); mark = mark_of (word t (p + 1)) (fixed_of t bytes p) }

-- n rules from place p on
unfoldable pub rules_from : List ℕ → List ℕ → ℕ → ℕ → List Rule
rules_from t bytes p n = each (λ f. rule_of t bytes (p + 3 * f)) 0 n

-- as many of them as the numbers have room for
abbrev pub rules_at : List ℕ → List ℕ → ℕ → ℕ → List Rule
rules_at t bytes p n = rules_from t bytes (min p (length t)) (min n ((length t - min p (length t)) / 3))

-- as many rows as the numbers have room for, and at most the start and 32 kinds
abbrev pub row_count : List ℕ → ℕ
row_count t = min (min (word t 0) 33) ((length t - 2) / 6)

-- number j of row k
abbrev pub cell : List ℕ → ℕ → ℕ → ℕ
cell t k j = word t (k * 6 + 2 + j)

-- a name's three bytes, the first the highest
abbrev pub name_of : ℕ → List ℕ
name_of w = w / 65536 % 256 ∷ w / 256 % 256 ∷ w % 256 ∷ []

-- the key field stands below 1024; a 1 above it lets the key repeat
abbrev pub key_of : ℕ → ℕ
key_of w = w % 1024

abbrev pub repeats_of : ℕ → Bool
repeats_of w = eqb (w / 1024) 1

-- row k
unfoldable pub row_of : List ℕ → List ℕ → ℕ → KindRow
row_of t bytes k =
    record {
      name = name_of (cell t k 0);
      next = cell t k 1;
      rules = rules_at t bytes (cell t k 2) (cell t k 3);
      key = key_of (cell t k 4);
      repeats = repeats_of (cell t k 4);
      head = cell t k 5;
    }

-- the layout that numbers and bytes are
unfoldable pub layout_of : List ℕ → List ℕ → Layout
layout_of t bytes = record { rows = each (row_of t bytes) 0 (row_count t); feed = eqb (word t 1) 1 }

-- number j of row k, or 0 where there is no such row
abbrev pub row_word : List ℕ → ℕ → ℕ → ℕ
row_word t k j = cond (leb (row_count t) k) 0 (cell t k j)

-- the rules of kind k stand at p, n of them, and within the numbers
pub record RulesOf (t bytes : List ℕ) (k p n : ℕ) : Type 0 where
  pub are : rules_from t bytes p n ≡ (row (layout_of t bytes) k).rules
  pub within : p + 3 * n ≤ length t
