-- A made-up table of two kinds, computed: it decodes to the layout that is written out. Assumes nothing.
use Prim.Native.Nat.{ℕ}
use mathlib.Core.Path.{◌≡◌, refl}
use mathlib.Core.Bool.{true, false}
use mathlib.Core.List.{List, [], ◌∷◌}
use Rattle.field.specs.Judge.{bare, opt, fixed}
use Rattle.field.specs.declared.FieldType.TheVariants as types
use Rattle.layout.specs.Layout.{Layout, among, may_follow, find, kind_named, is_footer}
use Rattle.layout.specs.Numbers.{each, type_of, fixed_of, mark_of, rule_of, rules_from, row_of, layout_of}

-- three rows and a needed line feed; the rows; the rules. The last row asks for nine rules, and there is room for one
abbrev numbers : List ℕ
numbers =
    3 ∷ 1
    ∷ 0 ∷ 1 ∷ 0 ∷ 0 ∷ 0 ∷ 0
    ∷ 4276545 ∷ 3 ∷ 20 ∷ 2 ∷ 2 ∷ 0
    ∷ 4342338 ∷ 0 ∷ 26 ∷ 9 ∷ 1026 ∷ 1
    ∷ 32 ∷ 14 ∷ 1
    ∷ 16546 ∷ 1 ∷ 0
    ∷ 6 ∷ 0 ∷ 0
    ∷ []

-- xABCy
abbrev bytes : List ℕ
bytes = 120 ∷ 65 ∷ 66 ∷ 67 ∷ 121 ∷ []

-- kinds AAA and BBB, whose key may repeat; the width 20 of the dec is clipped
abbrev written : Layout
written =
    record {
      rows =
          record { name = 0 ∷ 0 ∷ 0 ∷ []; next = 1; rules = []; key = 0; repeats = false; head = 0 }
          ∷ record {
            name = 65 ∷ 65 ∷ 65 ∷ [];
            next = 3;
            rules =
                record { type = types.Text 4; mark = fixed (65 ∷ 66 ∷ 67 ∷ []) }
                ∷ record { type = types.Dec 18 2; mark = opt }
                ∷ [];
            key = 2;
            repeats = false;
            head = 0;
          }
          ∷ record {
            name = 66 ∷ 66 ∷ 66 ∷ [];
            next = 0;
            rules = record { type = types.Period; mark = bare } ∷ [];
            key = 2;
            repeats = true;
            head = 1;
          }
          ∷ [];
      feed = true;
    }

decodes : layout_of numbers bytes ≡ written
unfolding layout_of each row_of rules_from rule_of type_of mark_of fixed_of
decodes = refl

-- no numbers at all are a layout without kinds
nothing : layout_of [] [] ≡ record { rows = []; feed = false }
unfolding layout_of each
nothing = refl

named : kind_named written (66 ∷ 66 ∷ 66 ∷ []) ≡ 2
unfolding find
named = refl

-- AAA comes first, AAA and BBB follow it, nothing follows BBB
first : may_follow written 0 2 ≡ false
unfolding among
first = refl

second : may_follow written 1 2 ≡ true
unfolding among
second = refl

last : is_footer written 2 ≡ true
last = refl
