-- Laws of keys: the last one by the slots, and the type of a kind's key field. Assumes nothing.
use Prim.Native.Nat.{ℕ, ◌+◌, ◌-◌, ◌*◌, ◌≤◌, ◌<◌}
use mathlib.Core.Path.{◌≡◌, sym, ap, ◌∙◌}
use mathlib.Core.List.{List, []}
use lib.ListN.{get_or, take, drop}
use borrow.Author.Tests.{lt-ltb, le-ltb}
use Rattle.field.specs.declared.FieldType.{FieldType}
use Rattle.field.specs.declared.FieldType.TheVariants as types
use Rattle.layout.specs.Layout.{Rule, no_rule, Layout, row}
use Rattle.layout.specs.Numbers.{word, type_of, layout_of, RulesOf}
use Rattle.layout.proofs.FieldRules.{rule_at, rule_past, type_is}
use Rattle.fault.specs.Record.{key_type}
use Rattle.fault.specs.Code.{key_in_slots}

-- the last key: its record n is later than the record h that heads the set, or it is not
module _ (l : Layout) (file slots : List ℕ) (k : ℕ) {h n : ℕ} (head : h ≡ get_or slots (3 * (row l k).head) 0) (own : n ≡ get_or slots (3 * k) 0) {p : List ℕ} where
  pub key_since : {a len : ℕ} → a ≡ get_or slots (3 * k + 1) 0 → len ≡ get_or slots (3 * k + 2) 0 → p ≡ take len (drop a file) → h < n → p ≡ key_in_slots l file slots k
  key_since start long is q = rw (sym head, sym own, sym start, sym long, lt-ltb _ _ q) is

  pub key_anew : p ≡ [] → n ≤ h → p ≡ key_in_slots l file slots k
  key_anew is q = rw (sym head, sym own, le-ltb _ _ q) is

-- the key's type is that of its rule, f places on; null where there is no such rule
module _ (t fixed : List ℕ) (k p n : ℕ) (rules : RulesOf t fixed k p n) {f : ℕ} (place : f ≡ (row (layout_of t fixed) k).key - 2) where
  abbrev found : ℕ → FieldType
  found j = (get_or (row (layout_of t fixed) k).rules j no_rule).type

  pub key_ruled : f < n → {type : FieldType} → type ≡ type_of (word t (p + 3 * f)) → type ≡ key_type (layout_of t fixed) k
  key_ruled h is =
      is ∙ type_is t fixed (p + 3 * f) ∙ sym (ap (λ (r : Rule). r.type) (rule_at t fixed k p n rules no_rule f h)) ∙ ap found place

  pub key_unruled : n ≤ f → types.Null ≡ key_type (layout_of t fixed) k
  key_unruled h = sym (ap (λ (r : Rule). r.type) (rule_past t fixed k p n rules no_rule f h)) ∙ ap found place
