-- The value of a field by what the code finds: its record, its place, and the rule of its kind. Assumes nothing.
use Prim.Native.Nat.{ℕ, ◌+◌, ◌-◌, ◌*◌, ◌≤◌, ◌<◌}
use mathlib.Core.Path.{◌≡◌, sym, ap, ◌∙◌}
use mathlib.Core.Bool.{Bool, ◌&&◌}
use mathlib.Core.List.{List}
use native.Mathlib.Omega.{arith}
use lib.ListN.{length, take, drop}
use borrow.Author.Tests.{eq-eqb, ne_eqb}
use Rattle.text.specs.Rules.{must}
use Rattle.text.specs.Characters.{from_to}
use Rattle.record.specs.Records.{records, fields, field, bar}
use Rattle.record.specs.Found.{Stands}
use Rattle.record.proofs.Cursors.{part_length}
use Rattle.record.proofs.Search.{field_stands}
use Rattle.place.specs.Places.{record_at, place_at, refusal_at}
use Rattle.place.proofs.Counted.{counts, counts_not}
use Rattle.place.proofs.Points.{found_field}
use Rattle.field.specs.Judge.{bare, marked, field_answer}
use Rattle.field.specs.declared.FieldType.{FieldType}
use Rattle.field.specs.declared.FieldType.TheVariants as types
use Rattle.field.specs.declared.Content.{Content}
use Rattle.field.specs.declared.Wrong.{Wrong}
use Rattle.field.specs.declared.Mark.{Mark}
use Rattle.layout.specs.Layout.{Rule, no_rule, Layout}
use Rattle.layout.specs.Numbers.{word, type_of, fixed_of, rule_of, layout_of, RulesOf}
use Rattle.layout.proofs.FieldRules.{rule_at, rule_past, type_is}
use Rattle.fault.specs.Record.{kind_of}
use Rattle.value.specs.Value.{is_there, end_of, rule_for, by_rule, numbered, as_value, field_value, value_at}
use Rattle.value.specs.declared.Value.{Value}
use Rattle.value.specs.declared.Value.TheVariants.{Text}
use Rattle.std.specs.Prelude.{Result, Ok, Err}
use Rattle.place.specs.declared.Refusal.{Refusal}

-- field k of a record of kind j, whose m rules stand at p
module _ (t fixed : List ℕ) (j p m : ℕ) (rules : RulesOf t fixed j p m) (k : ℕ) (s : List ℕ) where
  pub ruled : k - 2 < m → (mark : Mark) {type : FieldType} {value : List ℕ} {a : Result Content Wrong}
      → type ≡ type_of (word t (p + 3 * (k - 2))) → marked mark (fixed_of t fixed (p + 3 * (k - 2))) ≡ (rule_of t fixed (p + 3 * (k - 2))).mark
      → value ≡ fixed_of t fixed (p + 3 * (k - 2)) → a ≡ field_answer type (marked mark value) s
      → a ≡ by_rule (rule_for (layout_of t fixed) j k) s
  ruled h mark ty mk v is =
      let q = ty ∙ type_is t fixed (p + 3 * (k - 2)) in
      let w = ap (marked mark) v ∙ mk in
      is ∙ (λ i. field_answer (q i) (w i) s) ∙ sym (ap (λ (r : Rule). by_rule r s) (rule_at t fixed j p m rules no_rule (k - 2) h))

  -- past the rules, null's
  pub unruled : m ≤ k - 2 → {a : Result Content Wrong} → a ≡ field_answer types.Null bare s → a ≡ by_rule (rule_for (layout_of t fixed) j k) s
  unruled h is = is ∙ sym (ap (λ (r : Rule). by_rule r s) (rule_past t fixed j p m rules no_rule (k - 2) h))

module _ (l : Layout) (f : List ℕ) (n k : ℕ) where
  abbrev missing : Result Value Refusal
  missing = Err (refusal_at bar f 18 n k)

  abbrev lastly : Bool → Result Value Refusal
  lastly b = must b missing (field_value l f n k)

  abbrev field_there : List ℕ → Bool
  field_there r = from_to 1 (length (fields bar r)) k

  -- there is no such record
  pub no_record : (1 ≤ n → length (records f) < n) → missing ≡ value_at l f n k
  unfolding value_at is_there
  no_record h = sym (ap (λ (b : Bool). lastly (b && field_there (record_at f n))) (counts_not (length (records f)) n h))

  -- there is, and it is the bytes r
  module _ {start end : ℕ} (x : Stands (records f) f n start end) where
    abbrev r : List ℕ
    r = take (end - start) (drop start f)

    there_is : field_there r ≡ is_there f n k
    unfolding is_there
    there_is =
        let yes = counts (length (records f)) n x.least x.most in
        λ i. sym yes i && field_there (x.is.is i)

    -- there is no such field in it
    pub no_field : (1 ≤ k → length (fields bar r) < k) → missing ≡ value_at l f n k
    unfolding value_at
    no_field h = sym (ap lastly (sym there_is ∙ counts_not (length (fields bar r)) k h))

    -- there is, and it stands from a up to e in the record
    module _ {a e : ℕ} (y : Stands (fields bar r) r k a e) where
      abbrev s : List ℕ
      s = take (e - a) (drop a r)

      bytes_are : s ≡ field bar k (record_at f n)
      bytes_are = (field_stands bar k r y).is ∙ ap (field bar k) x.is.is

      placed : (start + a ≡ place_at bar f n k) × (start + e ≡ end_of f n k)
      placed =
          let q = found_field bar f n k x y in
          (q, omega (arith, q, y.is.ordered, part_length r a e y.is.ordered y.is.within, ap length bytes_are))

      found : value_at l f n k ≡ field_value l f n k
      unfolding value_at
      found = ap lastly (sym there_is ∙ counts (length (fields bar r)) k y.least y.most)

      -- a kind
      pub kind_value : k ≡ 1 → Ok (Text (start + a) (start + e)) ≡ value_at l f n k
      unfolding field_value
      kind_value z = (λ i. Ok (Text (placed.0 i) (placed.1 i))) ∙ sym (found ∙ rw (eq-eqb k 1 z))

      -- any other field
      pub ruled_value : (k ≡ 1 → ⊥) → {j : ℕ} {answer : Result Content Wrong} {v : Result Value Refusal} → j ≡ kind_of bar l r → answer ≡ by_rule (rule_for l j k) s
          → v ≡ as_value n k (start + a) (start + e) (numbered answer) → v ≡ value_at l f n k
      unfolding field_value
      ruled_value z kind is v =
          let j = kind ∙ ap (kind_of bar l) x.is.is in
          v ∙ (λ i. as_value n k (placed.0 i) (placed.1 i) (numbered ((is ∙ (λ i. by_rule (rule_for l (j i) k) (bytes_are i))) i))) ∙ sym (found ∙ rw (ne_eqb k 1 z))
