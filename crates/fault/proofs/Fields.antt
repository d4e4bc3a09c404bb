-- Laws of the fields of one record: each by number, and each by its rule. Assumes nothing.
use Prim.Native.Nat.{ℕ, ◌+◌, ◌-◌, ◌*◌, ◌≤◌, ◌<◌}
use mathlib.Core.Path.{◌≡◌, refl, sym, ap, ◌∙◌}
use mathlib.Core.Bool.{Bool, true, false, cond, ◌||◌}
use mathlib.Core.List.{List, [], ◌∷◌}
use native.Mathlib.Decide.{dec_lt}
use native.Mathlib.Omega.{arith}
use lib.Dec.{eqb}
use lib.ListN.{length, take, drop, get_or, get_or-eq_default}
use lib.Seq.{drop-drop, get_or-drop}
use borrow.Author.Tests.{eq-eqb, ne_eqb, eqb-true, eqb-false}
use Rattle.text.specs.Rules.{must}
use Rattle.record.specs.Records.{fields, field, fields_from, run, IsPart}
use Rattle.record.specs.Step.{IsField}
use Rattle.record.proofs.Cursors.{from_past, field_found, part_length}
use Rattle.record.proofs.Fields.{from_start, field_number, by_number}
use Rattle.std.specs.Prelude.{Result, Ok, Err}
use Rattle.field.specs.Types.{is_null}
use Rattle.field.specs.Judge.{bare, may_be_empty, meets_mark, filled, field_answer, number_of, refusal_of}
use Rattle.field.specs.declared.Content.{Content}
use Rattle.field.specs.declared.Content.TheVariants.{Empty}
use Rattle.field.specs.declared.Wrong.{Wrong}
use Rattle.field.specs.declared.Wrong.TheVariants.{Missing, Form, Range, Fixed, Width}
use Rattle.field.proofs.Filled.{then_mark, mark_last}
use Rattle.layout.specs.Layout.{Rule}
use Rattle.layout.specs.Leaves.{may_be_empty_by, filled_by}
use Rattle.layout.specs.Numbers.{rule_of, rules_from, layout_of}
use Rattle.layout.proofs.Names.{find_long}
use Rattle.layout.proofs.FieldRules.{from_length, from_drop, from_done}
use Rattle.fault.specs.Fields.{Check, fine, fault_at, fault, field_fault, fields_fault}
use Rattle.fault.specs.Record.{kind_of, shape_fault}
use Rattle.fault.specs.declared.Fault.{Fault}
use Rattle.record.specs.declared.Span.{Span}

-- the first field of a record, and the others
module _ (sep : ℕ) (r : List ℕ) {a e n : ℕ} (x : IsField sep r 0 a e n) where
  cut : fields sep r ≡ take (e - a) (drop a r) ∷ fields_from sep n r
  cut = sym (from_start sep r) ∙ x.splits

  pub first_is : take (e - a) (drop a r) ≡ field sep 1 r
  first_is = sym (field_number sep 0 r ∙ ap (λ (l : List (List ℕ)). get_or l 0 []) cut)

  pub rest_is : fields_from sep n r ≡ drop 1 (fields sep r)
  rest_is = sym (ap (drop 1) cut)

  first_length : length (field sep 1 r) ≡ e
  first_length =
      let z = x.starts in
      omega (arith, ap length (sym first_is), part_length r a e x.ordered x.within)

-- the name of a known kind has three bytes: there the first field ends
module _ (sep : ℕ) (t fixed r : List ℕ) (known : kind_of sep (layout_of t fixed) r ≡ 0 → ⊥) where
  kind_go : (b : Bool) → eqb (length (field sep 1 r)) 3 ≡ b → length (field sep 1 r) ≡ 3
  kind_go true h = eqb-true _ _ h
  kind_go false h = absurd (known (find_long t fixed (field sep 1 r) (eqb-false _ _ h)))

  pub kind_ends : IsField sep r 0 0 3 4
  kind_ends =
      let e = 0 + run sep (drop 0 r) in
      let x = field_found sep r 0 e (omega arith) refl in
      let z : e ≡ 3 = sym (first_length sep r x) ∙ kind_go (eqb (length (field sep 1 r)) 3) refl in
      rw z at x

-- no bytes are a part of any
pub none_part : (s : List ℕ) {p : List ℕ} → [] ≡ p → IsPart s 0 0 p
none_part s e = record { ordered = omega arith; within = omega arith; is = e }

pub field_zero : (sep k : ℕ) (r : List ℕ) → k ≡ 0 → IsPart r 0 0 (field sep k r)
unfolding field
field_zero sep k r h = rw h (none_part r refl)

-- a refusal's number is not 0
pub number_some : (wrong : Wrong) → number_of wrong ≡ 0 → ⊥
number_some Missing e = omega arith
number_some Form e = omega arith
number_some Range e = omega arith
number_some Fixed e = omega arith
number_some Width e = omega arith

-- one field under a rule: an empty one, or a filled one by its type first, then by its mark
field_go : (null none may met : Bool) (typed whole : Result Content Wrong) → whole ≡ then_mark met typed
    → refusal_of (cond null (must none (Err Fixed) (Ok Empty)) (cond none (must may (Err Missing) (Ok Empty)) whole))
    ≡ cond none (cond (null || may) 0 7) (refusal_of (then_mark met (cond null (Err Fixed) typed)))
field_go true true may met typed whole e = refl
field_go true false may met typed whole e = refl
field_go false true true met typed whole e = refl
field_go false true false met typed whole e = refl
field_go false false may met typed whole e = ap refusal_of e

pub field_by : (rule : Rule) (s : List ℕ)
    → field_fault rule s ≡ cond (eqb (length s) 0) (cond (may_be_empty_by rule) 0 7) (refusal_of (then_mark (meets_mark rule.mark s) (filled_by rule s)))
unfolding field_fault field_answer
field_by rule s =
    field_go (is_null rule.type) (eqb (length s) 0) (may_be_empty rule.mark) (meets_mark rule.mark s) (filled rule.type bare s) (filled rule.type rule.mark s)
    (mark_last rule.type rule.mark s)

abbrev span_at : ℕ → ℕ → Span
span_at start end = record { start = start; end = end }

-- what is said by the rules from f on of the fields from the place at on
abbrev left_of : List ℕ → List ℕ → ℕ → ℕ → ℕ → List ℕ → ℕ → ℕ → Check
left_of t fixed p n sep r f at = fields_fault (drop f (rules_from t fixed p n)) (fields_from sep at r) (f + 2)

module _ (t fixed : List ℕ) (p n sep : ℕ) (r : List ℕ) where
  all_left : (at : ℕ) → fields_from sep at r ≡ drop 1 (fields sep r)
      → left_of t fixed p n sep r 0 at ≡ fields_fault (rules_from t fixed p n) (drop 1 (fields sep r)) 2
  all_left at e = ap (λ (l : List (List ℕ)). fields_fault (rules_from t fixed p n) l 2) e

  module _ (f at : ℕ) where
    no_rule_lem : n ≤ f → fine ≡ left_of t fixed p n sep r f at
    unfolding fields_fault
    no_rule_lem h = rw (from_done t fixed p n f h)

    module _ (h : f < n) {a e m : ℕ} (x : IsField sep r at a e m) {number : ℕ} (is : number ≡ field_fault (rule_of t fixed (p + 3 * f)) (take (e - a) (drop a r))) where
      field_fails : (number ≡ 0 → ⊥) → fault number (f + 2) ≡ left_of t fixed p n sep r f at
      unfolding fields_fault
      field_fails z = rw (from_drop t fixed p n f h, x.splits, sym is, ne_eqb _ _ z)

      field_passes : number ≡ 0 → left_of t fixed p n sep r (f + 1) m ≡ left_of t fixed p n sep r f at
      unfolding fields_fault
      field_passes z =
          let q : f + 1 + 2 ≡ f + 2 + 1 = omega arith in
          rw (from_drop t fixed p n f h, x.splits, sym is, eq-eqb _ _ z, q)

-- where f of the fields from 2 on are read by n rules: the others start at the place at, what is said of them is what is said of all,
-- and field key, if it is read, stands at the span
pub record Reading (t fixed : List ℕ) (p n sep key : ℕ) (r : List ℕ) (f at : ℕ) (span : Span) : Type 0 where
  pub upto : f ≤ n
  pub rest : fields_from sep at r ≡ drop (f + 1) (fields sep r)
  pub counted : length (fields sep r) ≡ f + 1 + length (fields_from sep at r)
  pub same : left_of t fixed p n sep r f at ≡ fields_fault (rules_from t fixed p n) (drop 1 (fields sep r)) 2
  pub found : key < f + 2 → IsPart r span.start span.end (field sep key r)
  pub ahead : f + 2 ≤ key → span ≡ span_at 0 0

module _ (t fixed : List ℕ) (p n sep key : ℕ) (r : List ℕ) where
  abbrev rules : List Rule
  rules = rules_from t fixed p n

  abbrev count : ℕ
  count = length (fields sep r)

  -- the kind is read
  module _ (x : IsField sep r 0 0 3 4) {span : Span} where
    first_found : (b : Bool) → eqb key 1 ≡ b → span ≡ cond b (span_at 0 3) (span_at 0 0) → key < 2 → IsPart r span.start span.end (field sep key r)
    first_found true h s l =
        rw (s, eqb-true key 1 h) (record { ordered = omega arith; within = x.within; is = first_is sep r x })
    first_found false h s l = rw s (field_zero sep key r (omega (arith, eqb-false key 1 h)))

    first_ahead : (b : Bool) → eqb key 1 ≡ b → span ≡ cond b (span_at 0 3) (span_at 0 0) → 2 ≤ key → span ≡ span_at 0 0
    first_ahead true h s l = absurd (omega (arith, eqb-true key 1 h))
    first_ahead false h s l = s

    pub reading_kind : span ≡ cond (eqb key 1) (span_at 0 3) (span_at 0 0) → Reading t fixed p n sep key r 0 4 span
    reading_kind s =
        record {
          upto = omega arith;
          rest = rest_is sep r x;
          counted = omega (arith, ap length (cut sep r x));
          same = all_left t fixed p n sep r 4 (rest_is sep r x);
          found = first_found (eqb key 1) refl s;
          ahead = first_ahead (eqb key 1) refl s;
        }

  module _ {f at : ℕ} {span : Span} (w : Reading t fixed p n sep key r f at span) where
    -- one field more
    module _ {i j m : ℕ} (x : IsField sep r at i j m) where
      split : take (j - i) (drop i r) ∷ fields_from sep m r ≡ drop (f + 1) (fields sep r)
      split = sym x.splits ∙ w.rest

      here_is : take (j - i) (drop i r) ≡ field sep (f + 2) r
      here_is =
          let z : f + 1 + 0 ≡ f + 2 - 1 = omega arith in
          ap (λ (l : List (List ℕ)). get_or l 0 []) split ∙ get_or-drop (f + 1) (fields sep r) 0 []
          ∙ ap (λ (k : ℕ). get_or (fields sep r) k []) z ∙ by_number sep (f + 2) r (omega arith)

      module _ {next : Span} where
        next_found : (b : Bool) → eqb (f + 2) key ≡ b → next ≡ cond b (span_at i j) span → key < f + 1 + 2 → IsPart r next.start next.end (field sep key r)
        next_found true h s l = rw (s, sym (eqb-true (f + 2) key h)) (record { ordered = x.ordered; within = x.within; is = here_is })
        next_found false h s l = rw s (w.found (omega (arith, eqb-false (f + 2) key h)))

        next_ahead : (b : Bool) → eqb (f + 2) key ≡ b → next ≡ cond b (span_at i j) span → f + 1 + 2 ≤ key → next ≡ span_at 0 0
        next_ahead true h s l = absurd (omega (arith, eqb-true (f + 2) key h))
        next_ahead false h s l = s ∙ w.ahead (omega arith)

      module _ (h : f < n) {number : ℕ} (is : number ≡ field_fault (rule_of t fixed (p + 3 * f)) (take (j - i) (drop i r))) where
        pub reading_next : number ≡ 0 → {next : Span} → next ≡ cond (eqb (f + 2) key) (span_at i j) span → Reading t fixed p n sep key r (f + 1) m next
        reading_next z s =
            record {
              upto = omega arith;
              rest = ap (drop 1) split ∙ drop-drop 1 (f + 1) (fields sep r);
              counted = omega (arith, w.counted, ap length x.splits);
              same = field_passes t fixed p n sep r f at h x is z ∙ w.same;
              found = next_found (eqb (f + 2) key) refl s;
              ahead = next_ahead (eqb (f + 2) key) refl s;
            }

        -- or it is wrong, and a wrong number of fields comes first
        pub reading_wrong : (number ≡ 0 → ⊥) → shape_fault sep (rules_from t fixed p n) r ≡ must (eqb (length (fields sep r)) (n + 1)) (fault 6 0) (fault number (f + 2))
        unfolding shape_fault
        reading_wrong z =
            let q = field_fails t fixed p n sep r f at h x is z ∙ w.same in
            λ i. must (eqb count (from_length t fixed p n i + 1)) (fault 6 0) (sym q i)

    -- too few fields
    pub reading_short : f < n → length r < at → shape_fault sep (rules_from t fixed p n) r ≡ fault 6 0
    unfolding shape_fault
    reading_short h l =
        let q : count ≡ length rules + 1 → ⊥ = λ z. omega (arith, w.counted, ap length (from_past sep at r l), from_length t fixed p n) in
        rw (ne_eqb _ _ q)

    module _ (all : n ≤ f) where
      -- too many
      pub reading_over : {i j m : ℕ} → IsField sep r at i j m → shape_fault sep (rules_from t fixed p n) r ≡ fault 6 0
      unfolding shape_fault
      reading_over x =
          let q : count ≡ length rules + 1 → ⊥ = λ z. omega (arith, w.counted, w.upto, ap length x.splits, from_length t fixed p n) in
          rw (ne_eqb _ _ q)

      -- as many as there are rules
      module _ (l : length r < at) where
        counted_all : count ≡ n + 1
        counted_all = omega (arith, w.counted, w.upto, ap length (from_past sep at r l))

        key_go : Dec (key < f + 2) → IsPart r span.start span.end (field sep key r)
        key_go (yes h) = w.found h
        key_go (no h) =
            let past : length (fields sep r) ≤ key - 1 = omega (arith, counted_all, w.upto) in
            rw (w.ahead (omega arith))
            (none_part r (sym (get_or-eq_default (fields sep r) [] {n = key - 1} past) ∙ by_number sep key r (omega arith)))

        pub reading_done : (shape_fault sep (rules_from t fixed p n) r ≡ fine) × IsPart r span.start span.end (field sep key r)
        unfolding shape_fault
        reading_done =
            let q : count ≡ length rules + 1 = omega (arith, counted_all, from_length t fixed p n) in
            (rw (eq-eqb _ _ q) (sym (no_rule_lem t fixed p n sep r f at all ∙ w.same)), key_go (dec_lt key (f + 2)))

-- a fault before which a wrong number of fields comes
pub shape_wrong : (b : Bool) (number f : ℕ) {wrong : Fault} {c : Check} → wrong ≡ must b (fault_at 6 0) (fault_at number f)
    → c ≡ must b (fault 6 0) (fault number f) → c ≡ Err wrong
shape_wrong true number f e q = q ∙ ap Err (sym e)
shape_wrong false number f e q = q ∙ ap Err (sym e)
