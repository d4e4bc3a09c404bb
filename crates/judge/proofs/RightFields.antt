-- What a record without a fault holds, rule by rule. Assumes nothing.
use Prim.Native.Nat.{ℕ, zero, suc, ◌+◌, ◌≤◌, ◌<◌}
use mathlib.Core.Path.{◌≡◌, refl, sym, ap, ◌∙◌}
use mathlib.Core.Bool.{Bool, true, false, cond, not, false≢true}
use mathlib.Core.List.{List, [], ◌∷◌, ◌++◌, append-nil}
use native.Mathlib.Omega.{arith}
use lib.Dec.{eqb, leb}
use lib.ListN.{length, get_or, drop, length-drop}
use lib.Seq.{append_snoc, get_or-drop}
use borrow.Author.Tests.{leb-true, eqb-true, eqb-false, not-true, le-leb, eq-eqb, ne_eqb}
use Rattle.text.specs.Rules.{must}
use Rattle.record.specs.Records.{fields, field, bar}
use Rattle.field.specs.Types.{form, range, value_of, is_null}
use Rattle.field.specs.Judge.{may_be_empty, meets_mark, filled, field_answer, refusal_of}
use Rattle.field.specs.declared.Content.{Content}
use Rattle.field.specs.declared.Content.TheVariants.{Empty}
use Rattle.field.specs.declared.Wrong.{Wrong}
use Rattle.field.specs.declared.Wrong.TheVariants.{Missing, Form, Range, Fixed}
use Rattle.layout.specs.Layout.{Rule, Layout, row, may_follow}
use Rattle.flow.specs.Publication.{null}
use Rattle.fault.proofs.Fields.{number_some}
use Rattle.fault.specs.declared.Fault.{Fault}
use Rattle.fault.specs.Fields.{Check, fine as nothing_wrong, fault as wrong, also, field_fault, fields_fault}
use Rattle.fault.specs.Record.{kind_of, key_in, place_fault, shape_fault, key_fault, footer_fault, kind_fault}
use Rattle.judge.specs.Record.{last_kind, key_before, sum_of, fault}
use Rattle.judge.specs.File.{at_record, checked_from}
use Rattle.judge.specs.Right.{Meets, Typed}
use Rattle.judge.proofs.RightEach.{Each, each_none, each_cons, each_first, each_rest}
use Rattle.judge.specs.declared.Unplaced.{Unplaced}
use Rattle.std.specs.Prelude.{Result, Ok, Err}

-- a fault is not nothing
no_fault : {x : Fault} → ◌≡◌ {A = Check} (Err x) nothing_wrong → ⊥
no_fault e = let z : ◌≡◌ {A = ℕ} 0 1 = cc in omega arith

-- nothing is wrong exactly where each test holds
pub must_fine : (b : Bool) (n f : ℕ) (rest : Check) → must b (wrong n f) rest ≡ nothing_wrong → (b ≡ true) × (rest ≡ nothing_wrong)
must_fine true n f rest e = (refl, e)
must_fine false n f rest e = absurd (no_fault e)

pub fine_must : (b : Bool) (n f : ℕ) (rest : Check) → b ≡ true → rest ≡ nothing_wrong → must b (wrong n f) rest ≡ nothing_wrong
fine_must b n f rest h e = rw h e

pub also_fine : (a b : Check) → also a b ≡ nothing_wrong → (a ≡ nothing_wrong) × (b ≡ nothing_wrong)
also_fine (Ok n) b e = (refl, e)
also_fine (Err x) b e = absurd (no_fault e)

-- a record without a fault, where these stand before it
pub record FineRecord (l : Layout) (before : List (List ℕ)) (r : List ℕ) : Type 0 where
  pub short : length r ≤ 512
  pub known : kind_of bar l r ≡ 0 → ⊥
  pub follows : may_follow l (last_kind bar l before) (kind_of bar l r) ≡ true
  pub counted : length (fields bar r) ≡ length (row l (kind_of bar l r)).rules + 1
  pub typed : fields_fault (row l (kind_of bar l r)).rules (drop 1 (fields bar r)) 2 ≡ nothing_wrong
  pub ascends : key_fault l (kind_of bar l r) (key_before bar l before (kind_of bar l r)) (key_in bar l (kind_of bar l r) r) ≡ nothing_wrong
  pub closes : footer_fault bar l (length before) (sum_of bar before) (kind_of bar l r) r ≡ nothing_wrong

module _ (l : Layout) (before : List (List ℕ)) (r : List ℕ) where
  abbrev k : ℕ
  k = kind_of bar l r

  abbrev follow : Bool
  follow = may_follow l (last_kind bar l before) k

  abbrev count : Bool
  count = eqb (length (fields bar r)) (length (row l k).rules + 1)

  abbrev fields_of : Check
  fields_of = fields_fault (row l k).rules (drop 1 (fields bar r)) 2

  abbrev key : Check
  key = key_fault l k (key_before bar l before k) (key_in bar l k r)

  abbrev foot : Check
  foot = footer_fault bar l (length before) (sum_of bar before) k r

  pub fine_record : fault bar l before r ≡ nothing_wrong → FineRecord l before r
  unfolding fault kind_fault place_fault shape_fault
  fine_record e =
      let a = must_fine (leb (length r) 512) 3 0 _ e in
      let b = also_fine (must (not (eqb k 0)) (wrong 4 1) (must follow (wrong 5 1) nothing_wrong)) (also (must count (wrong 6 0) fields_of) (also key foot)) a.1 in
      let c = must_fine (not (eqb k 0)) 4 1 (must follow (wrong 5 1) nothing_wrong) b.0 in
      let d = also_fine (must count (wrong 6 0) fields_of) (also key foot) b.1 in
      let f = must_fine count 6 0 fields_of d.0 in
      let g = also_fine key foot d.1 in
      record {
        short = leb-true _ _ a.0;
        known = eqb-false k 0 (not-true _ c.0);
        follows = (must_fine follow 5 1 nothing_wrong c.1).0;
        counted = eqb-true _ _ f.0;
        typed = f.1;
        ascends = g.0;
        closes = g.1;
      }

  pub record_fine : FineRecord l before r → fault bar l before r ≡ nothing_wrong
  unfolding fault kind_fault place_fault shape_fault
  record_fine p =
      rw (le-leb _ _ p.short, ne_eqb _ _ p.known, p.follows, eq-eqb _ _ p.counted, p.typed, p.ascends) p.closes

pub no_refusal : {r : Unplaced} {n : ℕ} → Err r ≡ Ok n → ⊥
no_refusal e = let z : ◌≡◌ {A = ℕ} 0 1 = cc in omega arith

passes : (n m : ℕ) (c : Check) (v : Result ℕ Unplaced) → at_record n c v ≡ Ok m → (c ≡ nothing_wrong) × (v ≡ Ok m)
passes n m (Ok x) v e = (refl, e)
passes n m (Err x) v e = absurd (no_refusal e)

-- all records pass exactly where each passes with those before it
module _ (l : Layout) where
  pub each_fine : (before rs : List (List ℕ)) (m : ℕ) → checked_from bar l before rs ≡ Ok m → Each (FineRecord l) before rs
  unfolding checked_from
  each_fine before [] m e = each_none (FineRecord l) before
  each_fine before (x ∷ xs) m e =
      let p = passes (length before + 1) m (fault bar l before x) (checked_from bar l (before ++ x ∷ []) xs) e in
      each_cons (FineRecord l) before x xs (fine_record l before x p.0) (each_fine (before ++ x ∷ []) xs m p.1)

  pub fine_each : (before rs : List (List ℕ)) → Each (FineRecord l) before rs → checked_from bar l before rs ≡ Ok (length (before ++ rs))
  unfolding checked_from
  fine_each before [] h = rw append-nil
  fine_each before (x ∷ xs) h =
      rw (record_fine l before x (each_first (FineRecord l) before x xs h))
      (fine_each (before ++ x ∷ []) xs (each_rest (FineRecord l) before x xs h)
      ∙ ap (λ (t : List (List ℕ)). Ok (length t)) (append_snoc before x xs))

-- what a field comes to, by its tests
abbrev answer_by : (null none may form range mark : Bool) → Result Content Wrong → Result Content Wrong
answer_by null none may form range mark v =
    cond null (must none (Err Fixed) (Ok Empty))
    (cond none (must may (Err Missing) (Ok Empty))
    (must form (Err Form) (must range (Err Range) (must mark (Err Fixed) v))))

-- a field that meets its rule and may not be empty is filled, and its form and range are right
filled_go : (a b c d e f : Bool) (v : Result Content Wrong) → a ≡ false → c ≡ false → ((w : Wrong) → answer_by a b c d e f v ≡ Err w → ⊥)
    → (b ≡ false) × (d ≡ true) × (e ≡ true)
filled_go true b c d e f v p q h = absurd (false≢true (sym p))
filled_go false b true d e f v p q h = absurd (false≢true (sym q))
filled_go false true false d e f v p q h = absurd (h Missing refl)
filled_go false false false false e f v p q h = absurd (h Form refl)
filled_go false false false true false f v p q h = absurd (h Range refl)
filled_go false false false true true f v p q h = (refl, refl, refl)

-- a field meets its rule exactly where its number is 0
zero_refusal : (a : Result Content Wrong) → refusal_of a ≡ 0 → (w : Wrong) → a ≡ Err w → ⊥
zero_refusal a e w q = number_some w (sym (ap refusal_of q) ∙ e)

no_refusal_zero : (a : Result Content Wrong) → ((w : Wrong) → a ≡ Err w → ⊥) → refusal_of a ≡ 0
no_refusal_zero (Err w) h = absurd (h w refl)
no_refusal_zero (Ok value) h = refl

module _ (rule : Rule) (s : List ℕ) where
  pub meets : field_fault rule s ≡ 0 → Meets rule s
  unfolding field_fault
  meets e = zero_refusal (field_answer rule.type rule.mark s) e

  pub filled_right : is_null rule.type ≡ false → may_be_empty rule.mark ≡ false → Meets rule s
      → (eqb (length s) 0 ≡ false) × (form rule.type s ≡ true) × (range rule.type s ≡ true)
  unfolding field_answer filled
  filled_right p q h =
      filled_go (is_null rule.type) (eqb (length s) 0) (may_be_empty rule.mark) (form rule.type s) (range rule.type s) (meets_mark rule.mark s)
      (Ok (value_of rule.type s)) p q h

  pub met : Meets rule s → field_fault rule s ≡ 0
  unfolding field_fault
  met h = no_refusal_zero (field_answer rule.type rule.mark s) h

-- some fields have no fault exactly where each meets its rule
pub fields_meet : (rules : List Rule) (xs : List (List ℕ)) (f : ℕ) → length xs ≡ length rules → fields_fault rules xs f ≡ nothing_wrong
    → (i : ℕ) → i < length rules → Meets (get_or rules i null) (get_or xs i [])
unfolding fields_fault
fields_meet [] xs f h e i k = absurd (omega arith)
fields_meet (rule ∷ rules) [] f h e i k = absurd (omega arith)
fields_meet (rule ∷ rules) (x ∷ xs) f h e zero k = meets rule x (eqb-true _ _ (must_fine (eqb (field_fault rule x) 0) (field_fault rule x) f (fields_fault rules xs (f + 1)) e).0)
fields_meet (rule ∷ rules) (x ∷ xs) f h e (suc i) k =
    fields_meet rules xs (f + 1) (omega arith) (must_fine (eqb (field_fault rule x) 0) (field_fault rule x) f (fields_fault rules xs (f + 1)) e).1 i (omega arith)

pub meet_fields : (rules : List Rule) (xs : List (List ℕ)) (f : ℕ) → ((i : ℕ) → i < length rules → Meets (get_or rules i null) (get_or xs i []))
    → fields_fault rules xs f ≡ nothing_wrong
unfolding fields_fault
meet_fields [] xs f h = refl
meet_fields (rule ∷ rules) [] f h = refl
meet_fields (rule ∷ rules) (x ∷ xs) f h =
    fine_must (eqb (field_fault rule x) 0) (field_fault rule x) f (fields_fault rules xs (f + 1)) (eq-eqb _ _ (met rule x (h 0 (omega arith))))
    (meet_fields rules xs (f + 1) (λ i k. h (suc i) (omega arith)))

-- field i + 2 is number i of those from 2 on
field_at : (r : List ℕ) (i : ℕ) → get_or (drop 1 (fields bar r)) i [] ≡ field bar (i + 2) r
unfolding field
field_at r i =
    let e : i + 2 ≡ suc (suc i) = omega arith in
    let z : 1 + i ≡ suc i = omega arith in
    rw e (get_or-drop 1 (fields bar r) i [] ∙ ap (λ (n : ℕ). get_or (fields bar r) n []) z)

-- a record is typed exactly where its number of fields is right and they have no fault
module _ (rules : List Rule) (r : List ℕ) where
  pub is_typed : length (fields bar r) ≡ length rules + 1 → fields_fault rules (drop 1 (fields bar r)) 2 ≡ nothing_wrong → Typed rules r
  is_typed n e =
      record {
        field_count = n;
        each_field = λ i h. rw (← field_at r i) (fields_meet rules (drop 1 (fields bar r)) 2 (omega (arith, length-drop 1 (fields bar r))) e i h);
      }

  pub typed_is : Typed rules r → fields_fault rules (drop 1 (fields bar r)) 2 ≡ nothing_wrong
  typed_is p = meet_fields rules (drop 1 (fields bar r)) 2 (λ i h. rw (field_at r i) (p.each_field i h))
