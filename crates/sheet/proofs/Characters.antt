-- Every field of a record that passes is of text characters: so are all types of field, and the names of the kinds. Assumes nothing.
use Prim.Native.Nat.{ℕ, suc, ◌+◌, ◌-◌, ◌<◌}
use mathlib.Core.Path.{◌≡◌, refl, sym, ap, ◌∙◌}
use mathlib.Core.Bool.{Bool, true, false, cond, not, ◌&&◌, ◌||◌, false≢true, or-true}
use mathlib.Core.List.{List, [], ◌∷◌, ◌++◌}
use native.Mathlib.Omega.{arith}
use lib.Dec.{eqb, ltb}
use lib.ListN.{length, get_or, take, drop, length-drop}
use lib.Seq.{split_at, drop-cons}
use borrow.Author.Tests.{eqb-true, ltb-true}
use Rattle.text.specs.Characters.{all, from_to, one_of, is_digit, is_text, signs}
use Rattle.text.specs.Rules.{must}
use Rattle.record.specs.Records.{fields, field, holds, some_holds, bar}
use Rattle.record.proofs.Runs.{fields_some}
use Rattle.record.proofs.Fields.{field_number}
use Rattle.number.specs.Numbers.{minus, unsigned, plain, whole, places, is_zero, int_form, dec_form}
use Rattle.field.specs.Types.{form, range, value_of, is_null, text_form, bol_form}
use Rattle.field.specs.Judge.{may_be_empty, meets_mark, field_answer, filled, refusal_of}
use Rattle.field.specs.declared.FieldType.{FieldType}
use Rattle.field.specs.declared.FieldType.TheVariants as types
use Rattle.field.specs.declared.Content.{Content}
use Rattle.field.specs.declared.Content.TheVariants.{Empty}
use Rattle.field.specs.declared.Wrong.{Wrong}
use Rattle.field.specs.declared.Wrong.TheVariants.{Missing, Form, Range, Fixed}
use Rattle.number.proofs.Digits.{and_left, and_right, all_append, plain_digits}
use Rattle.layout.specs.Layout.{Rule, Layout, row}
use Rattle.layout.proofs.Names.{found_row}
use Rattle.flow.specs.Proper.{ProperFooter}
use Rattle.std.specs.Prelude.{Result, Ok, Err}
use Rattle.fault.specs.Fields.{fine, field_fault, fields_fault}
use Rattle.fault.specs.Record.{kind_of}
use Rattle.judge.proofs.RightEach.{Each, each_first, each_rest}
use Rattle.judge.proofs.RightFields.{FineRecord, must_fine}
use Rattle.sheet.proofs.Holding.{none_passing, fields_hold}
use Rattle.sheet.proofs.Footers.{name_text}

-- each field of a record is of text characters
abbrev pub text_record : List ℕ → Bool
text_record r = all (all is_text) (fields bar r)

-- a filled field has the form of its type, and any other is empty
form_go : (nul emp may form range mark : Bool) (v : Result Content Wrong)
    → refusal_of (cond nul (must emp (Err Fixed) (Ok Empty)) (cond emp (must may (Err Missing) (Ok Empty)) (must form (Err Form) (must range (Err Range) (must mark (Err Fixed) v))))) ≡ 0
    → (form || emp) ≡ true
form_go nul true may form range mark v e = or-true form
form_go true false may form range mark v e = absurd (omega arith)
form_go false false may true range mark v e = refl
form_go false false may false range mark v e = absurd (omega arith)

formed : (rule : Rule) (s : List ℕ) → field_fault rule s ≡ 0 → (form rule.type s || eqb (length s) 0) ≡ true
unfolding field_fault field_answer filled
formed rule s e =
    form_go (is_null rule.type) (eqb (length s) 0) (may_be_empty rule.mark) (form rule.type s) (range rule.type s) (meets_mark rule.mark s)
    (Ok (value_of rule.type s)) e

digit_go : (a b d g : Bool) → d ≡ true → (a || b || d || g) ≡ true
digit_go true b d g e = refl
digit_go false true d g e = refl
digit_go false false d g e = rw e

digit_text : (b : ℕ) → is_digit b ≡ true → is_text b ≡ true
unfolding is_text
digit_text b e = digit_go (from_to 65 90 b) (from_to 97 122 b) (is_digit b) (one_of signs b) e

digits_text : (s : List ℕ) → all is_digit s ≡ true → all is_text s ≡ true
digits_text [] e = refl
digits_text (b ∷ s) e = rw (digit_text b (and_left (is_digit b) (all is_digit s) e)) (digits_text s (and_right (is_digit b) (all is_digit s) e))

empty_text : (s : List ℕ) → eqb (length s) 0 ≡ true → all is_text s ≡ true
empty_text [] e = refl
empty_text (b ∷ s) e = absurd (omega (arith, eqb-true (suc (length s)) 0 e))

minus_go : (b : ℕ) (s : List ℕ) (t : Bool) → eqb b 45 ≡ t → all is_text (cond t s (b ∷ s)) ≡ true → all is_text (b ∷ s) ≡ true
unfolding is_text is_digit
minus_go b s true e h = rw (eqb-true b 45 e) h
minus_go b s false e h = h

sign_text : (s : List ℕ) → all is_text (unsigned s) ≡ true → all is_text s ≡ true
unfolding unsigned minus
sign_text [] h = refl
sign_text (b ∷ s) h = minus_go b s (eqb b 45) refl h

int_text : (s : List ℕ) → int_form s ≡ true → all is_text s ≡ true
unfolding int_form
int_text s e =
    let d = unsigned s in
    sign_text s (digits_text d (plain_digits d (and_left (plain d) (not (minus s && eqb (get_or d 0 0) 48)) e)))

point_text : (d : List ℕ) (i : ℕ) → i < length d → get_or d i 0 ≡ 46 → all is_text (take i d) ≡ true → all is_text (drop (suc i) d) ≡ true → all is_text d ≡ true
unfolding is_text is_digit
point_text d i h e p q = rw (split_at d i 0 h) (all_append is_text (take i d) (get_or d i 0 ∷ drop (suc i) d) p (rw e q))

dec_text : (q : ℕ) (s : List ℕ) → dec_form q s ≡ true → all is_text s ≡ true
unfolding dec_form
dec_text q s e =
    let d = unsigned s in
    let n = length d - q - 1 in
    let long = ltb q (length d) in
    let point = eqb (get_or d n 0) 46 in
    let zero = not (minus s && (all is_zero (whole q s) && all is_zero (places q s))) in
    let a = and_left (long && point && plain (whole q s) && all is_digit (places q s)) zero e in
    let b = and_left (long && point && plain (whole q s)) (all is_digit (places q s)) a in
    let c = and_left (long && point) (plain (whole q s)) b in
    let within : q < length d = ltb-true q (length d) (and_left long point c) in
    let next : suc n ≡ length d - q = omega arith in
    sign_text s
    (point_text d n (omega arith) (eqb-true (get_or d n 0) 46 (and_right long point c))
    (digits_text (whole q s) (plain_digits (whole q s) (and_right (long && point) (plain (whole q s)) b)))
    (rw next (digits_text (places q s) (and_right (long && point && plain (whole q s)) (all is_digit (places q s)) a))))

bol_go : (b : ℕ) (t f : Bool) → eqb b 84 ≡ t → eqb b 70 ≡ f → (t || f) ≡ true → is_text b ≡ true
unfolding is_text is_digit
bol_go b true f e g h = rw (eqb-true b 84 e)
bol_go b false true e g h = rw (eqb-true b 70 g)
bol_go b false false e g h = absurd (false≢true h)

bol_text : (s : List ℕ) → bol_form s ≡ true → all is_text s ≡ true
unfolding bol_form
bol_text [] e = refl
bol_text (b ∷ []) e = rw (bol_go b (eqb b 84) (eqb b 70) refl refl e)
bol_text (b ∷ c ∷ s) e =
    absurd (omega (arith, eqb-true (suc (suc (length s))) 1 (and_left (eqb (suc (suc (length s))) 1) (eqb b 84 || eqb b 70) e)))

form_text : (t : FieldType) (s : List ℕ) → form t s ≡ true → all is_text s ≡ true
unfolding form text_form
form_text (types.Text n) s e =
    and_right (not (eqb (get_or s 0 0) 32) && not (eqb (get_or s (length s - 1) 0) 32)) (all is_text s) e
form_text (types.Int n) s e = int_text s e
form_text (types.Dec p q) s e = dec_text q s e
form_text types.Date s e = digits_text s (and_right (eqb (length s) 8) (all is_digit s) e)
form_text types.Datetime s e = digits_text s (and_right (eqb (length s) 14) (all is_digit s) e)
form_text types.Bol s e = bol_text s e
form_text types.Period s e = int_text s e
form_text types.Null s e = empty_text s e

field_go : (t : FieldType) (s : List ℕ) (a b : Bool) → form t s ≡ a → eqb (length s) 0 ≡ b → (a || b) ≡ true → all is_text s ≡ true
field_go t s true b e f h = form_text t s e
field_go t s false true e f h = empty_text s f
field_go t s false false e f h = absurd (false≢true h)

field_text : (rule : Rule) (s : List ℕ) → field_fault rule s ≡ 0 → all is_text s ≡ true
field_text rule s e = field_go rule.type s (form rule.type s) (eqb (length s) 0) refl refl (formed rule s e)

typed_text : (rules : List Rule) (xs : List (List ℕ)) (f : ℕ) → length xs ≡ length rules → fields_fault rules xs f ≡ fine → all (all is_text) xs ≡ true
unfolding fields_fault
typed_text rules [] f e h = refl
typed_text [] (x ∷ xs) f e h = absurd (omega arith)
typed_text (rule ∷ rules) (x ∷ xs) f e h =
    let p = must_fine (eqb (field_fault rule x) 0) (field_fault rule x) f (fields_fault rules xs (f + 1)) h in
    rw (field_text rule x (eqb-true (field_fault rule x) 0 p.0)) (typed_text rules xs (f + 1) (omega arith) p.1)

module _ (l : Layout) (proper : ProperFooter l) where
  -- the first field of a record that passes is its kind's name
  pub kind_name : (before : List (List ℕ)) (r : List ℕ) → FineRecord l before r → (row l (kind_of bar l r)).name ≡ field bar 1 r
  kind_name before r p = found_row l (field bar 1 r) p.known

  record_text : (before : List (List ℕ)) (r : List ℕ) → FineRecord l before r → text_record r ≡ true
  record_text before r p =
      let fs = fields bar r in
      let first : all is_text (get_or fs 0 []) ≡ true =
      ap (all is_text) (sym (field_number bar 0 r) ∙ sym (kind_name before r p)) ∙ name_text l proper (kind_of bar l r) p.known in
      let many : length (drop 1 fs) ≡ length (row l (kind_of bar l r)).rules = omega (arith, length-drop 1 fs, p.counted) in
      ap (all (all is_text)) (drop-cons fs 0 [] (fields_some bar r)) ∙ rw first (typed_text (row l (kind_of bar l r)).rules (drop 1 fs) 2 many p.typed)

  pub each_text : (before rs : List (List ℕ)) → Each (FineRecord l) before rs → all text_record rs ≡ true
  each_text before [] h = refl
  each_text before (r ∷ rs) h =
      rw (record_text before r (each_first (FineRecord l) before r rs h)) (each_text (before ++ r ∷ []) rs (each_rest (FineRecord l) before r rs h))

-- so it holds no byte that is neither a text character nor a bar
module _ (b : ℕ) (other : is_text b ≡ false) (apart : b ≡ bar → ⊥) where
  fields_free : (xs : List (List ℕ)) → all (all is_text) xs ≡ true → some_holds b xs ≡ false
  unfolding some_holds
  fields_free [] e = refl
  fields_free (x ∷ xs) e =
      rw (none_passing b is_text x (and_left (all is_text x) (all (all is_text) xs) e) other) (fields_free xs (and_right (all is_text x) (all (all is_text) xs) e))

  pub text_free : (rs : List (List ℕ)) → all text_record rs ≡ true → some_holds b rs ≡ false
  unfolding some_holds
  text_free [] e = refl
  text_free (r ∷ rs) e =
      let free : holds b r ≡ false = sym (fields_hold b bar r apart) ∙ fields_free (fields bar r) (and_left (text_record r) (all text_record rs) e) in
      rw free (text_free rs (and_right (text_record r) (all text_record rs) e))
