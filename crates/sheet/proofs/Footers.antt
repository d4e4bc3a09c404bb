-- The footer that is made: its fields, and that only the grammar can refuse it. Assumes nothing.
use Prim.Native.Nat.{ℕ, zero, suc, ◌+◌, ◌-◌, ◌^◌, ◌≤◌, ◌<◌}
use mathlib.Core.Path.{◌≡◌, refl, sym, ap, ◌∙◌}
use mathlib.Core.Bool.{Bool, true, false}
use mathlib.Core.List.{List, [], ◌∷◌, ◌++◌, map}
use native.Mathlib.Omega.{arith}
use lib.Dec.{eqb}
use lib.ListN.{length, get_or, drop, length-append, get_or-map}
use lib.Seq.{get_or-drop}
use borrow.Author.Tests.{eq-eqb, ne_eqb, le-leb}
use Rattle.text.specs.Characters.{all, is_digit, is_text}
use Rattle.text.specs.Rules.{must}
use Rattle.record.specs.Records.{onto, fields, holds, bar}
use Rattle.record.proofs.Cutting.{neither}
use Rattle.record.proofs.Fields.{field_number}
use Rattle.number.specs.Numbers.{decimal, unsigned}
use Rattle.field.specs.Types.{form, range, value_of}
use Rattle.field.specs.Judge.{field_answer, filled}
use Rattle.number.proofs.Digits.{and_left, and_right, plain_some}
use Rattle.number.proofs.ByValue.{bare_is, no_sign}
use Rattle.number.proofs.Spelling.{decimal_plain, decimal_digits, decimal_short, decimal_int, decimal_spelled}
use Rattle.layout.specs.Layout.{KindRow, Layout, row, blank, may_follow, kind_named, is_footer}
use Rattle.flow.specs.Letters.{ZPT}
use Rattle.flow.specs.Publication.{int}
use Rattle.flow.specs.Proper.{last_row, ProperFooter}
use Rattle.fault.specs.Fields.{Check, fine, fault as wrong, also, field_fault, fields_fault}
use Rattle.fault.specs.Record.{kind_of, place_fault, shape_fault, key_fault, footer_fault, kind_fault}
use Rattle.judge.specs.Record.{last_kind, sum_of, fault}
use Rattle.sheet.specs.Sheets.{footer}
use Rattle.sheet.proofs.Holding.{none_append, none_passing}

-- every kind's name is of text characters; row 0 is no kind's
name_at : (ps : List (List ℕ)) → all (all is_text) ps ≡ true → (k : ℕ) → all is_text (get_or ps k []) ≡ true
name_at [] h k = refl
name_at (p ∷ ps) h zero = and_left (all is_text p) (all (all is_text) ps) h
name_at (p ∷ ps) h (suc k) = name_at ps (and_right (all is_text p) (all (all is_text) ps) h) k

pub name_text : (l : Layout) → ProperFooter l → (k : ℕ) → (k ≡ 0 → ⊥) → all is_text (row l k).name ≡ true
name_text l p k h =
    let kinds = drop 1 l.rows in
    let z : 1 + (k - 1) ≡ k = omega arith in
    let is : get_or kinds (k - 1) blank ≡ row l k = get_or-drop 1 l.rows (k - 1) blank ∙ ap (row l) z in
    let t : all is_text (get_or kinds (k - 1) blank).name ≡ true =
    rw (← get_or-map (λ (r : KindRow). r.name) kinds (k - 1) blank) (name_at (map (λ (r : KindRow). r.name) kinds) p.names (k - 1)) in
    ap (λ (r : KindRow). all is_text r.name) (sym is) ∙ t

-- fields as they are written: one with its separator, and the last
pub fields_part : (sep : ℕ) (a b : List ℕ) → holds sep a ≡ false → fields sep (a ++ sep ∷ b) ≡ a ∷ fields sep b
unfolding fields holds onto
fields_part sep [] b h = rw (eq-eqb sep sep refl)
fields_part sep (x ∷ a) b h =
    let n = neither (eqb x sep) (holds sep a) h in
    rw (n.0, fields_part sep a b n.1)

pub fields_whole : (sep : ℕ) (a : List ℕ) → holds sep a ≡ false → fields sep a ≡ a ∷ []
unfolding fields holds onto
fields_whole sep [] h = refl
fields_whole sep (x ∷ a) h =
    let n = neither (eqb x sep) (holds sep a) h in
    rw (n.0, fields_whole sep a n.1)

module _ (n sum : ℕ) where
  -- the digits hold neither bar nor line feed
  digits_free : (b m : ℕ) → is_digit b ≡ false → holds b (decimal m) ≡ false
  digits_free b m f = none_passing b is_digit (decimal m) (decimal_digits m) f

  pub foot_free : holds 0x0A (footer n sum) ≡ false
  unfolding footer holds is_digit
  foot_free =
      none_append 0x0A (decimal n) (bar ∷ decimal sum) (digits_free 0x0A n refl) (digits_free 0x0A sum refl)

  pub foot_fields : fields bar (footer n sum) ≡ ZPT ∷ decimal n ∷ decimal sum ∷ []
  unfolding footer holds is_digit
  foot_fields =
      fields_part bar ZPT (decimal n ++ bar ∷ decimal sum) refl
      ∙ ap (λ (fs : List (List ℕ)). ZPT ∷ fs)
      (fields_part bar (decimal n) (decimal sum) (digits_free bar n refl)
      ∙ ap (λ (fs : List (List ℕ)). decimal n ∷ fs) (fields_whole bar (decimal sum) (digits_free bar sum refl)))

  pub foot_length : length (footer n sum) ≡ length (decimal n) + length (decimal sum) + 5
  unfolding footer
  foot_length = omega (arith, length-append (decimal n) (bar ∷ decimal sum))

-- the digits of a number below 10 ^ 10 are a right int(10)
int_fine : (n : ℕ) → n < 10 ^ 10 → field_fault (int 10) (decimal n) ≡ 0
unfolding field_fault field_answer filled form range value_of
int_fine n h =
    let d = decimal n in
    let some : eqb (length d) 0 ≡ false = ne_eqb (length d) 0 (λ e. omega (arith, plain_some d (decimal_plain n))) in
    let bare : unsigned d ≡ d = bare_is d (no_sign d (decimal_digits n)) in
    rw (some, decimal_int n, bare, le-leb (length d) 10 (decimal_short n 9 h))

module _ (l : Layout) (p : ProperFooter l) (n sum : ℕ) (few : n < 10 ^ 10) (small : sum < 10 ^ 10) where
  abbrev foot : List ℕ
  foot = footer n sum

  pub foot_short : length (footer n sum) ≤ 25
  foot_short = omega (arith, foot_length n sum, decimal_short n 9 few, decimal_short sum 9 small)

  pub foot_kind : kind_of bar l foot ≡ last_row l
  foot_kind = ap (kind_named l) (field_number bar 0 foot ∙ rw (foot_fields n sum)) ∙ p.found

  pub foot_last : is_footer l (last_row l) ≡ true
  foot_last = rw (le-leb 1 (last_row l) p.some, eq-eqb (last_row l) (last_row l) refl)

  place : (last : ℕ) → place_fault l last (last_row l) ≡ must (may_follow l last (last_row l)) (wrong 5 1) fine
  unfolding place_fault
  place last = rw (ne_eqb (last_row l) 0 (λ e. omega (arith, p.some)))

  shaped : shape_fault bar (row l (last_row l)).rules foot ≡ fine
  unfolding shape_fault fields_fault
  shaped = rw (foot_fields n sum, p.rules, int_fine n few, int_fine sum small)

  keyed : (old key : List ℕ) → key_fault l (last_row l) old key ≡ fine
  unfolding key_fault
  keyed old key = rw p.key

  summed : (m : ℕ) → n ≡ m + 1 → footer_fault bar l m sum (last_row l) foot ≡ fine
  unfolding footer_fault
  summed m e =
      rw (foot_last, field_number bar 1 foot, field_number bar 2 foot, foot_fields n sum, ← e, decimal_spelled n few, decimal_spelled sum small)

  only : (t : Bool) (a b c : Check) → a ≡ fine → b ≡ fine → c ≡ fine
      → also (must t (wrong 5 1) fine) (also a (also b c)) ≡ must t (wrong 5 1) fine
  only true a b c e f g = rw (e, f, g)
  only false a b c e f g = refl

  -- a footer that tells the records before it is right, if the grammar has it here
  pub foot_fault : (before : List (List ℕ)) → n ≡ length before + 1 → sum ≡ sum_of bar before
      → fault bar l before foot ≡ must (may_follow l (last_kind bar l before) (last_row l)) (wrong 5 1) fine
  unfolding fault kind_fault
  foot_fault before e f =
      rw (le-leb (length foot) 512 (omega (arith, foot_short)), foot_kind, ← f, place (last_kind bar l before))
      (only (may_follow l (last_kind bar l before) (last_row l)) _ _ _ shaped (keyed _ _) (summed (length before) e))
