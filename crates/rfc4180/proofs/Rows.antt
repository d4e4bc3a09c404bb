-- The lines and fields of a reading: what they hold, where they start, and that a text has one reading. Assumes nothing.
use Prim.Native.Nat.{ℕ, suc, ◌<◌}
use mathlib.Core.Path.{◌≡◌, refl, sym, ap, ap₂, ◌∙◌}
use mathlib.Core.Bool.{Bool, true, false, cond, ◌||◌}
use mathlib.Core.List.{List, [], ◌∷◌, ◌++◌, append_assoc, map}
use native.Mathlib.Omega.{arith}
use lib.Dec.{eqb}
use lib.ListN.{length}
use Rattle.record.specs.Records.{records, fields, holds, some_holds, bar}
use Rattle.record.proofs.Cutting.{neither, records_line, records_open, records_joined}
use Rattle.sheet.specs.Sheets.{tab, parted, bar_line}
use Rattle.sheet.proofs.Footers.{fields_part, fields_whole}
use Rattle.sheet.proofs.Holding.{none_append, none_passing}
use Rattle.rfc4180.specs.Rfc.{comma, quote, return, feed, textdata, Inside, Field, Line, Text, lines_of}
use Rattle.rfc4180.specs.Rfc as rfc
use Rattle.rfc4180.specs.Walk.{sheet_from}
use Rattle.rfc4180.specs.declared.State.TheVariants.{AtLine}
use Rattle.rfc4180.proofs.Ways.{text_other, row_some, text_sheet}

or_assoc : (x y z : Bool) → (x || (y || z)) ≡ ((x || y) || z)
or_assoc true y z = refl
or_assoc false y z = refl

or_none : (x : Bool) → x ≡ (x || false)
or_none true = refl
or_none false = refl

holds_append : (x : ℕ) (a b : List ℕ) → holds x (a ++ b) ≡ (holds x a || holds x b)
unfolding holds
holds_append x [] b = refl
holds_append x (y ∷ a) b = ap (λ (t : Bool). eqb y x || t) (holds_append x a b) ∙ or_assoc (eqb y x) (holds x a) (holds x b)

-- a byte that is no quotation mark and no comma stands in a line where it stands in a field of it
module _ (x : ℕ) (q : eqb quote x ≡ false) where
  inside_same : {s v : List ℕ} → Inside s v → holds x s ≡ holds x v
  unfolding holds
  inside_same rfc.Inside.none = refl
  inside_same (rfc.Inside.one {b} t i) = ap (λ (h : Bool). eqb b x || h) (inside_same i)
  inside_same (rfc.Inside.parting i) = ap (λ (h : Bool). eqb comma x || h) (inside_same i)
  inside_same (rfc.Inside.two {s} {v} i) = rw q (inside_same i)

  field_same : {s v : List ℕ} → Field s v → holds x s ≡ holds x v
  unfolding holds
  field_same (rfc.Field.non_escaped e) = refl
  field_same (rfc.Field.escaped {s} {v} i) = rw (q, holds_append x s (quote ∷ []), q) (sym (or_none (holds x s)) ∙ inside_same i)

  module _ (c : eqb comma x ≡ false) where
    pub line_same : {s : List ℕ} {row : List (List ℕ)} → Line s row → holds x s ≡ some_holds x row
    unfolding holds some_holds
    line_same (rfc.Line.last {s} {v} f) = field_same f ∙ or_none (holds x v)
    line_same (rfc.Line.more {s} {v} {t} {vs} f l) =
        holds_append x s (comma ∷ t) ∙ rw c (λ i. field_same f i || line_same l i)

    -- one that is no data at all stands in none
    module _ (d : textdata x ≡ false) where
      inside_none : {s v : List ℕ} → Inside s v → holds x v ≡ false
      unfolding holds
      inside_none rfc.Inside.none = refl
      inside_none (rfc.Inside.one {b} t i) = rw (text_other b x t d) (inside_none i)
      inside_none (rfc.Inside.parting i) = rw c (inside_none i)
      inside_none (rfc.Inside.two i) = rw q (inside_none i)

      field_none : {s v : List ℕ} → Field s v → holds x v ≡ false
      field_none (rfc.Field.non_escaped {s} e) = none_passing x textdata s e d
      field_none (rfc.Field.escaped i) = inside_none i

      pub row_none : {s : List ℕ} {row : List (List ℕ)} → Line s row → some_holds x row ≡ false
      unfolding some_holds
      row_none (rfc.Line.last f) = rw (field_none f)
      row_none (rfc.Line.more f l) = rw (field_none f) (row_none l)

-- a line holds no line feed, so a text cut at its line feeds has its lines, each with the CR that ends it
line_feedless : {s : List ℕ} {row : List (List ℕ)} → Line s row → holds feed s ≡ false
unfolding textdata
line_feedless l = line_same feed refl refl l ∙ row_none feed refl refl refl l

pub ended_feedless : {s : List ℕ} {row : List (List ℕ)} → Line s row → holds feed (s ++ return ∷ []) ≡ false
unfolding holds
ended_feedless {s} l = none_append feed s (return ∷ []) (line_feedless l) refl

pub ended_at : (s t : List ℕ) → (s ++ return ∷ []) ++ feed ∷ t ≡ s ++ return ∷ feed ∷ t
ended_at s t = append_assoc s (return ∷ []) (feed ∷ t)

records_more : {s : List ℕ} {row : List (List ℕ)} (t : List ℕ) → Line s row → records (s ++ return ∷ feed ∷ t) ≡ (s ++ return ∷ []) ∷ records t
records_more {s} t l = ap records (sym (ended_at s t)) ∙ records_line (s ++ return ∷ []) t (ended_feedless l)

-- the first line of a text that has a bar is the first of its sheet that has one
parted_same : (x : ℕ) (row : List (List ℕ)) → eqb tab x ≡ false → holds x (parted tab row) ≡ some_holds x row
unfolding parted some_holds holds
parted_same x [] q = refl
parted_same x (v ∷ []) q = or_none (holds x v)
parted_same x (v ∷ w ∷ row) q = holds_append x v (tab ∷ parted tab (w ∷ row)) ∙ rw q (ap (λ (h : Bool). holds x v || h) (parted_same x (w ∷ row) q))

bar_same : {s : List ℕ} {row : List (List ℕ)} → Line s row → holds bar s ≡ holds bar (parted tab row)
bar_same {row = row} l = line_same bar refl refl l ∙ sym (parted_same bar row refl)

ended_same : {s : List ℕ} {row : List (List ℕ)} → Line s row → holds bar (s ++ return ∷ []) ≡ holds bar (parted tab row)
unfolding holds
ended_same {s} l = holds_append bar s (return ∷ []) ∙ sym (or_none (holds bar s)) ∙ bar_same l

pub text_bars : {s : List ℕ} {rows : List (List (List ℕ))} (n : ℕ) → Text s rows → bar_line n (records s) ≡ bar_line n (lines_of rows)
unfolding bar_line records
text_bars n rfc.Text.none = refl
text_bars n (rfc.Text.last {s} h l) = ap (bar_line n) (records_open s (line_feedless l) h) ∙ ap (λ (b : Bool). cond b n 0) (bar_same l)
text_bars n (rfc.Text.more {s} {t} l x) =
    ap (bar_line n) (records_more t l) ∙ ap₂ (λ (b : Bool) (m : ℕ). cond b n m) (ended_same l) (text_bars (suc n) x)

-- the sheet of a reading gives its lines and fields back
pub fields_parted : (row : List (List ℕ)) → 0 < length row → some_holds tab row ≡ false → fields tab (parted tab row) ≡ row
unfolding parted some_holds
fields_parted [] h e = absurd (omega arith)
fields_parted (x ∷ []) h e = fields_whole tab x (neither (holds tab x) false e).0
fields_parted (x ∷ y ∷ row) h e =
    let p = neither (holds tab x) (some_holds tab (y ∷ row)) e in
    fields_part tab x (parted tab (y ∷ row)) p.0 ∙ ap (λ (l : List (List ℕ)). x ∷ l) (fields_parted (y ∷ row) (omega arith) p.1)

line_back : {s : List ℕ} {row : List (List ℕ)} → Line s row → fields tab (parted tab row) ≡ row
unfolding textdata
line_back {row = row} l = fields_parted row (row_some l) (row_none tab refl refl refl l)

line_flat : {s : List ℕ} {row : List (List ℕ)} → Line s row → holds feed (parted tab row) ≡ false
unfolding textdata
line_flat {row = row} l = parted_same feed row refl ∙ row_none feed refl refl refl l

text_flat : {s : List ℕ} {rows : List (List (List ℕ))} → Text s rows → some_holds feed (lines_of rows) ≡ false
unfolding some_holds
text_flat rfc.Text.none = refl
text_flat (rfc.Text.last h l) = rw (line_flat l)
text_flat (rfc.Text.more l x) = rw (line_flat l) (text_flat x)

text_fields : {s : List ℕ} {rows : List (List (List ℕ))} → Text s rows → map (fields tab) (lines_of rows) ≡ rows
text_fields rfc.Text.none = refl
text_fields (rfc.Text.last {s} {row} h l) = ap (λ (r : List (List ℕ)). r ∷ []) (line_back l)
text_fields (rfc.Text.more l x) = ap₂ ◌∷◌ (line_back l) (text_fields x)

pub rows_back : {s : List ℕ} {rows : List (List (List ℕ))} → Text s rows → map (fields tab) (records (sheet_from AtLine s)) ≡ rows
rows_back {s} {rows} x =
    ap (λ (y : List ℕ). map (fields tab) (records y)) (text_sheet x)
    ∙ ap (map (fields tab)) (records_joined (lines_of rows) (text_flat x)) ∙ text_fields x

-- a text has one reading
pub one_reading : {s : List ℕ} {rows rows' : List (List (List ℕ))} → Text s rows → Text s rows' → rows ≡ rows'
one_reading x y = sym (rows_back x) ∙ rows_back y
