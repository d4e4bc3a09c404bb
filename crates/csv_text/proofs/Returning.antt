-- A file exported and the text imported again gives the file's sheet. Assumes nothing.
use Prim.Native.Nat.{ℕ, suc, ◌+◌, ◌-◌, ◌≤◌, ◌<◌}
use mathlib.Core.Path.{◌≡◌, refl, sym, ap, ap₂, ◌∙◌}
use mathlib.Core.Bool.{Bool, true, false, cond, ◌||◌, false≢true, or-true}
use mathlib.Core.List.{List, [], ◌∷◌, ◌++◌, map}
use native.Mathlib.Omega.{arith}
use lib.Dec.{eqb, leb, lit≤}
use lib.ListN.{length, take, drop, length-append, length-map}
use lib.Seq.{take_at}
use borrow.Author.Tests.{eqb-true, leb-true, le-leb}
use Rattle.text.specs.Characters.{all, from_to, one_of, is_digit, is_text, signs}
use Rattle.record.specs.Records.{records, fields, turned, joined, holds, bar}
use Rattle.record.proofs.Cutting.{neither}
use Rattle.record.proofs.Runs.{fields_some}
use Rattle.record.proofs.Turned.{turned_gone, turned_joined}
use Rattle.number.proofs.Digits.{and_left, and_right}
use Rattle.checksum.specs.Checksum.{checksum}
use Rattle.flow.specs.Editions.{Asked}
use Rattle.flow.proofs.Proper.{ProperAsked}
use Rattle.judge.specs.File.{judged, accepted}
use Rattle.sheet.specs.Sheets.{tab, footer, but_last, bar_line, parted, sheet_of}
use Rattle.sheet.specs.Write.{Reply, done}
use Rattle.sheet.specs.Write.{Transfer, transferred}
use Rattle.sheet.proofs.Characters.{text_record}
use Rattle.sheet.proofs.AcceptedFiles.{parted_turned}
use Rattle.sheet.proofs.Accepted.{accepted_passes, accepted_split, accepted_text}
use Rattle.sheet.proofs.RoundTrip.{same_answer, one_handed, done_accepts}
use Rattle.rfc4180.specs.Rfc.{comma, quote, return, feed, textdata, Inside, Field, Line, Text, lines_of}
use Rattle.rfc4180.specs.Rfc as rfc
use Rattle.csv_text.specs.Export.{quoted, doubled, field_of, line_of, text_of, rows_of, export_of, exported, Exported}
use Rattle.csv_text.specs.Import.{Readable, Imported}
use Rattle.csv_text.specs.Import as imports
use Rattle.csv_text.proofs.Doubling.{field_plain, field_quoted}
use Rattle.csv_text.proofs.Taking.{one_imported}

-- every text character is data, a comma or a quotation mark
abbrev field_byte : ℕ → Bool
field_byte b = eqb b quote || (eqb b comma || textdata b)

within : (lo hi lo' hi' b : ℕ) → lo' ≤ lo → hi ≤ hi' → from_to lo hi b ≡ true → from_to lo' hi' b ≡ true
within lo hi lo' hi' b h k e =
    let p : lo ≤ b = leb-true lo b (and_left (leb lo b) (leb b hi) e) in
    let q : b ≤ hi = leb-true b hi (and_right (leb lo b) (leb b hi) e) in
    rw (le-leb lo' b (omega arith), le-leb b hi' (omega arith))

or_last : (a b c : Bool) → c ≡ true → (a || b || c) ≡ true
or_last a b c e = rw e (or-true (a || b))

or_both : (a b c : Bool) → c ≡ true → (a || (b || c)) ≡ true
or_both true b c e = refl
or_both false true c e = refl
or_both false false c e = e

high_byte : (b : ℕ) → from_to 0x2D 0x7E b ≡ true → field_byte b ≡ true
unfolding textdata
high_byte b e = or_both (eqb b quote) (eqb b comma) (textdata b) (or_last (from_to 0x20 0x21 b) (from_to 0x23 0x2B b) (from_to 0x2D 0x7E b) e)

sign_go : (b x : ℕ) (xs : List ℕ) (t : Bool) → eqb b x ≡ t → (t || one_of xs b) ≡ true → field_byte x ≡ true → (one_of xs b ≡ true → field_byte b ≡ true) → field_byte b ≡ true
sign_go b x xs true e h f ih = ap field_byte (eqb-true b x e) ∙ f
sign_go b x xs false e h f ih = ih h

one_byte : (b : ℕ) (xs : List ℕ) → all field_byte xs ≡ true → one_of xs b ≡ true → field_byte b ≡ true
one_byte b [] f e = absurd (false≢true e)
one_byte b (x ∷ xs) f e =
    sign_go b x xs (eqb b x) refl e (and_left (field_byte x) (all field_byte xs) f) (one_byte b xs (and_right (field_byte x) (all field_byte xs) f))

signs_are : all field_byte signs ≡ true
unfolding textdata
signs_are = refl

byte_go : (b : ℕ) (u l d g : Bool) → from_to 65 90 b ≡ u → from_to 97 122 b ≡ l → is_digit b ≡ d → one_of signs b ≡ g → (u || l || d || g) ≡ true → field_byte b ≡ true
unfolding is_digit
byte_go b true l d g e f h k x = high_byte b (within 65 90 0x2D 0x7E b (lit≤ tt) (lit≤ tt) e)
byte_go b false true d g e f h k x = high_byte b (within 97 122 0x2D 0x7E b (lit≤ tt) (lit≤ tt) f)
byte_go b false false true g e f h k x = high_byte b (within 48 57 0x2D 0x7E b (lit≤ tt) (lit≤ tt) h)
byte_go b false false false true e f h k x = one_byte b signs signs_are k
byte_go b false false false false e f h k x = absurd (false≢true x)

text_byte : (b : ℕ) → is_text b ≡ true → field_byte b ≡ true
unfolding is_text
text_byte b e = byte_go b (from_to 65 90 b) (from_to 97 122 b) (is_digit b) (one_of signs b) refl refl refl refl e

-- a field as text is a field of the grammar, and its value is the field
inside_go : (b : ℕ) (d s : List ℕ) (q c t : Bool) → eqb b quote ≡ q → eqb b comma ≡ c → textdata b ≡ t → (q || (c || t)) ≡ true → Inside d s
    → Inside (cond q (quote ∷ quote ∷ d) (b ∷ d)) (b ∷ s)
inside_go b d s true c t e f g h i = rw (eqb-true b quote e) (rfc.Inside.two i)
inside_go b d s false true t e f g h i = rw (eqb-true b comma f) (rfc.Inside.parting i)
inside_go b d s false false true e f g h i = rfc.Inside.one g i
inside_go b d s false false false e f g h i = absurd (false≢true h)

inside_reads : (x : List ℕ) → all is_text x ≡ true → Inside (doubled x) x
unfolding doubled
inside_reads [] e = rfc.Inside.none
inside_reads (b ∷ s) e =
    inside_go b (doubled s) s (eqb b quote) (eqb b comma) (textdata b) refl refl refl (text_byte b (and_left (is_text b) (all is_text s) e))
    (inside_reads s (and_right (is_text b) (all is_text s) e))

data_go : (q c t : Bool) → (q || (c || t)) ≡ true → q ≡ false → c ≡ false → t ≡ true
data_go true c t h e f = absurd (false≢true (sym e))
data_go false true t h e f = absurd (false≢true (sym f))
data_go false false t h e f = h

data_reads : (x : List ℕ) → all is_text x ≡ true → holds comma x ≡ false → holds quote x ≡ false → all textdata x ≡ true
unfolding holds
data_reads [] e c q = refl
data_reads (b ∷ s) e c q =
    let p = neither (eqb b comma) (holds comma s) c in
    let r = neither (eqb b quote) (holds quote s) q in
    rw (data_go (eqb b quote) (eqb b comma) (textdata b) (text_byte b (and_left (is_text b) (all is_text s) e)) r.0 p.0)
    (data_reads s (and_right (is_text b) (all is_text s) e) p.1 r.1)

field_go : (x : List ℕ) (t : Bool) → quoted x ≡ t → all is_text x ≡ true → Field (field_of x) x
field_go x true q e = rw (field_quoted x q) (rfc.Field.escaped (inside_reads x e))
field_go x false q e =
    let n = neither (holds comma x) (holds quote x) q in
    rw (field_plain x q) (rfc.Field.non_escaped (data_reads x e n.0 n.1))

field_reads : (x : List ℕ) → all is_text x ≡ true → Field (field_of x) x
field_reads x e = field_go x (quoted x) refl e

line_reads : (row : List (List ℕ)) → 0 < length row → all (all is_text) row ≡ true → Line (line_of row) row
unfolding parted
line_reads [] h e = absurd (omega arith)
line_reads (x ∷ []) h e = rfc.Line.last (field_reads x (and_left (all is_text x) true e))
line_reads (x ∷ y ∷ row) h e =
    rfc.Line.more (field_reads x (and_left (all is_text x) (all (all is_text) (y ∷ row)) e)) (line_reads (y ∷ row) (omega arith) (and_right (all is_text x) (all (all is_text) (y ∷ row)) e))

text_reads : (rs : List (List ℕ)) → all text_record rs ≡ true → Text (text_of (rows_of rs)) (rows_of rs)
unfolding text_of
text_reads [] e = rfc.Text.none
text_reads (r ∷ rs) e =
    rfc.Text.more (line_reads (fields bar r) (fields_some bar r) (and_left (text_record r) (all text_record rs) e))
    (text_reads rs (and_right (text_record r) (all text_record rs) e))

-- its sheet is that of the records
map_turned : (rs : List (List ℕ)) → lines_of (rows_of rs) ≡ map (turned bar tab) rs
map_turned [] = refl
map_turned (r ∷ rs) = ap₂ ◌∷◌ (parted_turned bar tab r) (map_turned rs)

rows_sheet : (rs : List (List ℕ)) → joined (lines_of (rows_of rs)) ≡ turned bar tab (joined rs)
rows_sheet rs = ap joined (map_turned rs) ∙ sym (turned_joined bar tab (λ e. omega arith) rs)

-- which hold no bar any more
rows_bars : (n : ℕ) (rs : List (List ℕ)) → bar_line n (lines_of (rows_of rs)) ≡ 0
unfolding bar_line
rows_bars n [] = refl
rows_bars n (r ∷ rs) = rw (parted_turned bar tab r, turned_gone bar tab r (λ e. omega arith)) (rows_bars (suc n) rs)

-- the sheet is no longer than the text
two_go : (b n : ℕ) (s : List ℕ) (t : Bool) → n ≤ length s → suc n ≤ length (cond t (quote ∷ quote ∷ s) (b ∷ s))
two_go b n s true h = omega arith
two_go b n s false h = omega arith

doubled_long : (x : List ℕ) → length x ≤ length (doubled x)
unfolding doubled
doubled_long [] = omega arith
doubled_long (b ∷ s) = two_go b (length s) (doubled s) (eqb b quote) (doubled_long s)

long_go : (x : List ℕ) (t : Bool) → quoted x ≡ t → length x ≤ length (field_of x)
long_go x true q = omega (arith, ap length (field_quoted x q), length-append (doubled x) (quote ∷ []), doubled_long x)
long_go x false q = omega (arith, ap length (field_plain x q))

line_long : (row : List (List ℕ)) → length (parted tab row) ≤ length (line_of row)
unfolding parted
line_long [] = omega arith
line_long (x ∷ []) = long_go x (quoted x) refl
line_long (x ∷ y ∷ row) =
    omega (arith, long_go x (quoted x) refl, line_long (y ∷ row), length-append x (tab ∷ parted tab (y ∷ row)), length-append (field_of x) (comma ∷ line_of (y ∷ row)))

text_long : (rows : List (List (List ℕ))) → length (joined (lines_of rows)) ≤ length (text_of rows)
unfolding text_of joined
text_long [] = omega arith
text_long (row ∷ rows) =
    omega (arith, line_long row, text_long rows, length-append (parted tab row) (feed ∷ joined (lines_of rows)), length-append (line_of row) (return ∷ feed ∷ text_of rows))

module _ (a : Asked) (proper : ProperAsked a) (f : List ℕ) (n : ℕ) (accepts : judged a f ≡ accepted n) where
  abbrev lines : List (List ℕ)
  lines = but_last (records f)

  -- the exported text has a reading: the fields of the file's records
  pub export_reads : Text (export_of f) (rows_of lines)
  unfolding export_of
  export_reads = text_reads lines (accepted_text a proper f n accepts)

  pub export_sheet : joined (lines_of (rows_of lines)) ≡ sheet_of f
  unfolding sheet_of
  export_sheet = rows_sheet lines

  pub export_lines : length (rows_of lines) ≡ n - 1
  export_lines =
      omega (
        arith,
        length-map lines (fields bar),
        (accepted_passes a proper f n accepts).passed.count,
        ap length (accepted_split a proper f n accepts),
        length-append lines (footer (length lines + 1) (checksum lines) ∷ []),
      )

  pub export_long : length (sheet_of f) ≤ length (export_of f)
  unfolding export_of
  export_long = omega (arith, text_long (rows_of lines), ap length export_sheet)

  -- exporting an accepted file and importing the text gives the file's sheet, within import's limit and given room
  pub export_import : (old : List ℕ) → length (export_of f) ≤ 1048000 → length (sheet_of f) ≤ length old
      → Imported (export_of f) old (done (n - 1) (length (sheet_of f))) (sheet_of f ++ drop (length (sheet_of f)) old)
  export_import old short room =
      let readable : Readable (export_of f) (rows_of lines) (sheet_of f) = record { short = short; reads = export_reads; makes = sym export_sheet } in
      let made : Imported (export_of f) old (done (length (rows_of lines)) (length (sheet_of f))) (sheet_of f ++ drop (length (sheet_of f)) old) =
      imports.Imported.made readable (omega (arith, export_long)) (rows_bars 1 lines) room in
      rw export_lines at made

-- both in the bytes that are lent: a file exported, and what was written imported
module _ (a : Asked) (proper : ProperAsked a) (f : List ℕ) (n b : ℕ) (old new : List ℕ) (e : Exported a f (transferred n b) old new) where
  tells : (judged a f ≡ accepted n) × (b ≡ length (export_of f))
  unfolding exported
  tells = done_accepts a f (export_of f) (length old) n b (sym (same_answer (transferred n b) (exported a f (length old)) e.says))

  written : take b new ≡ export_of f
  written = ap (take b) e.leaves ∙ take_at (export_of f) (drop b old) b (sym tells.1)

  pub text_returns : (old' new' : List ℕ) (answer : Reply) → b ≤ 1048000 → length (sheet_of f) ≤ length old' → Imported (take b new) old' answer new'
      → (answer ≡ done (n - 1) (length (sheet_of f))) × (take (length (sheet_of f)) new' ≡ sheet_of f)
  text_returns old' new' answer short room i =
      let there : Imported (export_of f) old' answer new' = rw written at i in
      let same = one_imported there (export_import a proper f n tells.0 old' (omega (arith, tells.1)) room) in
      (same.0, ap (take (length (sheet_of f))) same.1 ∙ take_at (sheet_of f) (drop (length (sheet_of f)) old') (length (sheet_of f)) refl)

-- only one answer with its bytes meets export's promise
pub one_exported : (x : Asked) (f : List ℕ) (a b : Transfer) (old new new' : List ℕ) → Exported x f a old new → Exported x f b old new' → (a ≡ b) × (new ≡ new')
one_exported x f a b old new new' p q = one_handed p q
