-- The writer points into the sheet, the reader of the made file into that: both at the same byte, whatever is refused. Assumes nothing.
use Prim.Native.Nat.{ℕ, zero, suc, ◌+◌, ◌-◌, ◌^◌, ◌≤◌, ◌<◌}
use mathlib.Core.Path.{◌≡◌, refl, sym, ap, ◌∙◌}
use mathlib.Core.Bool.{Bool, true, false}
use mathlib.Core.List.{List, [], ◌∷◌, ◌++◌, map}
use native.Mathlib.Omega.{arith}
use lib.ListN.{length, take, get_or, length-append, length-map}
use Rattle.text.specs.Rules.{must}
use Rattle.text.specs.Characters.{from_to}
use Rattle.record.specs.Records.{records, fields, extent, barred, joined, turned, holds, some_holds, Bytes, bar}
use Rattle.record.proofs.Cutting.{neither}
use Rattle.record.proofs.Turned.{turned_length, turned_bytes, fields_turned}
use Rattle.checksum.specs.Checksum.{checksum_of}
use Rattle.checksum.proofs.Sums.{checksum_of_lt}
use Rattle.place.specs.Places.{record_at, record_start, field_start, place_at, refusal}
use Rattle.place.proofs.Points.{at_zero, past_end, in_record}
use Rattle.layout.specs.Layout.{Layout, may_follow}
use Rattle.flow.specs.Publication.{Flow, layout_for}
use Rattle.flow.specs.Editions.{a_flow}
use Rattle.flow.specs.Proper.{last_row, ProperFooter, Proper}
use Rattle.fault.specs.Fields.{Check}
use Rattle.judge.specs.Record.{last_kind, fault}
use Rattle.judge.specs.File.{unplaced, at_record, checked_from, finish, judged_by, with_place, judged_for, paper, judged}
use Rattle.judge.specs.declared.Unplaced.{Unplaced}
use Rattle.std.specs.Prelude.{Result, Ok, Err}
use Rattle.sheet.specs.Sheets.{tab, made}
use Rattle.sheet.specs.Write.{lines_ended}
use Rattle.sheet.specs.Code.{lines_judged}
use Rattle.sheet.proofs.Holding.{records_hold}
use Rattle.sheet.proofs.MadeFiles.{sheet_joined, records_made, made_judged}

-- lines, their tabs turned to bars and more records behind them: where each starts, and what it is
module _ (rest : List (List ℕ)) where
  starts_same : (i : ℕ) (ls : List (List ℕ)) → i ≤ length ls → extent (take i (map (barred tab) ls ++ rest)) ≡ extent (take i ls)
  unfolding extent
  starts_same zero ls h = refl
  starts_same (suc i) [] h = absurd (omega arith)
  starts_same (suc i) (l ∷ ls) h = omega (arith, turned_length tab bar l, starts_same i ls (omega arith))

  line_same : (i : ℕ) (ls : List (List ℕ)) → i < length ls → get_or (map (barred tab) ls ++ rest) i [] ≡ barred tab (get_or ls i [])
  line_same i [] h = absurd (omega arith)
  line_same zero (l ∷ ls) h = refl
  line_same (suc i) (l ∷ ls) h = line_same i ls (omega arith)

none_at : (i : ℕ) (ls : List (List ℕ)) → some_holds bar ls ≡ false → holds bar (get_or ls i []) ≡ false
unfolding holds some_holds
none_at i [] h = refl
none_at zero (l ∷ ls) h = (neither (holds bar l) (some_holds bar ls) h).0
none_at (suc i) (l ∷ ls) h = none_at i ls (neither (holds bar l) (some_holds bar ls) h).1

-- lines joined have their extent
extent_joined : (ls : List (List ℕ)) → extent ls ≡ length (joined ls)
unfolding extent joined
extent_joined [] = refl
extent_joined (l ∷ ls) = omega (arith, extent_joined ls, length-append l (0x0A ∷ joined ls))

take_all : (ls : List (List ℕ)) → take (length ls) ls ≡ ls
take_all [] = refl
take_all (l ∷ ls) = ap (λ (x : List (List ℕ)). l ∷ x) (take_all ls)

-- a field starts at the same byte of a line without a bar, whichever byte parts its fields
field_same : (r : List ℕ) (k : ℕ) → holds bar r ≡ false → field_start bar (barred tab r) k ≡ field_start tab r k
unfolding field_start
field_same r k free =
    ap (λ (fs : List (List ℕ)). must (from_to 1 (length fs) k) 0 (extent (take (k - 1) fs))) (fields_turned tab bar r free)

-- the first field starts where its record does
either_way : (b : Bool) (x : ℕ) → must b x x ≡ x
either_way true x = refl
either_way false x = refl

first_field : (sep : ℕ) (r : List ℕ) → field_start sep r 1 ≡ 0
unfolding field_start extent
first_field sep r = either_way (from_to 1 (length (fields sep r)) 1) 0

module _ (sheet : List ℕ) (free : holds bar sheet ≡ false) (ends : lines_ended sheet ≡ true) where
  abbrev lines : List (List ℕ)
  lines = records sheet

  -- in the lines of the sheet
  pub line_place : (n k : ℕ) → n ≤ length lines → place_at tab sheet n k ≡ place_at bar (made sheet) n k
  line_place zero k h = at_zero tab sheet 0 k refl ∙ sym (at_zero bar (made sheet) 0 k refl)
  line_place (suc i) k h =
      let n = suc i in
      let is = records_made sheet ends in
      let many = ap length is ∙ length-append (map (barred tab) lines) _ in
      let starts : record_start (made sheet) n ≡ record_start sheet n =
      ap (λ (rs : List (List ℕ)). extent (take (n - 1) rs)) is ∙ starts_same _ (n - 1) lines (omega arith) in
      let line : record_at (made sheet) n ≡ barred tab (record_at sheet n) =
      ap (λ (rs : List (List ℕ)). get_or rs (n - 1) []) is ∙ line_same _ (n - 1) lines (omega arith) in
      let none = none_at (n - 1) lines (records_hold bar sheet (λ e. omega arith) ∙ free) in
      let field = ap (λ (r : List ℕ). field_start bar r k) line ∙ field_same (record_at sheet n) k none in
      in_record tab sheet n k (omega arith) h
      ∙ sym (in_record bar (made sheet) n k (omega arith) (omega (arith, many, length-map lines (barred tab))) ∙ (λ i. starts i + field i))

  -- at the kind of the made footer, the sheet's length
  pub footer_place : place_at tab sheet (length lines + 1) 1 ≡ place_at bar (made sheet) (length lines + 1) 1
  footer_place =
      let n = length lines + 1 in
      let is = records_made sheet ends in
      let many = ap length is ∙ length-append (map (barred tab) lines) _ in
      let before : n - 1 ≡ length lines = omega arith in
      let starts : record_start (made sheet) n ≡ length sheet =
      ap (λ (rs : List (List ℕ)). extent (take (n - 1) rs)) is ∙ starts_same _ (n - 1) lines (omega arith)
      ∙ ap (λ (i : ℕ). extent (take i lines)) before ∙ ap extent (take_all lines) ∙ extent_joined lines ∙ ap length (sheet_joined sheet ends) in
      past_end tab sheet n 1 (omega arith)
      ∙ sym (in_record bar (made sheet) n 1 (omega arith) (omega (arith, many, length-map lines (barred tab)))
      ∙ omega (arith, starts, first_field bar (record_at (made sheet) n)))

-- a refusal is at one of the first n records
abbrev Within : ℕ → Result ℕ Unplaced → Type 0
Within n (Ok m) = Unit
Within n (Err x) = x.«record» ≤ n

wider : {m n : ℕ} → m ≤ n → (v : Result ℕ Unplaced) → Within m v → Within n v
wider h (Ok k) w = tt
wider h (Err x) w = omega arith

-- a refusal among some records is at one of them
module _ (sep : ℕ) (l : Layout) where
  at_record_within : (n m : ℕ) → n ≤ m → (c : Check) (later : Result ℕ Unplaced) → Within m later → Within m (at_record n c later)
  at_record_within n m h (Ok nothing) later w = w
  at_record_within n m h (Err x) later w = h

  checked_within : (before rs : List (List ℕ)) → Within (length before + length rs) (checked_from sep l before rs)
  unfolding checked_from
  checked_within before [] = tt
  checked_within before (r ∷ rs) =
      let one_more_lem = length-append before (r ∷ []) in
      at_record_within (length before + 1) (length before + length (r ∷ rs)) (omega arith) (fault sep l before r) _
      (wider (omega (arith, one_more_lem)) (checked_from sep l (before ++ r ∷ []) rs) (checked_within (before ++ r ∷ []) rs))

module _ (l : Layout) (proper : ProperFooter l) (sheet : List ℕ) (short : length sheet ≤ 1048000) (free : holds bar sheet ≡ false)
    (ends : lines_ended sheet ≡ true) (small : checksum_of (turned tab bar sheet) < 2 ^ 32) where
  abbrev SamePlaced : Result ℕ Unplaced → Type 0
  SamePlaced v = with_place tab sheet v ≡ with_place bar (made sheet) v

  in_lines : (v : Result ℕ Unplaced) → Within (length (records sheet)) v → SamePlaced v
  in_lines (Ok n) w = refl
  in_lines (Err x) w = ap (λ (p : ℕ). Err (refusal x.number x.«record» x.field p)) (line_place sheet free ends x.«record» x.field w)

  at_footer : (b : Bool) → SamePlaced (must b (Err (unplaced 5 (length (records sheet) + 1) 1)) (Ok (length (records sheet) + 1)))
  at_footer true = refl
  at_footer false = ap (λ (p : ℕ). Err (refusal 5 (length (records sheet) + 1) 1 p)) (footer_place sheet free ends)

  then_footer : (v w : Result ℕ Unplaced) → Within (length (records sheet)) v → SamePlaced w → SamePlaced (finish v w)
  then_footer (Ok n) w h e = e
  then_footer (Err x) w h e = in_lines (Err x) h

  same_place : SamePlaced (judged_by l (made sheet))
  unfolding lines_judged
  same_place =
      let said = made_judged l proper sheet short free ends small in
      let none : List (List ℕ) = [] in
      let lines = checked_from tab l none (records sheet) in
      rw said (then_footer lines _ (wider {m = length none + length (records sheet)} (omega arith) lines (checked_within tab l none (records sheet)))
      (at_footer (may_follow l (last_kind tab l (records sheet)) (last_row l))))

-- what the writer takes over from the reader is the reader's answer on the made file, its place included
module _ (fl : Flow) (proper : Proper fl) (sheet : List ℕ) (short : length sheet ≤ 1048000) (free : holds bar sheet ≡ false)
    (ends : lines_ended sheet ≡ true) (bytes : Bytes sheet) where
  pub judged_place : paper (with_place tab sheet (judged_by (layout_for fl) (made sheet))) ≡ judged (a_flow fl) (made sheet)
  unfolding judged judged_for
  judged_place =
      let small = checksum_of_lt (turned tab bar sheet) (turned_bytes tab bar sheet (omega arith) bytes) in
      ap paper (same_place (layout_for fl) proper.footer sheet short free ends small)
