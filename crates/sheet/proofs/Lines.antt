-- Judging lines parted by tabs is judging the same lines parted by bars; and what is said with one record more. Assumes nothing.
use Prim.Native.Nat.{ℕ, zero, suc, ◌+◌}
use mathlib.Core.Path.{◌≡◌, refl, sym, ap, ◌∙◌}
use mathlib.Core.Bool.{false}
use mathlib.Core.List.{List, [], ◌∷◌, ◌++◌, map, map-append, foldl, append-nil}
use lib.ListN.{length, get_or, length-append, length-map}
use lib.Seq.{append_snoc}
use Rattle.record.specs.Records.{fields, field, barred, holds, some_holds, bar}
use Rattle.checksum.specs.Checksum.{checksum}
use Rattle.record.proofs.Cutting.{neither}
use Rattle.record.proofs.Turned.{turned_length, fields_turned, turned_same}
use Rattle.layout.specs.Layout.{Layout, row, kind_named}
use Rattle.fault.specs.Record.{kind_of, shape_fault, footer_fault, kind_fault}
use Rattle.judge.specs.Record.{last_kind, key_with, key_before, sum_of, fault}
use Rattle.judge.specs.File.{at_record, checked_from, finish}
use Rattle.fault.specs.Fields.{Check}
use Rattle.judge.specs.declared.Unplaced.{Unplaced}
use Rattle.std.specs.Prelude.{Result, Ok, Err}
use Rattle.sheet.specs.Sheets.{tab}
use Rattle.sheet.proofs.Holding.{none_snoc}

-- a line without a bar has the same fields, whichever byte parts them
module _ (l : Layout) (r : List ℕ) (free : holds bar r ≡ false) where
  same_fields : fields bar (barred tab r) ≡ fields tab r
  same_fields = fields_turned tab bar r free

  same_field : (k : ℕ) → field bar k (barred tab r) ≡ field tab k r
  unfolding field
  same_field zero = refl
  same_field (suc k) = ap (λ (fs : List (List ℕ)). get_or fs k []) same_fields

  same_kind : kind_of bar l (barred tab r) ≡ kind_of tab l r
  same_kind = ap (kind_named l) (same_field 1)

  same_key : (k : ℕ) (old : List ℕ) → key_with bar l k old (barred tab r) ≡ key_with tab l k old r
  unfolding key_with
  same_key k old = rw (same_kind, same_field (row l k).key)

  same_kind_fault : (n last sum : ℕ) (old : List ℕ) (k : ℕ) → kind_fault bar l n last sum old k (barred tab r) ≡ kind_fault tab l n last sum old k r
  unfolding kind_fault shape_fault footer_fault
  same_kind_fault n last sum old k = rw (same_fields, same_field (row l k).key, same_field 2, same_field 3)

-- so have the lines before it
module _ (l : Layout) where
  pub same_last : (before : List (List ℕ)) → some_holds bar before ≡ false → last_kind bar l (map (barred tab) before) ≡ last_kind tab l before
  unfolding last_kind some_holds
  same_last [] h = refl
  same_last (r ∷ []) h = same_kind l r (neither (holds bar r) false h).0
  same_last (r ∷ q ∷ rs) h = same_last (q ∷ rs) (neither (holds bar r) (some_holds bar (q ∷ rs)) h).1

  same_keys : (k : ℕ) (old : List ℕ) (before : List (List ℕ)) → some_holds bar before ≡ false
      → foldl (key_with bar l k) old (map (barred tab) before) ≡ foldl (key_with tab l k) old before
  unfolding some_holds
  same_keys k old [] h = refl
  same_keys k old (r ∷ rs) h =
      let p = neither (holds bar r) (some_holds bar rs) h in
      ap (λ (x : List ℕ). foldl (key_with bar l k) x (map (barred tab) rs)) (same_key l r p.0 k old)
      ∙ same_keys k (key_with tab l k old r) rs p.1

  turned_once : (before : List (List ℕ)) → map (barred bar) (map (barred tab) before) ≡ map (barred tab) before
  turned_once [] = refl
  turned_once (r ∷ rs) = λ i. turned_same bar (barred tab r) i ∷ turned_once rs i

  pub same_sum : (before : List (List ℕ)) → sum_of bar (map (barred tab) before) ≡ sum_of tab before
  same_sum before = ap checksum (turned_once before)

  pub same_fault : (before : List (List ℕ)) (r : List ℕ) → some_holds bar before ≡ false → holds bar r ≡ false
      → fault bar l (map (barred tab) before) (barred tab r) ≡ fault tab l before r
  unfolding fault key_before
  same_fault before r h free =
      rw (
        turned_length tab bar r,
        length-map before (barred tab),
        same_last before h,
        same_sum before,
        same_kind l r free,
        same_keys (kind_of tab l r) [] before h,
        same_kind_fault l r free,
      )

  pub same_checked : (before lines : List (List ℕ)) → some_holds bar before ≡ false → some_holds bar lines ≡ false
      → checked_from bar l (map (barred tab) before) (map (barred tab) lines) ≡ checked_from tab l before lines
  unfolding checked_from some_holds
  same_checked before [] h k = ap Ok (length-map before (barred tab))
  same_checked before (r ∷ lines) h k =
      let p = neither (holds bar r) (some_holds bar lines) k in
      let after : checked_from bar l (map (barred tab) before ++ barred tab r ∷ []) (map (barred tab) lines) ≡ checked_from tab l (before ++ r ∷ []) lines =
      ap (λ (x : List (List ℕ)). checked_from bar l x (map (barred tab) lines)) (sym (map-append (barred tab) before (r ∷ [])))
      ∙ same_checked (before ++ r ∷ []) lines (none_snoc bar before r h p.0) p.1 in
      rw (length-map before (barred tab), same_fault before r h p.0, after)

-- with one record more at the end
module _ (sep : ℕ) (l : Layout) (r : List ℕ) where
  -- what is said at a record that stands after these
  abbrev pub at_end : List (List ℕ) → Result ℕ Unplaced
  at_end before = at_record (length before + 1) (fault sep l before r) (Ok (length before + 1))

  turn : (c : Check) (n : ℕ) (v w e : Result ℕ Unplaced) → v ≡ finish w e → at_record n c v ≡ finish (at_record n c w) e
  turn (Ok nothing) n v w e q = q
  turn (Err x) n v w e q = refl

  pub checked_snoc : (before rs : List (List ℕ)) → checked_from sep l before (rs ++ r ∷ []) ≡ finish (checked_from sep l before rs) (at_end (before ++ rs))
  unfolding checked_from
  checked_snoc before [] =
      let one : length (before ++ r ∷ []) ≡ length before + 1 = length-append before (r ∷ []) in
      rw (append-nil before, one)
  checked_snoc before (q ∷ rs) =
      turn (fault sep l before q) (length before + 1) (checked_from sep l (before ++ q ∷ []) (rs ++ r ∷ [])) (checked_from sep l (before ++ q ∷ []) rs)
      (at_end (before ++ q ∷ rs))
      (checked_snoc (before ++ q ∷ []) rs ∙ ap (λ (x : List (List ℕ)). finish (checked_from sep l (before ++ q ∷ []) rs) (at_end x)) (append_snoc before q rs))
