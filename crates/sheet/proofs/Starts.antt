-- Where the last record of a file starts: what stands before it is all records but the last, each with its line feed. Assumes nothing.
use Prim.Native.Nat.{ℕ, suc, ◌-◌, ◌≤◌, ◌<◌}
use mathlib.Core.Path.{◌≡◌, refl, sym, ap, ◌∙◌}
use mathlib.Core.Bool.{Bool, true, false, cond, or-true}
use mathlib.Core.List.{List, [], ◌∷◌, ◌++◌}
use native.Mathlib.Omega.{arith}
use lib.Dec.{eqb}
use lib.ListN.{length, get_or, take, drop, take-append-drop, drop_of_length-le}
use lib.Seq.{drop-cons, length-take-le, get_or-take}
use borrow.Author.Tests.{eq-eqb, ne_eqb}
use Rattle.record.specs.Records.{onto, records, joined}
use Rattle.record.proofs.Cutting.{records_joined_on, records_free}
use Rattle.judge.specs.File.{ends_in_feed}
use Rattle.sheet.specs.Sheets.{but_last}
use Rattle.sheet.specs.Write.{lines_ended}
use Rattle.sheet.proofs.MadeFiles.{sheet_joined}

-- lines that are ended, and what comes after them
pub records_behind : (a b : List ℕ) → lines_ended a ≡ true → records (a ++ b) ≡ records a ++ records b
records_behind a b e =
    ap (λ (x : List ℕ). records (x ++ b)) (sym (sheet_joined a e)) ∙ records_joined_on (records a) b (records_free a)

pub but_last_snoc : (rs : List (List ℕ)) (r : List ℕ) → but_last (rs ++ r ∷ []) ≡ rs
unfolding but_last
but_last_snoc [] r = refl
but_last_snoc (q ∷ []) r = refl
but_last_snoc (q ∷ p ∷ rs) r = ap (λ (x : List (List ℕ)). q ∷ x) (but_last_snoc (p ∷ rs) r)

but_last_one : (rs ps : List (List ℕ)) → length ps ≡ 1 → but_last (rs ++ ps) ≡ rs
but_last_one rs [] e = absurd (omega arith)
but_last_one rs (p ∷ []) e = but_last_snoc rs p
but_last_one rs (p ∷ q ∷ ps) e = absurd (omega arith)

byte_go : (b : ℕ) (t : Bool) → length (cond t ([] ∷ []) (onto b [])) ≡ 1
unfolding onto
byte_go b true = refl
byte_go b false = refl

onto_one : (b : ℕ) (ps : List (List ℕ)) → length ps ≡ 1 → length (onto b ps) ≡ 1
unfolding onto
onto_one b [] e = absurd (omega arith)
onto_one b (p ∷ ps) e = e

module _ (f : List ℕ) where
  -- the last byte is in the last record, or its line feed
  pub one_last : 0 < length f → length (records (drop (length f - 1) f)) ≡ 1
  unfolding records
  one_last h =
      let n = length f - 1 in
      rw (drop-cons f n 0 (omega arith), drop_of_length-le f {i = suc n} (omega arith)) (byte_go (get_or f n 0) (eqb (get_or f n 0) 0x0A))

  -- so is a byte before, if it is no line feed
  pub one_more_lem : (i : ℕ) → 1 ≤ i → i ≤ length f → (get_or f (i - 1) 0 ≡ 0x0A → ⊥) → length (records (drop i f)) ≡ 1
      → length (records (drop (i - 1) f)) ≡ 1
  unfolding records
  one_more_lem i some within h one =
      let back : suc (i - 1) ≡ i = omega arith in
      let left : length (records (drop (suc (i - 1)) f)) ≡ 1 = rw back one in
      rw (drop-cons f (i - 1) 0 (omega arith), ne_eqb (get_or f (i - 1) 0) 0x0A h) (onto_one (get_or f (i - 1) 0) (records (drop (suc (i - 1)) f)) left)

  front_go : (i : ℕ) → lines_ended (take i f) ≡ true → length (records (drop i f)) ≡ 1 → joined (but_last (records f)) ≡ take i f
  front_go i e one =
      ap (λ (x : List ℕ). joined (but_last (records x))) (sym (take-append-drop i f))
      ∙ ap (λ (x : List (List ℕ)). joined (but_last x)) (records_behind (take i f) (drop i f) e)
      ∙ ap joined (but_last_one (records (take i f)) (records (drop i f)) one) ∙ sheet_joined (take i f) e

  -- a line feed stands before it
  pub start_found : (i : ℕ) → 1 ≤ i → i ≤ length f → get_or f (i - 1) 0 ≡ 0x0A → length (records (drop i f)) ≡ 1
      → joined (but_last (records f)) ≡ take i f
  start_found i some within e one =
      let long : length (take i f) ≡ i = length-take-le i f within in
      let feed : ends_in_feed (take i f) ≡ true = rw (long, get_or-take i f (i - 1) 0 (omega arith)) (eq-eqb (get_or f (i - 1) 0) 0x0A e) in
      front_go i (rw feed (or-true (eqb (length (take i f)) 0))) one

  -- or it is the only one
  pub start_first : length (records f) ≡ 1 → joined (but_last (records f)) ≡ []
  start_first one = front_go 0 refl one

-- or there is none
pub start_none : (f : List ℕ) → length f ≡ 0 → joined (but_last (records f)) ≡ []
unfolding joined but_last records
start_none [] e = refl
start_none (b ∷ s) e = absurd (omega arith)
