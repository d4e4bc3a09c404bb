-- Laws of cutting: joined records are cut to themselves, and records and fields are parts without their separator.
use Prim.Native.Nat.{ℕ, zero, suc, ◌+◌, ◌-◌, ◌≤◌, ◌<◌}
use mathlib.Core.Path.{◌≡◌, refl, sym, ap, ◌∙◌}
use mathlib.Core.List.{List, [], ◌∷◌, ◌++◌, append_assoc, append-nil}
use mathlib.Core.Bool.{Bool, true, false, cond, ◌||◌, true≢false}
use native.Mathlib.Omega.{arith}
use lib.Dec.{eqb}
use lib.ListN.{length, take, get_or, length-append, drop_of_length-le, drop, length-drop}
use lib.Seq.{split_at, drop-drop}
use borrow.Author.Tests.{eqb-true, ne_eqb}
use Rattle.record.specs.Records.{onto, records, fields, joined, holds, some_holds, Bytes, IsPart}

pub neither : (x y : Bool) → (x || y) ≡ false → (x ≡ false) × (y ≡ false)
neither true y e = absurd (true≢false e)
neither false y e = (refl, e)

line_go : (b : ℕ) (r s : List ℕ) (t : Bool) → (holds 0x0A r ≡ false → records (r ++ 0x0A ∷ s) ≡ r ∷ records s) → (t || holds 0x0A r) ≡ false
    → cond t ([] ∷ records (r ++ 0x0A ∷ s)) (onto b (records (r ++ 0x0A ∷ s))) ≡ (b ∷ r) ∷ records s
unfolding onto
line_go b r s true ih h = absurd (true≢false h)
line_go b r s false ih h = ap (onto b) (ih h)

-- a record and its line feed before other bytes
pub records_line : (r s : List ℕ) → holds 0x0A r ≡ false → records (r ++ 0x0A ∷ s) ≡ r ∷ records s
unfolding records holds
records_line [] s h = refl
records_line (b ∷ r) s h = line_go b r s (eqb b 0x0A) (records_line r s) h

-- bytes with no line feed are one record, unless there are none
pub records_open : (l : List ℕ) → holds 0x0A l ≡ false → 0 < length l → records l ≡ l ∷ []
unfolding records holds onto
records_open [] h n = absurd (omega arith)
records_open (b ∷ []) h n = simp (neither (eqb b 0x0A) false h).0
records_open (b ∷ c ∷ l) h n =
    let p = neither (eqb b 0x0A) (holds 0x0A (c ∷ l)) h in
    simp p.0 (ap (onto b) (records_open (c ∷ l) p.1 (omega arith)))

-- joined records before other bytes
pub records_joined_on : (rs : List (List ℕ)) (s : List ℕ) → some_holds 0x0A rs ≡ false → records (joined rs ++ s) ≡ rs ++ records s
unfolding joined some_holds
records_joined_on [] s h = refl
records_joined_on (r ∷ rs) s h =
    let p = neither (holds 0x0A r) (some_holds 0x0A rs) h in
    ap records (append_assoc r (0x0A ∷ joined rs) s)
    ∙ records_line r (joined rs ++ s) p.0
    ∙ ap (λ (l : List (List ℕ)). r ∷ l) (records_joined_on rs s p.1)

-- a file made of records, a line feed after each, is cut into those records
pub records_joined : (rs : List (List ℕ)) → some_holds 0x0A rs ≡ false → records (joined rs) ≡ rs
unfolding records
records_joined rs h = ap records (sym (append-nil (joined rs))) ∙ records_joined_on rs [] h ∙ append-nil rs

-- and with a last record whose line feed is absent
pub records_joined_last : (rs : List (List ℕ)) (last : List ℕ) → some_holds 0x0A rs ≡ false → holds 0x0A last ≡ false → 0 < length last
    → records (joined rs ++ last) ≡ rs ++ last ∷ []
records_joined_last rs last h k n = records_joined_on rs last h ∙ ap (λ (l : List (List ℕ)). rs ++ l) (records_open last k n)

pub joined_append : (a b : List (List ℕ)) → joined (a ++ b) ≡ joined a ++ joined b
unfolding joined
joined_append [] b = refl
joined_append (r ∷ a) b = ap (λ (l : List ℕ). r ++ 0x0A ∷ l) (joined_append a b) ∙ sym (append_assoc r (0x0A ∷ joined a) (joined b))

back_go : (b : ℕ) (ps : List (List ℕ)) (f : List ℕ) (t : Bool) → eqb b 0x0A ≡ t → joined ps ≡ f → 0 < length f → joined (cond t ([] ∷ ps) (onto b ps)) ≡ b ∷ f
unfolding joined onto
back_go b ps f true e q n = rw (eqb-true b 0x0A e, q)
back_go b [] f false e q n = absurd (omega (arith, ap length q))
back_go b (p ∷ ps) f false e q n = ap (λ (l : List ℕ). b ∷ l) q

-- a file whose last byte is a line feed is its records joined
pub joined_records : (g : List ℕ) → joined (records (g ++ 0x0A ∷ [])) ≡ g ++ 0x0A ∷ []
unfolding records joined onto
joined_records [] = refl
joined_records (b ∷ g) =
    back_go b (records (g ++ 0x0A ∷ [])) (g ++ 0x0A ∷ []) (eqb b 0x0A) refl (joined_records g) (omega (arith, length-append g (0x0A ∷ [])))

-- and one whose last byte is another is its records joined, without the last line feed
pub joined_records_open : (g : List ℕ) (a : ℕ) → (a ≡ 0x0A → ⊥) → joined (records (g ++ a ∷ [])) ≡ g ++ a ∷ 0x0A ∷ []
unfolding records joined onto
joined_records_open [] a h = simp (ne_eqb a 0x0A h)
joined_records_open (b ∷ g) a h =
    back_go b (records (g ++ a ∷ [])) (g ++ a ∷ 0x0A ∷ []) (eqb b 0x0A) refl (joined_records_open g a h) (omega (arith, length-append g (a ∷ 0x0A ∷ [])))

-- the same, by a look at the last byte
last_byte : (f : List ℕ) → 0 < length f → f ≡ take (length f - 1) f ++ get_or f (length f - 1) 0 ∷ []
last_byte f h =
    let n = length f - 1 in
    split_at f n 0 (omega arith) ∙ ap (λ (l : List ℕ). take n f ++ get_or f n 0 ∷ l) (drop_of_length-le f {i = suc n} (omega arith))

pub joined_ended : (f : List ℕ) → 0 < length f → get_or f (length f - 1) 0 ≡ 0x0A → joined (records f) ≡ f
joined_ended f h e =
    let g = take (length f - 1) f in
    let is : f ≡ g ++ 0x0A ∷ [] = last_byte f h ∙ ap (λ (b : ℕ). g ++ b ∷ []) e in
    ap (λ (l : List ℕ). joined (records l)) is ∙ joined_records g ∙ sym is

pub joined_not_ended : (f : List ℕ) → 0 < length f → (get_or f (length f - 1) 0 ≡ 0x0A → ⊥) → joined (records f) ≡ f ++ 0x0A ∷ []
joined_not_ended f h e =
    let g = take (length f - 1) f in
    let b = get_or f (length f - 1) 0 in
    ap (λ (l : List ℕ). joined (records l)) (last_byte f h) ∙ joined_records_open g b e
    ∙ sym (append_assoc g (b ∷ []) (0x0A ∷ [])) ∙ ap (λ (l : List ℕ). l ++ 0x0A ∷ []) (sym (last_byte f h))

free_go : (sep b : ℕ) (ps : List (List ℕ)) (t : Bool) → eqb b sep ≡ t → some_holds sep ps ≡ false → some_holds sep (cond t ([] ∷ ps) (onto b ps)) ≡ false
unfolding some_holds holds onto
free_go sep b ps true e h = h
free_go sep b [] false e h = rw e
free_go sep b (p ∷ ps) false e h = rw e h

-- no record holds a line feed, and no field its separator
pub records_free : (s : List ℕ) → some_holds 0x0A (records s) ≡ false
unfolding records some_holds
records_free [] = refl
records_free (b ∷ s) = free_go 0x0A b (records s) (eqb b 0x0A) refl (records_free s)

pub fields_free : (sep : ℕ) (r : List ℕ) → some_holds sep (fields sep r) ≡ false
unfolding fields some_holds holds
fields_free sep [] = refl
fields_free sep (b ∷ s) = free_go sep b (fields sep s) (eqb b sep) refl (fields_free sep s)

-- the same of one of them
pub some_at : (b : ℕ) (ps : List (List ℕ)) → some_holds b ps ≡ false → (k : ℕ) → holds b (get_or ps k []) ≡ false
unfolding some_holds holds
some_at b [] h k = refl
some_at b (p ∷ ps) h zero = (neither (holds b p) (some_holds b ps) h).0
some_at b (p ∷ ps) h (suc k) = some_at b ps (neither (holds b p) (some_holds b ps) h).1 k

bytes_go : (b : ℕ) (ps : List (List ℕ)) (t : Bool) → b < 256 → ((k : ℕ) → Bytes (get_or ps k [])) → (k : ℕ) → Bytes (get_or (cond t ([] ∷ ps) (onto b ps)) k [])
unfolding onto
bytes_go b ps true h ih zero i = omega arith
bytes_go b ps true h ih (suc k) i = ih k i
bytes_go b [] false h ih zero zero = h
bytes_go b [] false h ih zero (suc i) = omega arith
bytes_go b [] false h ih (suc k) i = omega arith
bytes_go b (p ∷ ps) false h ih zero zero = h
bytes_go b (p ∷ ps) false h ih zero (suc i) = ih 0 i
bytes_go b (p ∷ ps) false h ih (suc k) i = ih (suc k) i

-- the records of bytes are bytes
pub records_bytes : (s : List ℕ) → Bytes s → (k : ℕ) → Bytes (get_or (records s) k [])
unfolding records
records_bytes [] h k i = omega arith
records_bytes (b ∷ s) h k i = bytes_go b (records s) (eqb b 0x0A) (h 0) (records_bytes s (λ j. h (suc j))) k i

le_go : (b n : ℕ) (ps : List (List ℕ)) (t : Bool) → length ps ≤ n → length (cond t ([] ∷ ps) (onto b ps)) ≤ suc n
unfolding onto
le_go b n ps true h = omega arith
le_go b n [] false h = omega arith
le_go b n (p ∷ ps) false h = omega arith

-- there are no more records than bytes, and at most one field more
pub records_le : (s : List ℕ) → length (records s) ≤ length s
unfolding records
records_le [] = omega arith
records_le (b ∷ s) = le_go b (length s) (records s) (eqb b 0x0A) (records_le s)

pub fields_le : (sep : ℕ) (r : List ℕ) → length (fields sep r) ≤ suc (length r)
unfolding fields
fields_le sep [] = omega arith
fields_le sep (b ∷ s) = le_go b (suc (length s)) (fields sep s) (eqb b sep) (fields_le sep s)

-- the same part by an equal value
pub part_as : {s p q : List ℕ} {a e : ℕ} → IsPart s a e p → p ≡ q → IsPart s a e q
part_as i e = record { ordered = i.ordered; within = i.within; is = i.is ∙ e }

-- a part of what stands from m on is a part of the whole
pub part_within : (s : List ℕ) (m a e : ℕ) (p : List ℕ) → m ≤ length s → IsPart (drop m s) a e p → IsPart s (m + a) (m + e) p
part_within s m a e p h i =
    let n : (m + e) - (m + a) ≡ e - a = omega arith in
    record { ordered = omega (arith, i.ordered); within = omega (arith, i.within, length-drop m s); is = rw (n, ← drop-drop a m s) i.is }
