-- Where the lines of a text start: at the place of the record with their number, of the text cut at its line feeds. Assumes nothing.
use Prim.Native.Nat.{ℕ, zero, suc, ◌+◌, ◌-◌, ◌≤◌, ◌<◌}
use mathlib.Core.Path.{◌≡◌, sym, ap, ◌∙◌}
use mathlib.Core.Bool.{Bool, true, false, cond}
use mathlib.Core.List.{List, [], ◌∷◌, ◌++◌}
use native.Mathlib.Decide.{dec_lt}
use native.Mathlib.Omega.{arith}
use lib.Dec.{eqb}
use lib.ListN.{length, take, length-append}
use Rattle.record.specs.Records.{onto, records, holds, extent, bar}
use Rattle.record.proofs.Cutting.{records_line}
use Rattle.place.specs.Places.{record_at, place_at}
use Rattle.place.proofs.Points.{no_field, past_end, in_record}
use Rattle.sheet.specs.Sheets.{tab, parted, bar_line}
use Rattle.rfc4180.specs.Rfc.{return, feed, Line, Text, lines_of, Stops, Starts}
use Rattle.rfc4180.specs.Rfc as rfc
use Rattle.rfc4180.proofs.Rows.{ended_feedless, ended_at}

-- the place of a record: behind those before it, each with its line feed
module _ (sep : ℕ) where
  within : (s : List ℕ) (n : ℕ) → 1 ≤ n → n ≤ length (records s) → place_at sep s n 0 ≡ extent (take (n - 1) (records s))
  within s n h k = omega (arith, in_record sep s n 0 h k, no_field sep (record_at s n) 0 (λ (e : 1 ≤ 0). absurd (omega arith)))

  records_some : (b : ℕ) (rs : List (List ℕ)) (t : Bool) → 1 ≤ length (cond t ([] ∷ rs) (onto b rs))
  unfolding onto
  records_some b rs true = omega arith
  records_some b [] false = omega arith
  records_some b (r ∷ rs) false = omega arith

  first_place : (s : List ℕ) → place_at sep s 1 0 ≡ 0
  unfolding records extent
  first_place [] = past_end sep [] 1 0 (omega arith)
  first_place (b ∷ s) = within (b ∷ s) 1 (omega arith) (records_some b (records s) (eqb b feed))

  module _ (r t : List ℕ) (n : ℕ) (free : holds feed r ≡ false) (some : 1 ≤ n) where
    behind_go : Dec (length (records t) < n) → place_at sep (r ++ feed ∷ t) (suc n) 0 ≡ length r + 1 + place_at sep t n 0
    unfolding extent
    behind_go (yes h) =
        omega (
          arith,
          past_end sep (r ++ feed ∷ t) (suc n) 0 (omega (arith, ap length (records_line r t free))),
          past_end sep t n 0 h,
          length-append r (feed ∷ t),
        )
    behind_go (no h) =
        let cut = records_line r t free in
        let up : suc n - 1 ≡ suc (n - 1) = omega arith in
        let front : extent (take (suc n - 1) (records (r ++ feed ∷ t))) ≡ length r + 1 + extent (take (n - 1) (records t)) = rw (cut, up) in
        omega (arith, front, within (r ++ feed ∷ t) (suc n) (omega arith) (omega (arith, ap length cut)), within t n some (omega arith))

    place_behind : place_at sep (r ++ feed ∷ t) (suc n) 0 ≡ length r + 1 + place_at sep t n 0
    place_behind = behind_go (dec_lt (length (records t)) n)

starts_some : {s : List ℕ} {n p : ℕ} → Starts s n p → 1 ≤ n
starts_some rfc.Starts.first = omega arith
starts_some (rfc.Starts.later l x) = omega arith

pub start_place : (sep : ℕ) {s : List ℕ} {n p : ℕ} → Starts s n p → place_at sep s n 0 ≡ p
start_place sep (rfc.Starts.first {s}) = first_place sep s
start_place sep (rfc.Starts.later {s} {t} {row} {n} {p} l x) =
    ap (λ (y : List ℕ). place_at sep y (suc n) 0) (sym (ended_at s t)) ∙ place_behind sep (s ++ return ∷ []) t n (ended_feedless l) (starts_some x)
    ∙ omega (arith, start_place sep x, length-append s (return ∷ []))

-- a line starts at one place
pub one_start : {s : List ℕ} {n p q : ℕ} → Starts s n p → Starts s n q → p ≡ q
one_start x y = sym (start_place 0 x) ∙ start_place 0 y

-- the line where a text stops has a start
abbrev Somewhere : List ℕ → ℕ → Type 0
Somewhere s n = (p : ℕ) × Starts s n p

stops_somewhere : {s : List ℕ} {n : ℕ} → Stops s n → Somewhere s n
stops_somewhere (rfc.Stops.here h l u) = (0, rfc.Starts.first)
stops_somewhere (rfc.Stops.later {s} l x) =
    let y = stops_somewhere x in
    (length s + 2 + y.0, rfc.Starts.later l y.1)

at_place : (sep : ℕ) {s : List ℕ} {n : ℕ} → Somewhere s n → Starts s n (place_at sep s n 0)
at_place sep x = rw (start_place sep x.1) x.1

pub stops_start : (sep : ℕ) {s : List ℕ} {n : ℕ} → Stops s n → Starts s n (place_at sep s n 0)
stops_start sep x = at_place sep (stops_somewhere x)

-- so has the first line with a bar
least_go : (i k x : ℕ) (t : Bool) → cond t i x ≡ suc k → (x ≡ suc k → suc i ≤ suc k) → i ≤ suc k
least_go i k x true e h = omega arith
least_go i k x false e h = omega (arith, h e)

bar_least : (i k : ℕ) (lines : List (List ℕ)) → bar_line i lines ≡ suc k → i ≤ suc k
unfolding bar_line
bar_least i k [] e = absurd (omega arith)
bar_least i k (line ∷ lines) e = least_go i k (bar_line (suc i) lines) (holds bar line) e (bar_least (suc i) k lines)

first_line_lem : {s : List ℕ} (m : ℕ) → m ≡ 0 → Somewhere s (suc m)
first_line_lem m z = rw z (0, rfc.Starts.first)

last_go : {s : List ℕ} (i m : ℕ) (b : Bool) → cond b (suc i) 0 ≡ suc i + m → Somewhere s (suc m)
last_go i m true e = first_line_lem m (omega arith)
last_go i m false e = absurd (omega arith)

more_go : {s t : List ℕ} {row : List (List ℕ)} (i : ℕ) (lines : List (List ℕ)) (b : Bool) (m : ℕ) → Line s row
    → ((k : ℕ) → bar_line (suc (suc i)) lines ≡ suc (suc i) + k → Somewhere t (suc k))
    → cond b (suc i) (bar_line (suc (suc i)) lines) ≡ suc i + m → Somewhere (s ++ return ∷ feed ∷ t) (suc m)
more_go i lines true m l f e = first_line_lem m (omega arith)
more_go i lines false zero l f e = absurd (omega (arith, bar_least (suc (suc i)) i lines (omega arith)))
more_go {s} i lines false (suc k) l f e =
    let y = f k (omega arith) in
    (length s + 2 + y.0, rfc.Starts.later l y.1)

bars_somewhere : {s : List ℕ} {rows : List (List (List ℕ))} → Text s rows → (i m : ℕ) → bar_line (suc i) (lines_of rows) ≡ suc i + m → Somewhere s (suc m)
unfolding bar_line
bars_somewhere rfc.Text.none i m e = absurd (omega arith)
bars_somewhere (rfc.Text.last {s} {row} h l) i m e = last_go i m (holds bar (parted tab row)) e
bars_somewhere (rfc.Text.more {s} {t} {row} {rows} l x) i m e =
    more_go i (lines_of rows) (holds bar (parted tab row)) m l (λ k q. bars_somewhere x (suc i) k q) e

pub bars_start : (sep : ℕ) {s : List ℕ} {rows : List (List (List ℕ))} → Text s rows → (n : ℕ) → bar_line 1 (lines_of rows) ≡ suc n
    → Starts s (suc n) (place_at sep s (suc n) 0)
bars_start sep x n e = at_place sep (bars_somewhere x 0 n (omega arith))
