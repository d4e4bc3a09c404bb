-- The answer by a layout, by what the code has found. Assumes nothing.
use Prim.Native.Nat.{ℕ, ◌+◌, ◌≤◌, ◌<◌}
use mathlib.Core.Path.{◌≡◌, refl, sym, ap, ◌∙◌}
use mathlib.Core.Bool.{Bool, true, false}
use mathlib.Core.List.{List, [], ◌∷◌}
use native.Mathlib.Omega.{arith}
use lib.ListN.{length, take}
use borrow.Author.Tests.{le-leb, lt-leb}
use Rattle.record.specs.Records.{records, fields, field, extent, bar}
use Rattle.record.proofs.Search.{extent_snoc}
use Rattle.place.specs.Places.{place_at, whole}
use Rattle.place.specs.declared.Refusal.{Refusal}
use Rattle.layout.specs.Layout.{Layout}
use Rattle.judge.specs.File.{checked_from, finish, judged_by, with_place}
use Rattle.judge.specs.declared.Unplaced.{Unplaced}
use Rattle.period.specs.Answer.{period_in, some_stops, up_to, some_has, read_up_to, answered, has_by}
use Rattle.period.specs.Code.{StopsAt}
use Rattle.std.specs.Prelude.{Result, Ok, Err}
use Rattle.period.proofs.Fronts.{front_records, stop_in_records, no_stop_all}

-- the reader's refusal, or an answer
abbrev pub readers_or : Bool → Result ℕ Refusal → Result Bool Refusal
readers_or has (Err r) = Err r
readers_or has (Ok n) = Ok has

pub as_reader : (f : List ℕ) (has : Bool) (v : Result ℕ Unplaced) → readers_or has (with_place bar f v) ≡ answered f v has
as_reader f has (Ok n) = refl
as_reader f has (Err r) = refl

-- a record that has a period has bytes
period_bytes : (r : List ℕ) → 1 ≤ period_in r → 0 < length r
unfolding period_in field fields
period_bytes [] h = h
period_bytes (b ∷ s) h = omega arith

-- with no more to say, the records alone tell
finish_none : (f : List ℕ) (v : Result ℕ Unplaced) (n : ℕ) (has : Bool) → answered f (finish v (Ok n)) has ≡ answered f v has
finish_none f (Ok m) n has = refl
finish_none f (Err r) n has = refl

module _ (l : Layout) (f : List ℕ) (p : ℕ) where
  pub too_long : 1048576 < length f → Err (whole 2) ≡ has_by l f p
  unfolding has_by read_up_to place_at
  too_long h = rw (lt-leb _ _ h)

  -- the bytes up to the end of the stop are the records up to it
  front_of : 1 ≤ p → {end : ℕ} {has : Bool} → StopsAt f p end has → records (take end f) ≡ up_to p (records f)
  front_of some {end} x =
      let s = stop_in_records p (records f) x.there in
      let place : end ≡ extent s.before + length s.stop =
      omega (arith, x.ends, ap extent s.front, extent_snoc s.before s.stop) in
      ap (λ (n : ℕ). records (take n f)) place
      ∙ front_records f s.before s.stop s.after s.whole (period_bytes s.stop (omega (arith, some, s.reaches)))
      ∙ sym s.front

  -- with a stop the records up to it tell
  pub stop_answer : length f ≤ 1048576 → some_stops p (records f) ≡ true
      → has_by l f p ≡ answered f (checked_from bar l [] (up_to p (records f))) (some_has p (up_to p (records f)))
  unfolding has_by read_up_to
  stop_answer short there =
      rw (le-leb _ _ short, there)
      (finish_none f (checked_from bar l [] (up_to p (records f))) (length (up_to p (records f))) (some_has p (up_to p (records f))))

  pub with_stop : length f ≤ 1048576 → 1 ≤ p → (end : ℕ) (has : Bool) → StopsAt f p end has → (a : Result Bool Refusal)
      → a ≡ answered f (checked_from bar l [] (records (take end f))) has → a ≡ has_by l f p
  with_stop short some end has x a e =
      e ∙ (λ i. answered f (checked_from bar l [] (front_of some x i)) (x.is i)) ∙ sym (stop_answer short x.there)

  pub without_stop : length f ≤ 1048576 → some_stops p (records f) ≡ false → (a : Result Bool Refusal) → a ≡ answered f (judged_by l f) false → a ≡ has_by l f p
  unfolding has_by read_up_to judged_by
  without_stop short none a e =
      let all = no_stop_all p (records f) none in
      e ∙ rw (le-leb _ _ short, none, all.0, all.1)
