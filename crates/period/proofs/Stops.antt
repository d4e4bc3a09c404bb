-- The search for the stop: what is left to read gives the answer of the whole file. Assumes nothing.
use Prim.Native.Nat.{ℕ, ◌+◌, ◌-◌, ◌≤◌, ◌<◌}
use mathlib.Core.Path.{◌≡◌, refl, sym, ap, ◌∙◌}
use mathlib.Core.Bool.{true, false, or-false}
use mathlib.Core.List.{List, [], ◌∷◌}
use native.Mathlib.Decide.{dec_lt}
use native.Mathlib.Omega.{arith}
use lib.Dec.{eqb}
use lib.ListN.{length, take, drop}
use borrow.Author.Tests.{le-leb, lt-leb, ne_eqb}
use Rattle.record.specs.Records.{records, extent}
use Rattle.record.specs.Step.{IsRecord}
use Rattle.record.proofs.Cursors.{records_end, part_length}
use Rattle.period.specs.Answer.{period_in, some_stops, up_to, some_has}
use Rattle.period.specs.Code.{StopsAt}

-- one record more in front: it stops
module _ (p : ℕ) (r : List ℕ) (rs : List (List ℕ)) (h : p ≤ period_in r) where
  pub here_stops : some_stops p (r ∷ rs) ≡ true
  unfolding some_stops
  here_stops = rw (le-leb _ _ h)

  pub here_ends : up_to p (r ∷ rs) ≡ r ∷ []
  unfolding up_to
  here_ends = rw (le-leb _ _ h)

-- it does not
module _ (p : ℕ) (r : List ℕ) (rs : List (List ℕ)) (h : period_in r < p) where
  pub later_stops : some_stops p (r ∷ rs) ≡ some_stops p rs
  unfolding some_stops
  later_stops = rw (lt-leb _ _ h)

  pub later_ends : up_to p (r ∷ rs) ≡ r ∷ up_to p rs
  unfolding up_to
  later_ends = rw (lt-leb _ _ h)

  pub later_has : (left : List (List ℕ)) → some_has p (r ∷ left) ≡ some_has p left
  unfolding some_has
  later_has left = rw (ne_eqb p (period_in r) (λ e. omega (arith, h, e)))

-- what the search keeps: from a place on the stop, its end and what it says are those of the whole file
pub record Seeking (f : List ℕ) (p at : ℕ) : Type 0 where
  pub stops : some_stops p (records (drop at f)) ≡ some_stops p (records f)
  pub has : some_has p (up_to p (records (drop at f))) ≡ some_has p (up_to p (records f))
  pub place : 0 < length (records (drop at f)) → at + extent (up_to p (records (drop at f))) ≡ extent (up_to p (records f))

module _ (f : List ℕ) (p : ℕ) where
  pub from_start : Seeking f p 0
  from_start = record { stops = refl; has = refl; place = λ _. omega arith }

  module _ (at : ℕ) (x : Seeking f p at) where
    -- no records are left
    pub no_stop : records (drop at f) ≡ [] → some_stops p (records f) ≡ false
    unfolding some_stops
    no_stop e = sym x.stops ∙ ap (some_stops p) e

    module _ {a e n : ℕ} (y : IsRecord f at a e n) where
      abbrev r : List ℕ
      r = take (e - a) (drop a f)

      abbrev rest : List (List ℕ)
      rest = records (drop n f)

      long : length r ≡ e - a
      long = part_length f a e y.ordered y.within

      some : 0 < length (records (drop at f))
      some = omega (arith, ap length y.splits)

      -- the next record stops
      pub stop_here : (found : ℕ) → found ≡ period_in r → p ≤ found → StopsAt f p e (eqb p found)
      unfolding some_has extent
      stop_here found is h =
          let reached : p ≤ period_in r = omega (arith, is, h) in
          let ends = ap (up_to p) y.splits ∙ here_ends p r rest reached in
          record {
            there = sym x.stops ∙ ap (some_stops p) y.splits ∙ here_stops p r rest reached;
            within = y.within;
            ends = omega (arith, x.place some, ap extent ends, long, y.starts, y.ordered);
            is = ap (eqb p) is ∙ sym (or-false (eqb p (period_in r))) ∙ sym (ap (some_has p) ends) ∙ x.has;
          }

      behind : Dec (n < length f) → 0 < length rest → n ≡ at + (length r + 1)
      behind (yes l) h = omega (arith, y.past l, y.starts, y.ordered, long)
      behind (no l) h = absurd (omega (arith, ap length (records_end f n (omega arith))))

      -- it does not, and is passed
      pub stop_later : (found : ℕ) → found ≡ period_in r → found < p → Seeking f p n
      unfolding extent
      stop_later found is h =
          let short : period_in r < p = omega (arith, is, h) in
          let ends = ap (up_to p) y.splits ∙ later_ends p r rest short in
          record {
            stops = sym (ap (some_stops p) y.splits ∙ later_stops p r rest short) ∙ x.stops;
            has = sym (ap (some_has p) ends ∙ later_has p r rest short (up_to p rest)) ∙ x.has;
            place = λ more. omega (arith, behind (dec_lt n (length f)) more, x.place some, ap extent ends);
          }
