-- The bench's tests in their order. Assumes nothing.
use Prim.Native.Nat.{ℕ, ◌+◌, ◌-◌, ◌≤◌, ◌<◌}
use mathlib.Core.Path.{◌≡◌, refl, sym, ap, ◌∙◌}
use mathlib.Core.List.{List, [], ◌∷◌}
use native.Mathlib.Omega.{arith}
use borrow.Author.Tests.{le-leb, lt-leb}
use lib.ListN.{length, take, drop, length-drop}
use lib.Seq.{take_all, length-take-le}
use Rattle.record.specs.Records.{records, extent}
use Rattle.record.specs.Found.{Stands}
use Rattle.record.proofs.Runs.{records_first}
use Rattle.place.specs.declared.Refusal.{Refusal}
use Rattle.flow.specs.Publication.{Flow}
use Rattle.flow.specs.Editions.{Asked, a_flow, no_flow, asked}
use Rattle.judge.specs.File.{refused, judged_for, judged, paper}
use Rattle.std.specs.Prelude.{Err}
use Rattle.bench.specs.Bench.{first_line, asked_by, file_behind, benched_for, benched}

-- where there is no record there is no byte
none_empty : (s : List ℕ) → length (records s) < 1 → s ≡ []
none_empty [] h = refl
none_empty (b ∷ s) h = absurd (omega (arith, h, ap length (records_first (b ∷ s) (omega arith))))

pub no_line : (s : List ℕ) → length (records s) < 1 → refused 1 0 0 0 ≡ benched s
unfolding benched judged judged_for records
no_line s h = rw (none_empty s h)

-- the first line stands up to end
module _ (s : List ℕ) (start end : ℕ) (stands : Stands (records s) s 1 start end) where
  at_front : start ≡ 0
  unfolding extent
  at_front = stands.starts

  -- its words
  abbrev words : List ℕ
  words = take (end - start) (drop start s)

  long : length (first_line s) ≡ end
  long =
      let fits : end - start ≤ length (drop start s) = simp length-drop (omega (arith, stands.is.within)) in
      let size : length words ≡ end - start = length-take-le (end - start) (drop start s) fits in
      ap length (sym stands.is.is) ∙ size ∙ omega (arith, at_front)

  pub not_ended : end ≡ length s → refused 1 0 0 0 ≡ benched s
  unfolding benched judged judged_for
  not_ended e = rw (lt-leb (length (first_line s) + 1) (length s) (omega (arith, long, e)))

  module _ (more : end ≡ length s → ⊥) where
    -- the file behind it
    abbrev file : List ℕ
    file = take (length s - (end + 1)) (drop (end + 1) s)

    asks : asked words ≡ asked_by s
    asks = rw (le-leb (length (first_line s) + 1) (length s) (omega (arith, long, stands.is.within, more))) (ap asked stands.is.is)

    file_is : file ≡ file_behind s
    file_is =
        let all : length (drop (end + 1) s) ≤ length s - (end + 1) = simp length-drop (omega arith) in
        take_all (length s - (end + 1)) (drop (end + 1) s) all ∙ ap (λ (n : ℕ). drop (n + 1) s) (sym long)

    answered : benched_for (asked words) file ≡ benched s
    unfolding benched
    answered = λ i. benched_for (asks i) (file_is i)

    pub no_flow_lem : (r : Refusal) → no_flow r ≡ asked words → paper (Err r) ≡ benched s
    unfolding judged judged_for
    no_flow_lem r e = ap (λ (a : Asked). benched_for a file) e ∙ answered

    module _ (fl : Flow) (is : a_flow fl ≡ asked words) where
      pub too_long : 65536 < length file → refused 2 0 0 0 ≡ benched s
      too_long h = (rw (lt-leb (length file) 65536 h)) ∙ ap (λ (a : Asked). benched_for a file) is ∙ answered

      pub the_file : length file ≤ 65536 → judged (asked words) file ≡ benched s
      the_file h =
          let said : judged (a_flow fl) file ≡ benched_for (a_flow fl) file = rw (le-leb (length file) 65536 h) in
          ap (λ (a : Asked). judged a file) (sym is) ∙ said ∙ ap (λ (a : Asked). benched_for a file) is ∙ answered
