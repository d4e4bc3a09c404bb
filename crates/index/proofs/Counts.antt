-- An index has as many entries as records may have children, and what is begun follows from the reader's answer, and from what is asked. Assumes nothing.
use Prim.Native.Nat.{ℕ, ◌<◌, ◌≤◌}
use mathlib.Core.Path.{◌≡◌, refl, sym, ap, ◌∙◌}
use mathlib.Core.Bool.{Bool, true, false}
use mathlib.Core.List.{List, [], ◌∷◌, ◌++◌}
use native.Mathlib.Omega.{arith}
use lib.ListN.{length}
use borrow.Author.Tests.{le-leb, lt-leb}
use Rattle.std.specs.Prelude.{Result, Ok, Err}
use Rattle.place.specs.Places.{whole}
use Rattle.place.specs.declared.Refusal.{Refusal}
use Rattle.layout.specs.Layout.{Layout}
use Rattle.layout.specs.Numbers.{layout_of}
use Rattle.flow.specs.Publication.{Flow, layout_for}
use Rattle.flow.specs.Editions.{Asked, a_flow, no_flow}
use Rattle.judge.specs.File.{placed_by, judged_for}
use Rattle.index.specs.declared.Filled.{Filled}
use Rattle.index.specs.Entries.{Kinds, kinds_of, may_head, heads_in, entries_from, entries_of, filled, indexed_by, entries_by, answer_by, answer_for}
use Rattle.index.specs.Code.{kinds_in}
use Rattle.index.proofs.Tables.{unfixed}

module _ (ks : Kinds) (f : List ℕ) where
  entry_counted : (before js : List ℕ) (j : ℕ) (b : Bool) → may_head ks j ≡ b → heads_in ks js ≡ length (entries_from ks f (before ++ j ∷ []) js)
      → heads_in ks (j ∷ js) ≡ length (entries_from ks f before (j ∷ js))
  unfolding heads_in entries_from
  entry_counted before js j true e more = rw e (omega (arith, more))
  entry_counted before js j false e more = rw e (omega (arith, more))

  pub from_count : (before js : List ℕ) → heads_in ks js ≡ length (entries_from ks f before js)
  unfolding heads_in entries_from
  from_count before [] = refl
  from_count before (j ∷ js) = entry_counted before js j (may_head ks j) refl (from_count (before ++ j ∷ []) js)

  pub entries_count : heads_in ks (kinds_of ks f) ≡ length (entries_of ks f)
  entries_count = from_count [] (kinds_of ks f)

-- as many by a table as by its layout
pub table_count : (t fixed f : List ℕ) → heads_in (kinds_in t) (kinds_of (kinds_in t) f) ≡ length (entries_by (layout_of t fixed) f)
table_count t fixed f = entries_count (kinds_in t) f ∙ ap (λ (ks : Kinds). length (entries_of ks f)) (unfixed t fixed)

-- by the reader's answer
module _ (l : Layout) (f : List ℕ) (room : ℕ) (v : Result ℕ Refusal) (reader : v ≡ placed_by l f) where
  by_reader : (w : Result ℕ Refusal) → v ≡ w → indexed_by w (entries_by l f) room ≡ answer_by l f room
  by_reader w is = ap (λ (x : Result ℕ Refusal). indexed_by x (entries_by l f) room) (sym is ∙ reader)

  pub reader_refused : {r : Refusal} → v ≡ Err r → Err r ≡ answer_by l f room
  unfolding indexed_by
  reader_refused {r = r} is = by_reader (Err r) is

  module _ {n count : ℕ} (is : v ≡ Ok n) (counted : count ≡ length (entries_by l f)) where
    pub too_short : room < count → {r : Refusal} → r ≡ whole 19 → Err r ≡ answer_by l f room
    unfolding indexed_by
    too_short h {r = r} nineteen =
        let short : indexed_by (Ok n) (entries_by l f) room ≡ Err (whole 19) = rw (lt-leb (length (entries_by l f)) room (omega (arith, h, counted))) in
        ap (λ (x : Refusal). Err x) nineteen ∙ sym short ∙ by_reader (Ok n) is

    pub has_room : count ≤ room → Ok (filled n count) ≡ answer_by l f room
    unfolding indexed_by
    has_room h =
        let fits : indexed_by (Ok n) (entries_by l f) room ≡ Ok (filled n (length (entries_by l f))) = rw (le-leb (length (entries_by l f)) room (omega (arith, h, counted))) in
        ap (λ (m : ℕ). Ok (filled n m)) counted ∙ sym fits ∙ by_reader (Ok n) is

-- by what is asked
module _ (a : Asked) (f : List ℕ) (room : ℕ) where
  pub begun_refused : (r : Refusal) → no_flow r ≡ a → Err r ≡ answer_for a f room
  unfolding indexed_by judged_for
  begun_refused r e = ap (λ (x : Asked). answer_for x f room) e

  pub begun_flow : (fl : Flow) → a_flow fl ≡ a → (l : Layout) → l ≡ layout_for fl → (b : Result Filled Refusal) → b ≡ answer_by l f room → b ≡ answer_for a f room
  unfolding judged_for
  begun_flow fl e l is b w = w ∙ ap (λ (x : Layout). answer_by x f room) is ∙ ap (λ (x : Asked). answer_for x f room) e
