-- What export hands over, answer by answer. Assumes nothing.
use Prim.Native.Nat.{ℕ, ◌≤◌, ◌<◌}
use mathlib.Core.Path.{◌≡◌, refl, sym, ap, ◌∙◌}
use mathlib.Core.Bool.{false}
use mathlib.Core.List.{List, [], ◌∷◌, ◌++◌}
use native.Mathlib.Nat.{zero-add}
use native.Mathlib.Omega.{arith}
use lib.ListN.{length, take, drop}
use lib.Seq.{length-take-le}
use Rattle.std.specs.Prelude.{Result, Ok, Err}
use Rattle.record.specs.Records.{records, joined, holds, some_holds}
use Rattle.record.proofs.Cutting.{neither, records_joined, records_free}
use Rattle.place.specs.Places.{whole}
use Rattle.place.specs.declared.Refusal.{Refusal}
use Rattle.flow.specs.Publication.{layout_for}
use Rattle.flow.specs.Editions.{Asked}
use Rattle.judge.specs.File.{judged_for, judged}
use Rattle.judge.specs.File as judging
use Rattle.judge.proofs.Passes.{passes}
use Rattle.judge.proofs.Demand2.{one_reply, accepted_flow}
use Rattle.sheet.specs.Sheets.{but_last}
use Rattle.sheet.specs.Write.{transferred, as_judged, fitted, paper}
use Rattle.sheet.specs.Code.{put}
use Rattle.sheet.proofs.Handing.{fits_not, fits}
use Rattle.csv_text.specs.Export.{text_of, rows_of, export_of, exported, Exported}
use Rattle.csv_text.proofs.Lines.{text_short}

pub but_last_free : (b : ℕ) (rs : List (List ℕ)) → some_holds b rs ≡ false → some_holds b (but_last rs) ≡ false
unfolding some_holds but_last
but_last_free b [] h = refl
but_last_free b (r ∷ []) h = refl
but_last_free b (r ∷ q ∷ rs) h =
    let n = neither (holds b r) (some_holds b (q ∷ rs)) h in
    rw n.0 (but_last_free b (q ∷ rs) n.1)

-- the records before the place where the last one starts
module _ (f : List ℕ) (b : ℕ) (within : b ≤ length f) (front : joined (but_last (records f)) ≡ take b f) where
  pub front_records : records (take b f) ≡ but_last (records f)
  front_records = ap records (sym front) ∙ records_joined (but_last (records f)) (but_last_free 0x0A (records f) (records_free f))

  pub front_text : text_of (rows_of (records (take b f))) ≡ export_of f
  unfolding export_of
  front_text = ap (λ (rs : List (List ℕ)). text_of (rows_of rs)) front_records

  pub front_short : length f ≤ 1048576 → length (text_of (rows_of (records (take b f)))) ≤ 9000000
  front_short h = omega (arith, text_short (take b f), length-take-le b f within)

module _ (a : Asked) (f old : List ℕ) where
  export_is : (v : Result ℕ Refusal) → judging.paper v ≡ judged a f → paper (as_judged v (fitted (length old) (export_of f))) ≡ paper (exported a f (length old))
  unfolding exported judged
  export_is v e = ap (λ (w : Result ℕ Refusal). paper (as_judged w (fitted (length old) (export_of f)))) (one_reply v (judged_for a f) e)

  pub export_refused : (r : Refusal) → judging.paper (Err r) ≡ judged a f → Exported a f (Err r) old old
  export_refused r e = record { says = export_is (Err r) e; leaves = refl }

  module _ (n b : ℕ) (accepts : judging.accepted n ≡ judged a f) (size : b ≡ length (export_of f)) where
    pub export_no_room : {r : Refusal} → r ≡ whole 17 → length old < b → Exported a f (Err r) old old
    export_no_room z h =
        record {
          says =
              ap (λ (x : Refusal). paper (Err x)) z ∙ ap paper (sym (fits_not (length old) (export_of f) n (omega arith)))
              ∙ export_is (Ok n) accepts;
          leaves = refl;
        }

    pub export_done : (new : List ℕ) → b ≤ length old → new ≡ put old 0 (export_of f) → Exported a f (transferred n b) old new
    export_done new h e =
        record {
          says =
              ap (λ (k : ℕ). paper (transferred n k)) size ∙ ap paper (sym (fits (length old) (export_of f) n (omega arith)))
              ∙ export_is (Ok n) accepts;
          leaves = e ∙ ap (λ (k : ℕ). export_of f ++ drop k old) (zero-add (length (export_of f)) ∙ sym size);
        }

-- an accepted file is within the limit
pub accepted_short : (a : Asked) (f : List ℕ) (n : ℕ) → judging.accepted n ≡ judged a f → length f ≤ 1048576
accepted_short a f n e =
    let x = accepted_flow f n a (sym e) in
    (passes (layout_for x.0) f n x.2).limit
