-- Where a record stands in its file: behind the records before it, each with its line feed. Assumes nothing.
use Prim.Native.Nat.{ℕ, ◌+◌, ◌<◌}
use mathlib.Core.Path.{◌≡◌, refl, ap, subst, ◌∙◌}
use mathlib.Core.List.{List, [], ◌∷◌, ◌++◌}
use native.Mathlib.Omega.{arith}
use lib.ListN.{length, take, get_or, length-append}
use lib.Seq.{take_at, get_or-append_seam}
use Rattle.record.specs.Records.{records, extent, IsPart}
use Rattle.place.proofs.Lies.{record_lies, part_at}

pub lies_there : (f : List ℕ) (before : List (List ℕ)) (r : List ℕ) (after : List (List ℕ)) → records f ≡ before ++ r ∷ after
    → IsPart f (extent before) (extent before + length r) r
lies_there f before r after e =
    let there : length before < length (records f) = omega (arith, ap length e, length-append before (r ∷ after)) in
    let place : extent (take (length before) (records f)) ≡ extent before =
    ap (λ (l : List (List ℕ)). extent (take (length before) l)) e ∙ ap extent (take_at before (r ∷ after) (length before) refl) in
    let is : get_or (records f) (length before) [] ≡ r = ap (λ (l : List (List ℕ)). get_or l (length before) []) e ∙ get_or-append_seam before r after [] in
    subst (λ (q : List ℕ). IsPart f (extent before) (extent before + length q) q) is
    (part_at place (ap (λ (n : ℕ). n + length (get_or (records f) (length before) [])) place) (record_lies (length before) f there))
