-- Reading a file record by record: what the next record adds to a count of entries and to a count of children. Assumes nothing.
use Prim.Native.Nat.{ℕ, ◌+◌, ◌-◌, ◌≤◌}
use mathlib.Core.Path.{◌≡◌, refl, sym, ap, ◌∙◌}
use mathlib.Core.Bool.{Bool, true, false, cond}
use mathlib.Core.List.{List, [], ◌∷◌, map}
use native.Mathlib.Omega.{arith}
use Rattle.std.specs.Int.{from_bool}
use lib.Dec.{eqb}
use lib.ListN.{take, drop}
use borrow.Author.Tests.{eq-eqb, ne_eqb}
use Rattle.record.specs.Records.{records}
use Rattle.record.specs.Step.{IsRecord}
use Rattle.index.specs.Entries.{Kinds, kind_in, kinds_of, head_of, may_head, heads_in}
use Rattle.index.specs.Code.{scanned}

-- the kinds of the records from a place on
module _ (ks : Kinds) (f : List ℕ) where
  pub kinds_next : {at a e n j : ℕ} → IsRecord f at a e n → j ≡ kind_in ks (take (e - a) (drop a f)) → kinds_of ks (drop at f) ≡ j ∷ kinds_of ks (drop n f)
  kinds_next {n = n} x kind = ap (map (kind_in ks)) x.splits ∙ ap (λ (k : ℕ). k ∷ kinds_of ks (drop n f)) (sym kind)

  pub kinds_end : (at : ℕ) → records (drop at f) ≡ [] → kinds_of ks (drop at f) ≡ []
  kinds_end at e = ap (map (kind_in ks)) e

-- yes counts one, no counts none
pub counted : (b : Bool) → from_bool b ≡ cond b 1 0
counted true = refl
counted false = refl

pub at_most_one : (b : Bool) (r : ℕ) → r ≡ from_bool b → r ≤ 1
at_most_one true r e = omega arith
at_most_one false r e = omega arith

-- entries: those counted, with those among the records to come, are all
module _ (ks : Kinds) {js : List ℕ} (count total : ℕ) (inv : count + heads_in ks js ≡ total) where
  pub head_on : {j r : ℕ} {more : List ℕ} (b : Bool) → js ≡ j ∷ more → b ≡ may_head ks j → r ≡ from_bool b → count + r + heads_in ks more ≡ total
  unfolding heads_in
  head_on b e head added =
      let next = ap (heads_in ks) e in
      let one = added ∙ counted b ∙ ap (λ (b : Bool). cond b 1 0) head in
      omega (arith, inv, next, one)

  pub heads_done : js ≡ [] → count ≡ total
  unfolding heads_in
  heads_done e =
      let none = ap (heads_in ks) e in
      omega (arith, inv, none)

-- children of a record of kind k: those counted, with those among the records to come, are all
module _ (ks : Kinds) (k : ℕ) {js : List ℕ} (count total : ℕ) (inv : count + scanned ks k js ≡ total) where
  module _ {j h r : ℕ} {more : List ℕ} (e : js ≡ j ∷ more) (head : h ≡ head_of ks j) (added : r ≡ from_bool (eqb h k)) where
    one : r ≡ cond (eqb (head_of ks j) k) 1 0
    one = added ∙ counted (eqb h k) ∙ ap (λ (x : ℕ). cond (eqb x k) 1 0) head

    pub child_on : (j ≡ k → ⊥) → count + r + scanned ks k more ≡ total
    unfolding scanned
    child_on other =
        let next : scanned ks k js ≡ cond (eqb (head_of ks j) k) 1 0 + scanned ks k more = rw (e, ne_eqb j k other) in
        omega (arith, inv, next, one)

    pub child_last : j ≡ k → count + r ≡ total
    unfolding scanned
    child_last same =
        let last : scanned ks k js ≡ cond (eqb (head_of ks j) k) 1 0 + 0 = rw (e, eq-eqb j k same) in
        omega (arith, inv, last, one)

  pub children_done : js ≡ [] → count ≡ total
  unfolding scanned
  children_done e =
      let none = ap (scanned ks k) e in
      omega (arith, inv, none)
