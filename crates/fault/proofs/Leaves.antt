-- Laws of the tests of one record, each in its turn. Assumes nothing.
use Prim.Native.Nat.{ℕ, ◌+◌, ◌≤◌}
use mathlib.Core.Path.{◌≡◌, sym, ap, ◌∙◌}
use mathlib.Core.List.{List}
use lib.ListN.{length}
use borrow.Author.Tests.{eq-eqb, le-leb}
use Rattle.std.specs.Prelude.{Result, Ok, Err}
use Rattle.record.specs.Records.{barred}
use Rattle.checksum.specs.Checksum.{add_record}
use Rattle.layout.specs.Layout.{Layout, row}
use Rattle.fault.specs.Fields.{Check, fine, fault, also}
use Rattle.fault.specs.Record.{kind_of, place_fault, shape_fault, kind_fault}
use Rattle.fault.specs.Code.{close_fault, ClosedRight, record_fault, OutcomeRight}
use Rattle.fault.specs.declared.Fault.{Fault}
use Rattle.fault.specs.declared.State.{State}
use Rattle.fault.specs.declared.Passed.{Passed as Next}

-- a fault is not nothing
pub no_fault : {n f : ℕ} → fault n f ≡ fine → ⊥
no_fault e = cc

-- two tests that find nothing
pub also_fine : {a b : Check} → a ≡ fine → b ≡ fine → also a b ≡ fine
also_fine p q = rw (p, q)

-- a kind in its place is a kind
pub placed_known : (l : Layout) (last k : ℕ) → place_fault l last k ≡ fine → k ≡ 0 → ⊥
unfolding place_fault
placed_known l last k e h = no_fault (rw (eq-eqb k 0 h) at e)

-- 3, 4 and 5, 6 to 10, and the rest
module _ (sep : ℕ) (l : Layout) (st : State) (old : ℕ → List ℕ) (r : List ℕ) (short : length r ≤ 512) {k : ℕ} (kind : k ≡ kind_of sep l r) where
  by_parts : record_fault sep l st old r ≡ also (place_fault l st.last k) (also (shape_fault sep (row l k).rules r) (close_fault sep l st (old k) k r))
  unfolding record_fault kind_fault close_fault
  by_parts = rw (le-leb _ _ short, sym kind)

  module _ (placed : place_fault l st.last k ≡ fine) where
    after_place : record_fault sep l st old r ≡ also (shape_fault sep (row l k).rules r) (close_fault sep l st (old k) k r)
    after_place = by_parts ∙ ap (λ (c : Check). also c (also (shape_fault sep (row l k).rules r) (close_fault sep l st (old k) k r))) placed

    pub stop_shape : (wrong : Fault) → shape_fault sep (row l k).rules r ≡ Err wrong → record_fault sep l st old r ≡ Err wrong
    stop_shape wrong e = after_place ∙ ap (λ (c : Check). also c (close_fault sep l st (old k) k r)) e

    module _ (shaped : shape_fault sep (row l k).rules r ≡ fine) where
      as_closed : record_fault sep l st old r ≡ close_fault sep l st (old k) k r
      as_closed = after_place ∙ ap (λ (c : Check). also c (close_fault sep l st (old k) k r)) shaped

      pub closed : (o : Result Next Fault) → ClosedRight sep l st (old k) k r o → OutcomeRight sep l st old r o
      closed (Err wrong) e = as_closed ∙ e
      closed (Ok p) e =
          record {
            fine = as_closed ∙ e.0;
            state = e.1 ∙ ap (λ (j : ℕ). record { count = st.count + 1; last = j; sum = add_record st.sum (barred sep r) }) kind;
            key = rw (sym kind) e.2;
          }
