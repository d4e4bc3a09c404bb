-- The parts of a state: the list of 33 kinds, and a state with a record entered. Assumes nothing.
use Prim.Native.Nat.{ℕ, ◌+◌, ◌-◌, ◌<◌, ◌≤◌}
use mathlib.Core.Path.{◌≡◌, sym, ap, ◌∙◌}
use mathlib.Core.Bool.{Bool, false}
use mathlib.Core.List.{List}
use native.Mathlib.Omega.{arith}
use lib.ListN.{length, get_or, set, replicate}
use Rattle.std.proofs.lemmas.List.{ext_get_or}
use Rattle.layout.specs.Numbers.{each}
use Rattle.layout.proofs.Each.{each_length, each_at}
use Rattle.index.specs.declared.Entry.{Entry}
use Rattle.index.specs.declared.Filling.{Filling}
use Rattle.index.specs.Entries.{Kinds, head_of, entry}
use Rattle.index.specs.Code.{parent_in, entered, heads_of, starting, blank}

-- a list with these values is the list of them
pub each_is : (g : ℕ → Bool) (bs : List Bool) (n : ℕ) → length bs ≡ n → ((k : ℕ) → k < n → get_or bs k false ≡ g k) → bs ≡ each g 0 n
each_is g bs n long at = ext_get_or false bs (each g 0 n) (long ∙ sym (each_length g 0 n)) (λ k h. at k (omega (arith, long)) ∙ sym (each_at g false n k (omega (arith, long))))

-- a state of these parts
abbrev of : ℕ → ℕ → ℕ → List Bool → List ℕ → Entry → Filling
of n at own heads last e = record { records = n; at = at; entries = own; heads = heads; last = last; entry = e }

pub started : (ks : Kinds) (heads : List Bool) → heads ≡ heads_of ks → of 0 0 0 heads (replicate 33 0) blank ≡ starting ks
started ks heads e = ap (λ (bs : List Bool). of 0 0 0 bs (replicate 33 0) blank) e

module _ (ks : Kinds) (s : Filling) (n k a e count : ℕ) (ordered : a ≤ e) where
  pub was_entered : (h parent : ℕ) → h ≡ head_of ks k → parent ≡ parent_in s.last h (s.entries + 1)
      → of n (e + 1) (s.entries + 1) s.heads (set s.last k (s.entries + 1)) (entry n a parent count) ≡ entered ks s n a (e - a) k count
  was_entered h parent head found =
      let past : e + 1 ≡ a + (e - a) + 1 = omega (arith, ordered) in
      let own = s.entries + 1 in
      let right : parent ≡ parent_in s.last (head_of ks k) own = found ∙ ap (λ (x : ℕ). parent_in s.last x own) head in
      λ i. of n (past i) own s.heads (set s.last k own) (entry n a (right i) count)
