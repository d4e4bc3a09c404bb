-- Reading on from entry to entry, by the code's steps. Assumes nothing.
use Prim.Native.Nat.{ℕ, ◌+◌, ◌-◌, ◌<◌}
use mathlib.Core.Path.{◌≡◌, sym, ap, ◌∙◌}
use mathlib.Core.Bool.{true, false}
use mathlib.Core.List.{List, [], ◌∷◌}
use native.Mathlib.Omega.{arith}
use native.Mathlib.Decide.{dec_lt}
use lib.ListN.{length, get_or, take, drop}
use Rattle.record.specs.Records.{records}
use Rattle.record.specs.Step.{IsRecord}
use Rattle.record.proofs.Cursors.{records_end, part_length}
use Rattle.index.specs.declared.Filling.{Filling}
use Rattle.index.specs.Entries.{Kinds, kind_in, kinds_of}
use Rattle.index.specs.Code.{scanned, entered, read_on}

module _ (ks : Kinds) (f : List ℕ) (s : Filling) where
  -- reading on from a place, after n records
  abbrev pub from : ℕ → ℕ → Filling
  from n at = read_on ks s n at (records (drop at f))

  pub no_more : (n at : ℕ) → records (drop at f) ≡ [] → from n at ≡ s
  unfolding read_on
  no_more n at e = ap (read_on ks s n at) e

  module _ {at a e next : ℕ} (x : IsRecord f at a e next) (n k : ℕ) (kind : k ≡ kind_in ks (take (e - a) (drop a f))) where
    part : List ℕ
    part = take (e - a) (drop a f)

    rest : List (List ℕ)
    rest = records (drop next f)

    long : length (take (e - a) (drop a f)) ≡ e - a
    long = part_length f a e x.ordered x.within

    -- a record that may have children is entered
    pub enters : get_or s.heads k false ≡ true → from n at ≡ entered ks s (n + 1) a (e - a) k (scanned ks k (kinds_of ks (drop next f)))
    unfolding read_on part rest
    enters head =
        let here : get_or s.heads (kind_in ks part) false ≡ true = ap (λ (j : ℕ). get_or s.heads j false) (sym kind) ∙ head in
        let first : read_on ks s n at (part ∷ rest) ≡ entered ks s (n + 1) at (length part) (kind_in ks part) (scanned ks (kind_in ks part) (kinds_of ks (drop next f))) = rw here in
        ap (read_on ks s n at) x.splits
        ∙ first
        ∙ (λ i. entered ks s (n + 1) (sym x.starts i) (long i) (sym kind i) (scanned ks (sym kind i) (kinds_of ks (drop next f))))

    -- the next record stands behind its line feed; past the last there is none
    none_behind : (p : ℕ) → rest ≡ [] → read_on ks s (n + 1) p rest ≡ s
    unfolding read_on
    none_behind p e = ap (read_on ks s (n + 1) p) e

    onward : Dec (next < length f) → read_on ks s (n + 1) (at + length part + 1) rest ≡ from (n + 1) next
    unfolding part rest
    onward (yes h) =
        let e : at + length part + 1 ≡ next = omega (arith, x.past h, x.starts, x.ordered, long) in
        ap (λ (p : ℕ). read_on ks s (n + 1) p rest) e
    onward (no h) =
        let e : rest ≡ [] = records_end f next (omega (arith, h)) in
        none_behind (at + length part + 1) e ∙ sym (none_behind next e)

    -- any other is passed over
    pub passes : get_or s.heads k false ≡ false → from n at ≡ from (n + 1) next
    unfolding read_on part rest
    passes other =
        let here : get_or s.heads (kind_in ks part) false ≡ false = ap (λ (j : ℕ). get_or s.heads j false) (sym kind) ∙ other in
        let first : read_on ks s n at (part ∷ rest) ≡ read_on ks s (n + 1) (at + length part + 1) rest = rw here in
        ap (read_on ks s n at) x.splits ∙ first ∙ onward (dec_lt next (length f))
