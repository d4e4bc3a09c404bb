-- The key that a sentence names is the one against which the record was held. Assumes nothing.
use Prim.Native.Nat.{ℕ}
use mathlib.Core.Path.{◌≡◌, refl, sym, ap, ◌∙◌}
use mathlib.Core.Bool.{Bool, true, false, cond, ◌||◌}
use mathlib.Core.Logic.{◌⊎◌, inl, inr}
use mathlib.Core.List.{List, [], ◌∷◌, foldl}
use lib.Dec.{eqb}
use Rattle.text.specs.Rules.{must}
use Rattle.layout.specs.Layout.{Layout, row}
use Rattle.fault.specs.Record.{kind_of, key_in, key_fault}
use Rattle.fault.specs.Fields.{Check, fine, fault}
use Rattle.judge.specs.Record.{key_with, key_before}
use Rattle.findings.specs.Lines.{with_one, last_of_kind}

-- no key out of its order where there is none before it
always : (none : Bool) (number : ℕ) → must (none || true) (fault 11 number) fine ≡ fine
always true number = refl
always false number = refl

module _ (sep : ℕ) (l : Layout) (k : ℕ) where
  -- there is no key, or it is that of a record
  abbrev KeyOf : List ℕ → List ℕ → Type 0
  KeyOf key r = (key ≡ []) ⊎ (key ≡ key_in sep l k r)

  one_more : (heads same : Bool) (key last r : List ℕ) → KeyOf key last → KeyOf (cond heads [] (cond same (key_in sep l k r) key)) (cond same r last)
  one_more true same key last r h = inl refl
  one_more false true key last r h = inr refl
  one_more false false key last r h = h

  kept : (key last : List ℕ) (rs : List (List ℕ)) → KeyOf key last → KeyOf (foldl (key_with sep l k) key rs) (foldl (with_one sep l k) last rs)
  unfolding key_with
  kept key last [] h = h
  kept key last (r ∷ rs) h =
      kept (key_with sep l k key r) (with_one sep l k last r) rs (one_more (eqb (kind_of sep l r) (row l k).head) (eqb (kind_of sep l r) k) key last r h)

  -- the key before, where there is one, is that of the last record of the kind
  pub key_of_last : (before : List (List ℕ)) → KeyOf (key_before sep l before k) (last_of_kind sep l k before)
  unfolding key_before last_of_kind
  key_of_last before = kept [] [] before (inl refl)

  no_fault : (old key : List ℕ) → old ≡ [] → key_fault l k old key ≡ fine
  unfolding key_fault
  no_fault old key e = ap (λ (x : List ℕ). key_fault l k x key) e ∙ always (eqb (row l k).key 0) (row l k).key

  refused_by : (old key r : List ℕ) (field : ℕ) → key_fault l k old key ≡ fault 11 field → KeyOf old r → old ≡ key_in sep l k r
  refused_by old key r field e (inl h) = let z : ◌≡◌ {A = Check} fine (fault 11 field) = sym (no_fault old key h) ∙ e in cc
  refused_by old key r field e (inr h) = h

  -- where a key is refused, the key before is that of the last record of its kind
  pub held_against : (before : List (List ℕ)) (key : List ℕ) (field : ℕ) → key_fault l k (key_before sep l before k) key ≡ fault 11 field
      → key_before sep l before k ≡ key_in sep l k (last_of_kind sep l k before)
  held_against before key field e = refused_by (key_before sep l before k) key (last_of_kind sep l k before) field e (key_of_last before)
