-- The key before a record is that of the last record of its kind since its set began. Assumes nothing.
use Prim.Native.Nat.{ℕ, ◌+◌, ◌-◌, ◌≤◌}
use mathlib.Core.Path.{◌≡◌, refl, sym, ap, ◌∙◌}
use mathlib.Core.Bool.{Bool, true, false, cond, not, ◌&&◌, ◌||◌, false≢true}
use mathlib.Core.List.{List, [], ◌∷◌, ◌++◌, foldl, foldl-append}
use native.Mathlib.Omega.{arith}
use lib.Dec.{eqb, leb}
use lib.ListN.{length, get_or}
use borrow.Author.Tests.{eqb-true, eqb-false, leb-true, not-true, eq-eqb, ne_eqb}
use Rattle.text.specs.Characters.{all}
use Rattle.text.specs.Order.{same_bytes}
use Rattle.std.specs.declared.cmp.Ordering.{Ordering}
use Rattle.std.specs.declared.cmp.Ordering.TheVariants.{Less, Equal, Greater}
use Rattle.text.proofs.Lists.{same_refl}
use Rattle.record.specs.Records.{field, bar}
use Rattle.field.specs.Types.{is_null}
use Rattle.field.specs.Judge.{may_be_empty}
use Rattle.field.specs.Keys.{key_order}
use Rattle.number.proofs.Digits.{and_left, and_right}
use Rattle.number.proofs.ByValue.{or_right}
use Rattle.layout.specs.Layout.{KindRow, Layout, row, kind_named}
use Rattle.layout.proofs.Names.{found_row}
use Rattle.grammar.specs.Table.{row_of}
use Rattle.flow.specs.Publication.{Flow, PublishedKind, names, null, row_for, layout_for, key_type_for}
use Rattle.flow.specs.Proper.{key_fits}
use Rattle.fault.specs.Fields.{fine as nothing_wrong}
use Rattle.fault.specs.Record.{kind_of, key_in, key_type, keys_in_order, ascending, key_fault}
use Rattle.judge.specs.Record.{key_with, key_before}
use Rattle.judge.specs.Right.{kind_in, NoneOfKind, published_as, published_for, Typed, KeysInOrder, Ascends}
use Rattle.judge.proofs.RightEach.{Each, each_first, each_rest}
use Rattle.judge.proofs.RightFields.{must_fine, fine_must, filled_right}
use Rattle.judge.proofs.RightKinds.{kind_row, known_row, one_name, one_kind}

-- where the last key of a kind comes from: from before these records, from nowhere since the set began anew, or from one of them
data Latest (kind head : List ℕ) (key : List ℕ → List ℕ) (rs : List (List ℕ)) (old now : List ℕ) : Type 0 where
  kept : NoneOfKind kind rs → NoneOfKind head rs → now ≡ old → Latest kind head key rs old now
  anew : now ≡ [] → Latest kind head key rs old now
  there : (a : List (List ℕ)) (q : List ℕ) (b : List (List ℕ)) → rs ≡ a ++ q ∷ b → kind_in q ≡ kind → NoneOfKind kind b → NoneOfKind head b
      → now ≡ key q → Latest kind head key rs old now

-- of a record of a known kind
module _ (fl : Flow) (r : List ℕ) (known : kind_of bar (layout_for fl) r ≡ 0 → ⊥) where
  abbrev l : Layout
  l = layout_for fl

  abbrev k : ℕ
  k = kind_of bar (layout_for fl) r

  abbrev p : PublishedKind
  p = published_for fl r

  row_is : row l k ≡ row_for fl.grammar (names fl.kinds) p
  row_is = known_row fl (kind_in r) known

  pub rules_are : (row l k).rules ≡ p.fields
  rules_are = ap (λ (x : KindRow). x.rules) row_is

  key_is : (row l k).key ≡ p.key
  key_is = ap (λ (x : KindRow). x.key) row_is

  repeats_is : (row l k).repeats ≡ p.repeats
  repeats_is = ap (λ (x : KindRow). x.repeats) row_is

  type_is : key_type l k ≡ key_type_for p
  type_is = ap (λ (x : KindRow). (get_or x.rules (x.key - 2) null).type) row_is

  head_is : (row l k).head ≡ row_of (names fl.kinds) p.within
  head_is = ap (λ (x : KindRow). x.head) row_is

  -- numbers of kinds and their names tell the same
  not_own : (x : List ℕ) → (kind_in x ≡ kind_in r → ⊥) → kind_of bar l x ≡ k → ⊥
  not_own x h e = h (one_kind fl (kind_in x) (kind_in r) e (λ z. known (sym e ∙ z)))

  not_head : (x : List ℕ) → (kind_of bar l x ≡ 0 → ⊥) → (kind_in x ≡ p.within → ⊥) → kind_of bar l x ≡ (row l k).head → ⊥
  not_head x z h e = h (one_name fl (kind_in x) p.within (e ∙ head_is) z)

  own_kind : (x : List ℕ) → kind_in x ≡ kind_in r → kind_of bar l x ≡ k
  own_kind x e = ap (kind_named l) e

  head_kind : (x : List ℕ) → kind_in x ≡ p.within → kind_of bar l x ≡ (row l k).head
  head_kind x e = kind_row fl (kind_in x) ∙ ap (row_of (names fl.kinds)) e ∙ sym head_is

  -- one record more
  with_head : (old x : List ℕ) → kind_of bar l x ≡ (row l k).head → key_with bar l k old x ≡ []
  unfolding key_with
  with_head old x e = rw (eq-eqb _ _ e)

  with_own : (old x : List ℕ) → (kind_of bar l x ≡ (row l k).head → ⊥) → kind_of bar l x ≡ k → key_with bar l k old x ≡ key_in bar l k x
  unfolding key_with
  with_own old x h e = rw (ne_eqb _ _ h, eq-eqb _ _ e)

  with_other : (old x : List ℕ) → (kind_of bar l x ≡ (row l k).head → ⊥) → (kind_of bar l x ≡ k → ⊥) → key_with bar l k old x ≡ old
  unfolding key_with
  with_other old x h e = rw (ne_eqb _ _ h, ne_eqb _ _ e)

  -- records that are neither of the kind nor of its head's leave the key
  abbrev Known : List (List ℕ) → List ℕ → Type 0
  Known before x = kind_of bar l x ≡ 0 → ⊥

  keeps : (before mid : List (List ℕ)) (old : List ℕ) → Each Known before mid → NoneOfKind (kind_in r) mid → NoneOfKind p.within mid
      → foldl (key_with bar l k) old mid ≡ old
  keeps before [] old h a b = refl
  keeps before (x ∷ mid) old h a b =
      let e = with_other old x (not_head x (each_first Known before x mid h) b.0) (not_own x a.0) in
      ap (λ (y : List ℕ). foldl (key_with bar l k) y mid) e ∙ keeps (before ++ x ∷ []) mid old (each_rest Known before x mid h) a.1 b.1

  module _ (apart : kind_in r ≡ p.within → ⊥) where
    -- the key before is that of the last record of the kind, unless one between heads the set
    before_is : (b : List (List ℕ)) (q : List ℕ) (mid : List (List ℕ)) → kind_in q ≡ kind_in r → Each Known [] mid
        → NoneOfKind (kind_in r) mid → NoneOfKind p.within mid → key_before bar l (b ++ q ∷ mid) k ≡ key_in bar l k q
    unfolding key_before
    before_is b q mid e h x y =
        let own = own_kind q e in
        foldl-append (key_with bar l k) [] b (q ∷ mid)
        ∙ keeps [] mid (key_with bar l k (foldl (key_with bar l k) [] b) q) h x y
        ∙ with_own (foldl (key_with bar l k) [] b) q (not_head q (λ z. known (sym own ∙ z)) (λ z. apart (sym e ∙ z))) own

  abbrev From : List (List ℕ) → List ℕ → List ℕ → Type 0
  From = Latest (kind_in r) p.within (key_in bar l k)

  latest_go : (x : List ℕ) (xs : List (List ℕ)) (old now : List ℕ) (b d : Bool) → eqb (kind_of bar l x) (row l k).head ≡ b → eqb (kind_of bar l x) k ≡ d
      → From xs (key_with bar l k old x) now → From (x ∷ xs) old now
  latest_go x xs old now b d h o (anew e) = anew e
  latest_go x xs old now b d h o (there a q c e s n m w) = there (x ∷ a) q c (ap (λ (t : List (List ℕ)). x ∷ t) e) s n m w
  latest_go x xs old now true d h o (kept n m e) = anew (e ∙ with_head old x (eqb-true _ _ h))
  latest_go x xs old now false true h o (kept n m e) =
      let own = eqb-true _ _ o in
      there [] x xs refl (one_kind fl (kind_in x) (kind_in r) own (λ z. known (sym own ∙ z))) n m (e ∙ with_own old x (eqb-false _ _ h) own)
  latest_go x xs old now false false h o (kept n m e) =
      kept ((λ z. eqb-false _ _ o (own_kind x z), n)) ((λ z. eqb-false _ _ h (head_kind x z), m)) (e ∙ with_other old x (eqb-false _ _ h) (eqb-false _ _ o))

  latest : (rs : List (List ℕ)) (old : List ℕ) → From rs old (foldl (key_with bar l k) old rs)
  latest [] old = kept tt tt refl
  latest (x ∷ xs) old =
      latest_go x xs old (foldl (key_with bar l k) (key_with bar l k old x) xs) (eqb (kind_of bar l x) (row l k).head) (eqb (kind_of bar l x) k) refl refl
      (latest xs (key_with bar l k old x))

-- the published kind of any name has such a key
fit_go : (b : Bool) (p q : PublishedKind) → key_fits p ≡ true → key_fits q ≡ true → key_fits (cond b p q) ≡ true
fit_go true p q h k = h
fit_go false p q h k = k

pub published_fits : (ps : List PublishedKind) (name : List ℕ) → all key_fits ps ≡ true → key_fits (published_as ps name) ≡ true
published_fits [] name e = refl
published_fits (p ∷ ps) name e =
    fit_go (same_bytes p.name name) p (published_as ps name) (and_left (key_fits p) (all key_fits ps) e) (published_fits ps name (and_right (key_fits p) (all key_fits ps) e))

-- what a kind that has a key must be
pub record Keyed (p : PublishedKind) : Type 0 where
  pub from : 2 ≤ p.key
  pub there : p.key - 1 ≤ length p.fields
  pub filled : may_be_empty (get_or p.fields (p.key - 2) null).mark ≡ false
  pub solid : is_null (key_type_for p) ≡ false
  pub apart : same_bytes p.name p.within ≡ false

pub keyed : (p : PublishedKind) → key_fits p ≡ true → (p.key ≡ 0 → ⊥) → Keyed p
keyed p e h =
    let a = leb 2 p.key in
    let b = leb (p.key - 1) (length p.fields) in
    let c = not (may_be_empty (get_or p.fields (p.key - 2) null).mark) in
    let d = not (is_null (key_type_for p)) in
    let f = not (same_bytes p.name p.within) in
    let w : (a && (b && (c && (d && f)))) ≡ true = or_right (eqb p.key 0) _ (ne_eqb _ _ h) e in
    let x = and_right a (b && (c && (d && f))) w in
    let y = and_right b (c && (d && f)) x in
    let z = and_right c (d && f) y in
    record {
      from = leb-true _ _ (and_left a _ w);
      there = leb-true _ _ (and_left b _ x);
      filled = not-true _ (and_left c _ y);
      solid = not-true _ (and_left d f z);
      apart = not-true _ (and_right d f z);
    }

key_filled : (p : PublishedKind) → Keyed p → (q : List ℕ) → Typed p.fields q → eqb (length (field bar p.key q)) 0 ≡ false
key_filled p k q typed =
    let z : p.key - 2 + 2 ≡ p.key = omega (arith, k.from) in
    (filled_right (get_or p.fields (p.key - 2) null) (field bar p.key q) k.solid k.filled
    (rw z at (typed.each_field (p.key - 2) (omega (arith, k.from, k.there))))).0

or_either : (a b : Bool) → b ≡ true → (a || b) ≡ true
or_either true b e = refl
or_either false b e = e

-- two keys that pass the test are in order, and two in order pass it
in_order_lem : (repeats : Bool) (o : Ordering) → keys_in_order repeats o ≡ true → KeysInOrder repeats o
in_order_lem true o e = λ above. false≢true (sym (ap (keys_in_order true) above) ∙ e)
in_order_lem false Less e = refl
in_order_lem false Equal e = absurd (false≢true e)
in_order_lem false Greater e = absurd (false≢true e)

order_passes : (repeats : Bool) (o : Ordering) → KeysInOrder repeats o → keys_in_order repeats o ≡ true
order_passes true Less h = refl
order_passes true Equal h = refl
order_passes true Greater h = absurd (h refl)
order_passes false o h = ap (keys_in_order false) h

module _ (fl : Flow) (r : List ℕ) (known : kind_of bar (layout_for fl) r ≡ 0 → ⊥) (fits : key_fits (published_for fl r) ≡ true) where
  -- a kind does not head its own set
  name_is : (published_for fl r).name ≡ kind_in r
  name_is = sym (ap (λ (x : KindRow). x.name) (row_is fl r known)) ∙ found_row (layout_for fl) (kind_in r) known

  apart_of : ((published_for fl r).key ≡ 0 → ⊥) → kind_in r ≡ (published_for fl r).within → ⊥
  apart_of h e =
      false≢true (sym (keyed (published_for fl r) fits h).apart
      ∙ ap (λ (x : List ℕ). same_bytes (published_for fl r).name x) (sym e ∙ sym name_is) ∙ same_refl (published_for fl r).name)

  -- a record whose key is not refused ascends from the last of its kind, which has a key
  pub ascends_from : (b : List (List ℕ)) (q : List ℕ) (mid : List (List ℕ)) → kind_in q ≡ kind_in r → Typed (published_for fl r).fields q
      → Each (Known fl r known) [] mid → NoneOfKind (kind_in r) mid → NoneOfKind (published_for fl r).within mid
      → key_fault (layout_for fl) (k fl r known) (key_before bar (layout_for fl) (b ++ q ∷ mid) (k fl r known)) (key_in bar (layout_for fl) (k fl r known) r) ≡ nothing_wrong
      → Ascends (published_for fl r) q r
  unfolding key_fault
  ascends_from b q mid e typed h x y f hk =
      let L = layout_for fl in
      let K = kind_of bar (layout_for fl) r in
      let P = published_for fl r in
      let old = key_before bar L (b ++ q ∷ mid) K in
      let last : old ≡ key_in bar L K q = before_is fl r known (apart_of hk) b q mid e h x y in
      let some : eqb (length old) 0 ≡ false =
      ap (λ (o : List ℕ). eqb (length o) 0) (last ∙ ap (λ (j : ℕ). field bar j q) (key_is fl r known)) ∙ key_filled P (keyed P fits hk) q typed in
      let t = (must_fine (eqb (row L K).key 0 || ascending (row L K).repeats (key_type L K) old (key_in bar L K r)) 11 (row L K).key nothing_wrong f).0 in
      let u = or_right (eqb (row L K).key 0) _ (ne_eqb _ _ (λ z. hk (sym (key_is fl r known) ∙ z))) t in
      let w = or_right (eqb (length old) 0) _ some u in
      in_order_lem P.repeats _
      ((λ i. keys_in_order (sym (repeats_is fl r known) i) (key_order (sym (type_is fl r known) i) (field bar (sym (key_is fl r known) i) q) (field bar (sym (key_is fl r known) i) r)))
      ∙ ap (λ (o : List ℕ). keys_in_order (row L K).repeats (key_order (key_type L K) o (key_in bar L K r))) (sym last) ∙ w)

  -- and the other way round
  module _ (before : List (List ℕ)) (up : (a : List (List ℕ)) (q : List ℕ) (mid : List (List ℕ)) → before ≡ a ++ q ∷ mid → kind_in q ≡ kind_in r
      → NoneOfKind (kind_in r) mid → NoneOfKind (published_for fl r).within mid → Ascends (published_for fl r) q r) where
    abbrev P : PublishedKind
    P = published_for fl r

    -- the key of this record stands right after this one
    abbrev After : List ℕ → Bool
    After old = ascending P.repeats (key_type_for P) old (field bar P.key r)

    after_go : (now : List ℕ) → From fl r known before [] now → (P.key ≡ 0 → ⊥) → After now ≡ true
    after_go now (kept n m e) h = ap After e
    after_go now (anew e) h = ap After e
    after_go now (there a q b e s n m w) h =
        or_either (eqb (length now) 0) _
        (ap (λ (o : List ℕ). keys_in_order P.repeats (key_order (key_type_for P) o (field bar P.key r))) (w ∙ ap (λ (j : ℕ). field bar j q) (key_is fl r known))
        ∙ order_passes P.repeats _ (up a q b e s n m h))

    fault_go : (b : Bool) → eqb P.key 0 ≡ b → (b || After (key_before bar (layout_for fl) before (k fl r known))) ≡ true
    unfolding key_before
    fault_go true e = refl
    fault_go false e = after_go (key_before bar (layout_for fl) before (k fl r known)) (latest fl r known before []) (eqb-false _ _ e)

    pub key_fine : key_fault (layout_for fl) (k fl r known) (key_before bar (layout_for fl) before (k fl r known)) (key_in bar (layout_for fl) (k fl r known) r) ≡ nothing_wrong
    unfolding key_fault
    key_fine =
        fine_must _ 11 (row (layout_for fl) (k fl r known)).key nothing_wrong
        ((λ i. eqb (key_is fl r known i) 0 || ascending (repeats_is fl r known i) (type_is fl r known i) (key_before bar (layout_for fl) before (k fl r known)) (field bar (key_is fl r known i) r))
        ∙ fault_go (eqb P.key 0) refl)
        refl
