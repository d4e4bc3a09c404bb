-- Reading a file from entry to entry gives the entries of its index, each in its turn. Assumes nothing.
use Prim.Native.Nat.{ℕ, zero, suc, ◌+◌, ◌-◌, ◌≤◌, ◌<◌}
use mathlib.Core.Path.{◌≡◌, refl, sym, ap, ◌∙◌, subst}
use mathlib.Core.Bool.{Bool, true, false, cond, ◌||◌, true≢false}
use mathlib.Core.List.{List, [], ◌∷◌, ◌++◌, map, map-append}
use native.Mathlib.Omega.{arith}
use lib.Dec.{eqb, leb}
use lib.ListN.{length, get_or, take, drop, set, replicate, length-append, length-map, length-set, length-take, length-replicate}
use lib.Seq.{append_snoc, take-append_seam, take-append-le, take-length, drop-cons, drop-drop, get_or-set_same, get_or-set_other}
use borrow.Author.Tests.{eq-eqb, ne_eqb, eqb-true, eqb-false, le-leb, leb-true, leb-false}
use Rattle.text.proofs.Places.{place_most}
use Rattle.record.specs.Records.{records, field, run, extent, bar}
use Rattle.record.proofs.Runs.{records_first, run_le}
use Rattle.record.proofs.Search.{extent_snoc}
use Rattle.place.specs.Places.{record_at, place_at}
use Rattle.place.proofs.Points.{in_record, no_field}
use Rattle.index.specs.declared.Entry.{Entry}
use Rattle.index.specs.declared.Filling.{Filling}
use Rattle.index.specs.Entries.{Kinds, kind_in, kinds_of, head_of, some_is, may_head, heads_in, last_of, parent_of, children_from, children, parent_entry, entry, entry_after, entries_from, entries_of}
use Rattle.index.specs.Code.{entry_at, blank, heads_of, scanned, parent_in, entered, read_on, advanced, starting, after}
use Rattle.index.proofs.Tables.{head_listed}
use Rattle.index.proofs.Parents.{no_entry, an_entry}
use Rattle.index.proofs.Children.{last_le, last_is, last_same, last_other, parent_found, children_scanned}

-- a file cut behind some of its records leaves the others
cut_first : (r : List ℕ) (rs : List (List ℕ)) (f : List ℕ) → r ∷ rs ≡ records f → records (drop (length r + 1) f) ≡ rs
unfolding records
cut_first r rs [] e =
    let z : suc (length rs) ≡ 0 = ap length e in
    absurd (omega (arith, z))
cut_first r rs (b ∷ s) e =
    let f = b ∷ s in
    let k = run 0x0A f in
    let both : r ∷ rs ≡ take k f ∷ records (drop (suc k) f) = e ∙ records_first f (omega arith) in
    let front : r ≡ take k f = cc both in
    let back : rs ≡ records (drop (suc k) f) = cc both in
    let long : length r + 1 ≡ suc k = omega (arith, ap length front, length-take k f, run_le 0x0A f) in
    ap (λ (n : ℕ). records (drop n f)) long ∙ sym back

pub cut_at : (before rest : List (List ℕ)) (f : List ℕ) → before ++ rest ≡ records f → records (drop (extent before) f) ≡ rest
unfolding extent
cut_at [] rest f e = sym e
cut_at (r ∷ before) rest f e =
    ap records (sym (drop-drop (extent before) (length r + 1) f))
    ∙ cut_at before rest (drop (length r + 1) f) (sym (cut_first r (before ++ rest) f e))

-- yes counts one
abbrev one : Bool → ℕ
one b = cond b 1 0

module _ (ks : Kinds) where
  abbrev kinds : List (List ℕ) → List ℕ
  kinds rs = map (kind_in ks) rs

  -- heads among some records and one more
  heads_snoc : (js : List ℕ) (k : ℕ) → heads_in ks (js ++ k ∷ []) ≡ heads_in ks js + cond (may_head ks k) 1 0
  unfolding heads_in
  heads_snoc [] k = omega arith
  heads_snoc (j ∷ js) k = omega (arith, heads_snoc js k)

  -- a record that may have children is counted
  heads_some : (js : List ℕ) (q : ℕ) → q < length js → may_head ks (get_or js q 0) ≡ true → 1 ≤ heads_in ks (take (suc q) js)
  unfolding heads_in
  heads_some [] q h e = absurd (omega (arith, h))
  heads_some (j ∷ js) zero h e = rw e (omega arith)
  heads_some (j ∷ js) (suc q) h e = omega (arith, heads_some js q (omega (arith, h)) e)

  some_is_lem : (h k : ℕ) (hs : List ℕ) → get_or hs k 0 ≡ h → 1 ≤ h → some_is h hs ≡ true
  unfolding some_is
  some_is_lem h k [] e real = absurd (omega (arith, e, real))
  some_is_lem h zero (x ∷ hs) e real = rw (eq-eqb x h e)
  some_is_lem h (suc k) (x ∷ hs) e real = ap (λ (b : Bool). eqb x h || b) (some_is_lem h k hs e real) ∙ or_true (eqb x h)
    where
      or_true : (b : Bool) → b || true ≡ true
      or_true true = refl
      or_true false = refl

  -- the kind within which some kind stands may have children
  pub head_may : (k : ℕ) → 1 ≤ head_of ks k → may_head ks (head_of ks k) ≡ true
  unfolding may_head
  head_may k real = rw (le-leb 1 (head_of ks k) real, some_is_lem (head_of ks k) k ks.heads refl real)

  real_head : (k : ℕ) (b : Bool) → leb 1 k ≡ b → may_head ks k ≡ true → 1 ≤ k
  unfolding may_head
  real_head k true e may = leb-true 1 k e
  real_head k false e may = absurd (true≢false (sym may ∙ rw e))

  -- the entry of the last record of kind h; 0 where there is none
  last_entry : List ℕ → ℕ → ℕ
  last_entry js h = cond (eqb (last_of h js) 0) 0 (heads_in ks (take (last_of h js) js))

  last_entry_other : (js : List ℕ) (k h : ℕ) → (k ≡ h → ⊥) → last_entry (js ++ k ∷ []) h ≡ last_entry js h
  unfolding last_entry
  last_entry_other js k h d =
      ap (λ (p : ℕ). cond (eqb p 0) 0 (heads_in ks (take p (js ++ k ∷ [])))) (last_other h js k d)
      ∙ ap (λ (l : List ℕ). cond (eqb (last_of h js) 0) 0 (heads_in ks l)) (take-append-le (last_of h js) js (k ∷ []) (last_le h js))

  last_entry_same : (js : List ℕ) (k : ℕ) → may_head ks k ≡ true → last_entry (js ++ k ∷ []) k ≡ heads_in ks js + 1
  unfolding last_entry
  last_entry_same js k may =
      let p = last_same k js k refl in
      let long : length js + 1 ≡ length (js ++ k ∷ []) = sym (length-append js (k ∷ [])) in
      ap (λ (n : ℕ). cond (eqb n 0) 0 (heads_in ks (take n (js ++ k ∷ [])))) (p ∙ long)
      ∙ rw (ne_eqb (length (js ++ k ∷ [])) 0 (λ z. omega (arith, z, long)), take-length (js ++ k ∷ []), heads_snoc js k, may)

  -- the parent entry by whether there is a parent
  no_parent : (js : List ℕ) (k : ℕ) → parent_of ks js k ≡ 0 → parent_entry ks js k ≡ heads_in ks js + 1
  unfolding parent_entry
  no_parent js k e = rw (eq-eqb (parent_of ks js k) 0 e)

  a_parent : (js : List ℕ) (k p : ℕ) → parent_of ks js k ≡ p → (p ≡ 0 → ⊥) → parent_entry ks js k ≡ heads_in ks (take p js)
  unfolding parent_entry
  a_parent js k p e some = rw (e, ne_eqb p 0 some)

  last_entry_none : (js : List ℕ) (h : ℕ) → last_of h js ≡ 0 → last_entry js h ≡ 0
  unfolding last_entry
  last_entry_none js h e = rw (eq-eqb (last_of h js) 0 e)

  last_entry_some : (js : List ℕ) (h : ℕ) → (last_of h js ≡ 0 → ⊥) → last_entry js h ≡ heads_in ks (take (last_of h js) js)
  unfolding last_entry
  last_entry_some js h e = rw (ne_eqb (last_of h js) 0 e)

  -- the parent entry by the last entries is the one by the file
  module _ (js : List ℕ) (k own : ℕ) (last : List ℕ) (is : own ≡ heads_in ks js + 1) (none : get_or last 0 0 ≡ 0)
      (lasts : (h : ℕ) → may_head ks h ≡ true → get_or last h 0 ≡ last_entry js h) where
    abbrev head : ℕ
    head = head_of ks k

    own_parent : get_or last head 0 ≡ 0 → parent_of ks js k ≡ 0 → parent_in last head own ≡ parent_entry ks js k
    own_parent e p = sym (no_entry last head own e) ∙ is ∙ sym (no_parent js k p)

    by_last : 1 ≤ head → (b : Bool) → eqb (last_of head js) 0 ≡ b → parent_in last head own ≡ parent_entry ks js k
    by_last real true e =
        let z = eqb-true (last_of head js) 0 e in
        own_parent (lasts head (head_may k real) ∙ last_entry_none js head z) (parent_found ks js k real ∙ z)
    by_last real false e =
        let some = eqb-false (last_of head js) 0 e in
        let p = last_of head js in
        let from_one : p ≡ suc (p - 1) = omega (arith, positive p some) in
        let kind = last_is head js (p - 1) from_one in
        let may = ap (may_head ks) kind ∙ head_may k real in
        let counted = heads_some js (p - 1) (omega (arith, last_le head js, from_one)) may in
        let entry_is = lasts head (head_may k real) ∙ last_entry_some js head some in
        let same = ap (λ (n : ℕ). heads_in ks (take n js)) from_one in
        sym (an_entry last head own (λ z. omega (arith, z, entry_is, counted, same)))
        ∙ entry_is
        ∙ sym (a_parent js k p (parent_found ks js k real) some)
      where
        positive : (n : ℕ) → (n ≡ 0 → ⊥) → 1 ≤ n
        positive zero d = absurd (d refl)
        positive (suc n) d = omega arith

    by_head : (b : Bool) → leb 1 head ≡ b → parent_in last head own ≡ parent_entry ks js k
    unfolding parent_of
    by_head true e = by_last (leb-true 1 head e) (eqb (last_of head js) 0) refl
    by_head false e =
        let z : head ≡ 0 = omega (arith, leb-false 1 head e) in
        own_parent (ap (λ (h : ℕ). get_or last h 0) z ∙ none) (rw e)

    parent_right : parent_in last head own ≡ parent_entry ks js k
    parent_right = by_head (leb 1 head) refl

  -- so many records of the file have been passed: they are b, and the last entries are theirs
  record Past (f : List ℕ) (s : Filling) (n at : ℕ) (b rest : List (List ℕ)) : Type 0 where
    whole : b ++ rest ≡ records f
    number : n ≡ length b
    place : at ≡ extent b
    count : s.entries ≡ heads_in ks (kinds b)
    heads : s.heads ≡ heads_of ks
    long : length s.last ≡ 33
    none : get_or s.last 0 0 ≡ 0
    lasts : (h : ℕ) → may_head ks h ≡ true → get_or s.last h 0 ≡ last_entry (kinds b) h

  module _ (f : List ℕ) (few : length ks.names ≤ 32) where
    kind_le : (r : List ℕ) → kind_in ks r ≤ 32
    kind_le r = omega (arith, place_most (field bar 1 r) ks.names, few)

    module _ (s : Filling) (n at : ℕ) (b : List (List ℕ)) (r : List ℕ) (rest : List (List ℕ)) (x : Past f s n at b (r ∷ rest)) where
      abbrev k : ℕ
      k = kind_in ks r

      snoc : kinds (b ++ r ∷ []) ≡ kinds b ++ k ∷ []
      snoc = map-append (kind_in ks) b (r ∷ [])

      is_head : get_or s.heads k false ≡ may_head ks k
      is_head = head_listed ks s.heads k x.heads (kind_le r)

      -- a record that may have no children is passed over
      passed : may_head ks k ≡ false → Past f s (n + 1) (at + length r + 1) (b ++ r ∷ []) rest
      passed never =
          record {
            whole = append_snoc b r rest ∙ x.whole;
            number = omega (arith, x.number, length-append b (r ∷ []));
            place = omega (arith, x.place, extent_snoc b r);
            count = omega (arith, x.count, ap (heads_in ks) snoc, heads_snoc (kinds b) k, ap one never);
            heads = x.heads;
            long = x.long;
            none = x.none;
            lasts = λ h may. x.lasts h may ∙ sym (last_entry_other (kinds b) k h (λ e. true≢false (sym may ∙ ap (may_head ks) (sym e) ∙ never))) ∙ ap (λ (l : List ℕ). last_entry l h) (sym snoc);
          }

      module _ (may : may_head ks k ≡ true) where
        real : 1 ≤ k
        real = real_head k (leb 1 k) refl may

        abbrev own : ℕ
        own = s.entries + 1

        own_is : own ≡ heads_in ks (kinds b) + 1
        own_is = omega (arith, x.count)

        abbrev next : Filling
        next = entered ks s (n + 1) at (length r) k (scanned ks k (kinds rest))

        last_now : (h : ℕ) (t : Bool) → eqb k h ≡ t → may_head ks h ≡ true → get_or (set s.last k own) h 0 ≡ last_entry (kinds b ++ k ∷ []) h
        last_now h true e head =
            let same = eqb-true k h e in
            ap (λ (j : ℕ). get_or (set s.last k own) j 0) (sym same)
            ∙ get_or-set_same s.last k own 0 (omega (arith, x.long, kind_le r))
            ∙ own_is
            ∙ sym (last_entry_same (kinds b) k may)
            ∙ ap (last_entry (kinds b ++ k ∷ [])) same
        last_now h false e head =
            let other = eqb-false k h e in
            get_or-set_other s.last k h own 0 (λ q. other (sym q))
            ∙ x.lasts h head
            ∙ sym (last_entry_other (kinds b) k h other)

        -- a record that may have children is entered
        put_in : Past f next (n + 1) (at + length r + 1) (b ++ r ∷ []) rest
        put_in =
            record {
              whole = append_snoc b r rest ∙ x.whole;
              number = omega (arith, x.number, length-append b (r ∷ []));
              place = omega (arith, x.place, extent_snoc b r);
              count = omega (arith, x.count, ap (heads_in ks) snoc, heads_snoc (kinds b) k, ap one may);
              heads = x.heads;
              long = length-set s.last k own ∙ x.long;
              none = get_or-set_other s.last k 0 own 0 (λ q. omega (arith, q, real)) ∙ x.none;
              lasts = λ h head. last_now h (eqb k h) refl head ∙ ap (λ (l : List ℕ). last_entry l h) (sym snoc);
            }

        number_is : n + 1 ≡ length (kinds b) + 1
        number_is = omega (arith, x.number, length-map b (kind_in ks))

        place_is : at ≡ place_at bar f (length (kinds b) + 1) 0
        place_is =
            let long = length-map b (kind_in ks) in
            let all = ap length x.whole in
            let sum = length-append b (r ∷ rest) in
            let here = in_record bar f (length (kinds b) + 1) 0 (omega arith) (omega (arith, all, sum, long)) in
            let off = no_field bar (record_at f (length (kinds b) + 1)) 0 (λ z. absurd (omega (arith, z))) in
            let passed-by : length (kinds b) + 1 - 1 ≡ length b = omega (arith, long) in
            let front : take (length (kinds b) + 1 - 1) (records f) ≡ b = (λ i. take (passed-by i) (sym x.whole i)) ∙ take-append_seam b (r ∷ rest) in
            omega (arith, x.place, here, off, ap extent front)

        children_are : scanned ks k (kinds rest) ≡ children ks f (length (kinds b) + 1)
        children_are =
            let all : kinds_of ks f ≡ kinds b ++ k ∷ kinds rest = ap kinds (sym x.whole) ∙ map-append (kind_in ks) b (r ∷ rest) in
            sym (ap (children_from ks (length (kinds b) + 1) []) all ∙ children_scanned ks (kinds b) (kinds rest) k real)

        entry_is : next.entry ≡ entry_after ks f (kinds b) k
        entry_is =
            let parent = parent_right (kinds b) k own s.last own_is x.none x.lasts in
            λ i. entry (number_is i) (place_is i) (parent i) (children_are i)

    -- these entries are still to come
    record Coming (s : Filling) (es : List Entry) : Type 0 where
      b : List (List ℕ)
      rest : List (List ℕ)
      past : Past f s s.records s.at b rest
      come : entries_from ks f (kinds b) (kinds rest) ≡ es

    -- the next of them is the entry read
    record Came (s : Filling) (e : Entry) (es : List Entry) : Type 0 where
      coming : Coming s es
      is : s.entry ≡ e

    module _ (s : Filling) (e : Entry) (es : List Entry) where
      came_by : (n at : ℕ) (b : List (List ℕ)) (r : List ℕ) (rest : List (List ℕ)) (x : Past f s n at b (r ∷ rest)) (t : Bool) → may_head ks (kind_in ks r) ≡ t
          → entries_from ks f (kinds b) (kinds (r ∷ rest)) ≡ e ∷ es
          → (Past f s (n + 1) (at + length r + 1) (b ++ r ∷ []) rest → entries_from ks f (kinds (b ++ r ∷ [])) (kinds rest) ≡ e ∷ es
          → Came (read_on ks s (n + 1) (at + length r + 1) rest) e es)
          → Came (read_on ks s n at (r ∷ rest)) e es
      unfolding entries_from read_on
      came_by n at b r rest x true may list later =
          let read : read_on ks s n at (r ∷ rest) ≡ next s n at b r rest x may = rw (is_head s n at b r rest x ∙ may) in
          let k = kind_in ks r in
          let both : entry_after ks f (kinds b) k ∷ entries_from ks f (kinds b ++ k ∷ []) (kinds rest) ≡ e ∷ es = sym (rw may) ∙ list in
          let first : entry_after ks f (kinds b) k ≡ e = cc both in
          let others : entries_from ks f (kinds b ++ k ∷ []) (kinds rest) ≡ es = cc both in
          subst (λ (z : Filling). Came z e es) (sym read)
          (record {
            coming =
                record {
                  b = b ++ r ∷ [];
                  rest = rest;
                  past = put_in s n at b r rest x may;
                  come = ap (λ (l : List ℕ). entries_from ks f l (kinds rest)) (snoc s n at b r rest x) ∙ others;
                };
            is = entry_is s n at b r rest x may ∙ first;
          })
      came_by n at b r rest x false never list later =
          let read : read_on ks s n at (r ∷ rest) ≡ read_on ks s (n + 1) (at + length r + 1) rest = rw (is_head s n at b r rest x ∙ never) in
          let k = kind_in ks r in
          let others : entries_from ks f (kinds b ++ k ∷ []) (kinds rest) ≡ e ∷ es = sym (rw never) ∙ list in
          subst (λ (z : Filling). Came z e es) (sym read)
          (later (passed s n at b r rest x never) (ap (λ (l : List ℕ). entries_from ks f l (kinds rest)) (snoc s n at b r rest x) ∙ others))

      came : (rest : List (List ℕ)) (n at : ℕ) (b : List (List ℕ)) → Past f s n at b rest → entries_from ks f (kinds b) (kinds rest) ≡ e ∷ es → Came (read_on ks s n at rest) e es
      unfolding entries_from
      came [] n at b x list =
          let z : 0 ≡ suc (length es) = ap length list in
          absurd (omega (arith, z))
      came (r ∷ rest) n at b x list = came_by n at b r rest x (may_head ks (kind_in ks r)) refl list (came rest (n + 1) (at + length r + 1) (b ++ r ∷ []))

      advance_came : Coming s (e ∷ es) → Came (advanced ks f s) e es
      advance_came c =
          let x = c.past in
          let left : records (drop s.at f) ≡ c.rest = ap (λ (n : ℕ). records (drop n f)) x.place ∙ cut_at c.b c.rest f x.whole in
          subst (λ (rs : List (List ℕ)). Came (read_on ks s s.records s.at rs) e es) (sym left) (came c.rest s.records s.at c.b x c.come)

    zeros : (n h : ℕ) → ◌≡◌ {A = ℕ} (get_or (replicate n 0) h 0) 0
    zeros zero h = refl
    zeros (suc n) zero = refl
    zeros (suc n) (suc h) = zeros n h

    started : Coming (starting ks) (entries_of ks f)
    unfolding heads_in last_of extent
    started =
        record {
          b = [];
          rest = records f;
          past =
              record {
                whole = refl;
                number = refl;
                place = refl;
                count = refl;
                heads = refl;
                long = length-replicate {A = ℕ} 33 0;
                none = zeros 33 0;
                lasts = λ h may. zeros 33 h ∙ sym (last_entry_none [] h refl);
              };
          come = refl;
        }

    next_came : (i : ℕ) → i < length (entries_of ks f) → Coming (after ks f i) (drop i (entries_of ks f))
        → Came (advanced ks f (after ks f i)) (entry_at (entries_of ks f) i) (drop (suc i) (entries_of ks f))
    next_came i h c =
        advance_came (after ks f i) (entry_at (entries_of ks f) i) (drop (suc i) (entries_of ks f))
        (subst (Coming (after ks f i)) (drop-cons (entries_of ks f) i blank h) c)

    after_coming : (i : ℕ) → i ≤ length (entries_of ks f) → Coming (after ks f i) (drop i (entries_of ks f))
    unfolding after
    after_coming zero h = started
    after_coming (suc i) h = (next_came i h (after_coming i (omega (arith, h)))).coming

    entry_came : (i : ℕ) → i < length (entries_of ks f) → (after ks f (suc i)).entry ≡ entry_at (entries_of ks f) i
    unfolding after
    entry_came i h = (next_came i h (after_coming i (omega (arith, h)))).is

-- the entry read after i others is entry i of the index
pub entry_read : (ks : Kinds) (f : List ℕ) → length ks.names ≤ 32 → (i : ℕ) → i < length (entries_of ks f) → (after ks f (suc i)).entry ≡ entry_at (entries_of ks f) i
entry_read ks f few i h = entry_came ks f few i h

-- no more entries have been read than records, and no more records than bytes
module _ (ks : Kinds) where
  abbrev InStep : Filling → Type 0
  InStep s = (s.entries ≤ s.records) × (s.records ≤ s.at)

  module _ (s : Filling) (x : InStep s) where
    on_by : (n at : ℕ) (r : List ℕ) (rest : List (List ℕ)) (t : Bool) → get_or s.heads (kind_in ks r) false ≡ t → s.entries ≤ n → n ≤ at
        → InStep (read_on ks s (n + 1) (at + length r + 1) rest) → InStep (read_on ks s n at (r ∷ rest))
    unfolding read_on
    on_by n at r rest true e h g later = rw e (omega (arith, h), omega (arith, g))
    on_by n at r rest false e h g later = rw e later

    on : (n at : ℕ) (rest : List (List ℕ)) → s.entries ≤ n → n ≤ at → InStep (read_on ks s n at rest)
    unfolding read_on
    on n at [] h g = x
    on n at (r ∷ rest) h g = on_by n at r rest (get_or s.heads (kind_in ks r) false) refl h g (on (n + 1) (at + length r + 1) rest (omega (arith, h)) (omega (arith, g)))

  pub in_step : (f : List ℕ) (i : ℕ) → InStep (after ks f i)
  unfolding after
  in_step f zero = (omega arith, omega arith)
  in_step f (suc i) =
      let x = in_step f i in
      let s = after ks f i in
      on s x s.records s.at (records (drop s.at f)) x.0 x.1
