-- What the loop over a file keeps: the state is the summary of the records passed, and the slots say their last keys. Assumes nothing.
use Prim.Native.Nat.{ℕ, ◌+◌, ◌*◌, ◌≤◌, ◌<◌, ◌^◌, zero-le}
use mathlib.Core.Path.{◌≡◌, refl, sym, ap, ◌∙◌}
use mathlib.Core.List.{List, [], ◌∷◌, ◌++◌, foldl-append, map, map-append, append-nil}
use native.Mathlib.Omega.{arith}
use lib.Dec.{leb}
use borrow.Author.Tests.{lt-leb, le-leb}
use lib.ListN.{length, get_or, take, drop, length-append, replicate}
use lib.Seq.{append_snoc}
use Rattle.text.specs.Rules.{must}
use Rattle.record.specs.Records.{records, barred, bar}
use Rattle.checksum.specs.Checksum.{add_record, checksum}
use Rattle.record.proofs.Cutting.{records_le}
use Rattle.checksum.proofs.Sums.{checksum_snoc}
use Rattle.layout.specs.Layout.{Layout, row}
use Rattle.fault.specs.Fields.{Check, fine as nothing_wrong, fault as wrong}
use Rattle.fault.specs.Record.{kind_of, key_in, kind_fault}
use Rattle.judge.specs.Record.{last_kind, key_with, key_before, sum_of, fault}
use Rattle.judge.specs.File.{unplaced, at_record, checked_from, ends_in_feed, ended, judged_by}
use Rattle.fault.specs.Code.{key_in_slots, next_state, record_fault, Passed}
use Rattle.judge.specs.Code.{summary}
use Rattle.fault.specs.declared.Fault.{Fault}
use Rattle.fault.specs.declared.State.{State}
use Rattle.judge.specs.declared.Unplaced.{Unplaced}
use Rattle.std.specs.Prelude.{Result, Ok, Err}
use Rattle.judge.proofs.Slots.{put_in, put_size, stamps_next, keys_next, none_at}

-- a record is judged by the summary of the records before it and by their keys
pub fault_is : (sep : ℕ) (l : Layout) (before : List (List ℕ)) (r : List ℕ)
    → record_fault sep l (summary sep l before) (key_before sep l before) r ≡ fault sep l before r
unfolding fault record_fault summary
fault_is sep l before r = refl

-- with one record more
module _ (sep : ℕ) (l : Layout) where
  pub last_snoc : (rs : List (List ℕ)) (r : List ℕ) → last_kind sep l (rs ++ r ∷ []) ≡ kind_of sep l r
  unfolding last_kind
  last_snoc [] r = refl
  last_snoc (q ∷ []) r = refl
  last_snoc (q ∷ p ∷ rs) r = last_snoc (p ∷ rs) r

  pub sum_snoc : (rs : List (List ℕ)) (r : List ℕ) → sum_of sep (rs ++ r ∷ []) ≡ add_record (sum_of sep rs) (barred sep r)
  sum_snoc rs r = ap checksum (map-append (barred sep) rs (r ∷ [])) ∙ checksum_snoc (map (barred sep) rs) (barred sep r)

  pub key_snoc : (k : ℕ) (rs : List (List ℕ)) (r : List ℕ) → key_before sep l (rs ++ r ∷ []) k ≡ key_with sep l k (key_before sep l rs k) r
  unfolding key_before
  key_snoc k rs r = foldl-append (key_with sep l k) [] rs (r ∷ [])

  pub summary_snoc : (rs : List (List ℕ)) (r : List ℕ) → summary sep l (rs ++ r ∷ []) ≡ next_state sep l (summary sep l rs) r
  unfolding summary
  summary_snoc rs r =
      let p : length (rs ++ r ∷ []) ≡ length rs + 1 = length-append rs (r ∷ []) in
      λ i. record { count = p i; last = last_snoc rs r i; sum = sum_snoc rs r i }

-- at a place of the file: what is known of the records passed, and of those that are left
pub record Kept (sep : ℕ) (l : Layout) (f : List ℕ) (st : State) (slots : List ℕ) (at : ℕ) : Type 0 where
  pub within : at ≤ length f
  pub counted : st.count ≤ at
  pub size : length slots ≡ 99
  pub before : List (List ℕ)
  pub is : st ≡ summary sep l before
  pub stamped : (k : ℕ) → get_or slots (3 * k) 0 ≤ st.count
  pub keys : (k : ℕ) → key_in_slots l f slots k ≡ key_before sep l before k
  pub same : checked_from sep l before (records (drop at f)) ≡ checked_from sep l [] (records f)
  pub all : before ++ records (drop at f) ≡ records f

pub kept_none : (sep : ℕ) (l : Layout) (f : List ℕ) → Kept sep l f (record { count = 0; last = 0; sum = 0 }) (replicate 99 0) 0
unfolding summary last_kind checksum key_before
kept_none sep l f =
    record {
      within = zero-le;
      counted = zero-le;
      size = refl;
      before = [];
      is = refl;
      stamped = λ k. omega (arith, none_at 99 (3 * k));
      keys = λ k. rw (none_at 99 (3 * k), none_at 99 (3 * (row l k).head));
      same = refl;
      all = refl;
    }

module _ (sep : ℕ) (l : Layout) (f : List ℕ) (st : State) (slots : List ℕ) (at : ℕ) (p : Kept sep l f st slots at) where
  summed : (r : List ℕ) → record_fault sep l st (key_in_slots l f slots) r ≡ fault sep l p.before r
  unfolding record_fault
  summed r =
      (λ i. must (leb (length r) 512) (wrong 3 0)
      (kind_fault sep l (p.is i).count (p.is i).last (p.is i).sum (p.keys (kind_of sep l r) i) (kind_of sep l r) r))
      ∙ fault_is sep l p.before r

  count_is : st.count ≡ length p.before
  unfolding summary
  count_is = ap (λ (s : State). s.count) p.is

  -- no records are left: all passed, and the state is the summary of them all
  pub kept_done : records (drop at f) ≡ [] → (checked_from sep l [] (records f) ≡ Ok (length (records f))) × (st ≡ summary sep l (records f))
  unfolding checked_from
  kept_done e =
      let w : p.before ≡ records f = sym (append-nil p.before) ∙ ap (λ (x : List (List ℕ)). p.before ++ x) (sym e) ∙ p.all in (
        sym p.same ∙ ap (checked_from sep l p.before) e ∙ ap (λ (x : List (List ℕ)). Ok (length x)) w,
        p.is ∙ ap (summary sep l) w,
      )

  module _ (r : List ℕ) (rest : List (List ℕ)) (e : records (drop at f) ≡ r ∷ rest) where
    step_verdict : (c : Check) → record_fault sep l st (key_in_slots l f slots) r ≡ c
        → checked_from sep l [] (records f) ≡ at_record (st.count + 1) c (checked_from sep l (p.before ++ r ∷ []) rest)
    unfolding checked_from
    step_verdict c q =
        sym p.same ∙ ap (checked_from sep l p.before) e
        ∙ (λ i. at_record (sym count_is i + 1) ((sym (summed r) ∙ q) i) (checked_from sep l (p.before ++ r ∷ []) rest))

    -- a record stops: this is the first refusal
    pub kept_stop : (x : Fault) → record_fault sep l st (key_in_slots l f slots) r ≡ Err x
        → checked_from sep l [] (records f) ≡ Err (unplaced x.number (st.count + 1) x.field)
    kept_stop x q = step_verdict (Err x) q

  -- a record passes
  module _ (r : List ℕ) (at' : ℕ) (e : records (drop at f) ≡ r ∷ records (drop at' f)) (onward : at < at') (inside : at' ≤ length f)
      (next : State) (from to : ℕ) (o : Passed sep l st (key_in_slots l f slots) r next from to) (small : kind_of sep l r ≤ 32) where
    kind_is : next.last ≡ kind_of sep l r
    kind_is = ap (λ (s : State). s.last) o.state

    one_more_lem : next.count ≡ st.count + 1
    one_more_lem = ap (λ (s : State). s.count) o.state

    pub kind_small : next.last ≤ 32
    kind_small = omega (arith, kind_is)

    -- with its key's place in the file put into the slots
    pub kept_next : (a len : ℕ) → take len (drop a f) ≡ key_in sep l (kind_of sep l r) r
        → Kept sep l f next (put_in slots next.last next.count a len) at'
    kept_next a len place =
        let j = next.last in
        let there = place ∙ ap (λ (k : ℕ). key_in sep l k r) (sym kind_is) in
        record {
          within = inside;
          counted = omega (arith, one_more_lem, p.counted);
          size = put_size slots j next.count a len p.size kind_small;
          before = p.before ++ r ∷ [];
          is = o.state ∙ ap (λ (s : State). next_state sep l s r) p.is ∙ sym (summary_snoc sep l p.before r);
          stamped = stamps_next sep l f slots r j st.count next.count a len p.size kind_small kind_is one_more_lem p.stamped there;
          keys = λ k. keys_next sep l f slots r j st.count next.count a len p.size kind_small kind_is one_more_lem p.stamped there k
              ∙ ap (λ (x : List ℕ). key_with sep l k x r) (p.keys k) ∙ sym (key_snoc sep l k p.before r);
          same = sym (step_verdict r (records (drop at' f)) e nothing_wrong o.fine);
          all = append_snoc p.before r (records (drop at' f)) ∙ ap (λ (x : List (List ℕ)). p.before ++ x) (sym e) ∙ p.all;
        }

-- the whole file, by what its records come to
module _ (l : Layout) (f : List ℕ) where
  pub file_long : 1048576 < length f → Err (unplaced 2 0 0) ≡ judged_by l f
  unfolding judged_by
  file_long h = rw (lt-leb _ _ h)

  pub file_stopped : (r : Unplaced) → length f ≤ 1048576 → checked_from bar l [] (records f) ≡ Err r → Err r ≡ judged_by l f
  unfolding judged_by
  file_stopped r h e = rw (le-leb _ _ h, e)

  pub file_through : (st : State) (m : ℕ) (v : Result ℕ Unplaced) → length f ≤ 1048576 → checked_from bar l [] (records f) ≡ Ok m
      → st ≡ summary bar l (records f) → v ≡ ended l st.count st.last (ends_in_feed f) → v ≡ judged_by l f
  unfolding judged_by summary
  file_through st m v h e q w =
      w ∙ ap (λ (s : State). ended l s.count s.last (ends_in_feed f)) q ∙ rw (le-leb _ _ h, e)

  -- its records are counted within 64 bits
  pub count_fits : (st : State) → length f ≤ 1048576 → st ≡ summary bar l (records f) → st.count + 1 < 2 ^ 64
  unfolding summary
  count_fits st h q = omega (arith, ap (λ (s : State). s.count) q, records_le f)
