-- Names written end to end to the front of some bytes, one after the other. Assumes nothing.
use Prim.Native.Nat.{ℕ, suc, ◌+◌, ◌*◌, ◌≤◌}
use mathlib.Core.Path.{◌≡◌, refl, sym, ap, ◌∙◌}
use mathlib.Core.List.{List, [], ◌∷◌, ◌++◌, append_assoc, append-nil}
use native.Mathlib.Omega.{arith}
use lib.ListN.{length, get_or, set, take, drop, length-append}
use lib.Seq.{sets, sets-eq, take_at, drop_at, drop-drop}
use Rattle.text.proofs.Lists.{three_of}
use Rattle.flow.specs.Step.{end_to_end, Lists}

-- three stores are the run of stores
pub put_three : (l name : List ℕ) (at : ℕ) → length name ≡ 3
    → set (set (set l at (get_or name 0 0)) (at + 1) (get_or name 1 0)) (at + 2) (get_or name 2 0) ≡ sets l at name
put_three l name at h =
    let x : at + 1 ≡ suc at = omega arith in
    let y : at + 2 ≡ suc (suc at) = omega arith in
    rw (x, y) (ap (sets l at) (sym (three_of 0 name h)))

-- one name more
end_to_end_lem : (ns : List (List ℕ)) (n : List ℕ) → end_to_end (ns ++ (n ∷ [])) ≡ end_to_end ns ++ n
end_to_end_lem [] n = append-nil n
end_to_end_lem (x ∷ ns) n = ap (λ (s : List ℕ). x ++ s) (end_to_end_lem ns n) ∙ sym (append_assoc x (end_to_end ns) n)

-- of the names that are to be written some are done, and these are left
pub record Written (whole left : List (List ℕ)) (count : ℕ) (old new : List ℕ) : Type 0 where
  pub done : List (List ℕ)
  pub parts : done ++ left ≡ whole
  pub full : length (end_to_end done) ≡ 3 * count
  pub lists : Lists done count old new

pub written_none : (whole : List (List ℕ)) (old : List ℕ) → Written whole whole 0 old old
written_none whole old = record { done = []; parts = refl; full = refl; lists = record { counted = refl; written = refl } }

pub written_all : (whole : List (List ℕ)) (count : ℕ) (old new : List ℕ) → Written whole [] count old new → Lists whole count old new
written_all whole count old new w =
    let e : w.done ≡ whole = sym (append-nil w.done) ∙ w.parts in
    rw e at w.lists

module _ (whole left : List (List ℕ)) (name : List ℕ) (count : ℕ) (old new : List ℕ) (w : Written whole (name ∷ left) count old new)
    (three : length name ≡ 3) (room : 3 * count + 3 ≤ length new) where
  before : take (3 * count) new ≡ end_to_end w.done
  before = ap (take (3 * count)) w.lists.written ∙ take_at (end_to_end w.done) (drop (3 * count) old) (3 * count) w.full

  behind : drop (3 * count + 3) new ≡ drop (3 * count + 3) old
  behind =
      sym (drop-drop 3 (3 * count) new)
      ∙ ap (λ (s : List ℕ). drop 3 (drop (3 * count) s)) w.lists.written
      ∙ ap (drop 3) (drop_at (end_to_end w.done) (drop (3 * count) old) (3 * count) w.full)
      ∙ drop-drop 3 (3 * count) old

  stored : sets new (3 * count) name ≡ end_to_end w.done ++ name ++ drop (3 * count + 3) old
  stored =
      sets-eq name new (3 * count) (omega arith)
      ∙ ap (λ (n : ℕ). take (3 * count) new ++ name ++ drop (3 * count + n) new) three
      ∙ (λ i. before i ++ name ++ behind i)

  pub written_more : Written whole left (count + 1) old (sets new (3 * count) name)
  written_more =
      let z : 3 * (count + 1) ≡ 3 * count + 3 = omega arith in
      record {
        done = w.done ++ (name ∷ []);
        parts = append_assoc w.done (name ∷ []) left ∙ w.parts;
        full =
            ap length (end_to_end_lem w.done name) ∙ length-append (end_to_end w.done) name
            ∙ (omega (arith, w.full, three));
        lists = record {
          counted = omega (arith, length-append w.done (name ∷ []), w.lists.counted);
          written = rw (z, end_to_end_lem w.done name) stored;
        };
      }
