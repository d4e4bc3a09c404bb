-- Bytes as they are shown, put one after the other. Assumes nothing.
use Prim.Native.Nat.{ℕ, ◌+◌, ◌-◌, ◌≤◌, ◌<◌}
use native.Mathlib.Nat.{sub-zero}
use native.Mathlib.Numerals.{add-one}
use native.Mathlib.Omega.{arith}
use mathlib.Core.Path.{◌≡◌, refl, sym, ap, ap₂, ◌∙◌}
use mathlib.Core.List.{List, [], ◌∷◌, ◌++◌, append_assoc, append-nil}
use borrow.Author.Tests.{le-leb, lt-leb}
use lib.ListN.{length, drop, get_or, length-append, length-drop}
use lib.Seq.{take_at, drop_at, drop-drop, drop-cons, drop-length, length-take-le, sets, sets-eq}
use Rattle.legible.specs.Shown.{shown_byte, shown, fitting, Shows}

-- bytes set behind those that were put
behind : (old done x : List ℕ) (n : ℕ) → length done ≡ n → n + length x ≤ length old →
    sets (done ++ drop n old) n x ≡ (done ++ x) ++ drop (n + length x) old
behind old done x n e h =
    let long : length (done ++ drop n old) ≡ length done + (length old - n) = simp (length-append, length-drop) refl in
    sets-eq x (done ++ drop n old) n (omega arith)
    ∙ ap₂ (λ (a b : List ℕ). a ++ x ++ b) (take_at done (drop n old) n e)
    (sym (drop-drop (length x) n (done ++ drop n old)) ∙ ap (drop (length x)) (drop_at done (drop n old) n e) ∙ drop-drop (length x) n old)

-- the bytes before i are shown, in n bytes, and the answer hangs on those from i on
pub record Showing (s old new : List ℕ) (i n : ℕ) : Type 0 where
  pub within : i ≤ length s
  pub room : n ≤ length old
  pub done : List ℕ
  pub long : length done ≡ n
  pub put : new ≡ done ++ drop n old
  pub rest : done ++ fitting (length old - n) (drop i s) ≡ fitting (length old) s

pub begun : (s old : List ℕ) → Showing s old old 0 0
begun s old = record { within = omega arith; room = omega arith; done = []; long = refl; put = refl; rest = rw sub-zero }

module _ (s old new : List ℕ) (i n : ℕ) (l : Showing s old new i n) where
  pub same : length new ≡ length old
  same = ap length l.put ∙ simp (length-append, length-drop) (omega (arith, l.long, l.room))

  -- what is put is all that fits
  over : fitting (length old - n) (drop i s) ≡ [] → Shows s old new n
  over e =
      let all : l.done ≡ fitting (length old) s = sym (append-nil l.done) ∙ ap (λ (r : List ℕ). l.done ++ r) (sym e) ∙ l.rest in
      let h : n ≤ length new = omega (arith, same, l.room) in
      record {
        front = (h, sym (length-take-le n new h));
        count = sym l.long ∙ ap length all;
        bytes = l.put ∙ ap (λ (d : List ℕ). d ++ drop n old) all;
      }

  pub ended : length s ≤ i → Shows s old new n
  unfolding fitting
  ended h = over (rw (drop_past h))
    where
      drop_past : length s ≤ i → drop i s ≡ []
      drop_past k = let e : i ≡ length s = omega (arith, l.within) in rw e (drop-length s)

  module _ (h : i < length s) where
    pub stopped : length old - n < length (shown_byte (get_or s i 0)) → Shows s old new n
    unfolding fitting
    stopped k = over (rw (drop-cons s i 0 h, lt-leb _ _ k))

    pub next : length (shown_byte (get_or s i 0)) ≤ length old - n →
        Showing s old (sets new n (shown_byte (get_or s i 0))) (i + 1) (n + length (shown_byte (get_or s i 0)))
    unfolding fitting
    next k =
        let b = shown_byte (get_or s i 0) in
        let left : length old - n - length b ≡ length old - (n + length b) = omega arith in
        record {
          within = omega arith;
          room = omega (arith, l.room);
          done = l.done ++ b;
          long = length-append l.done b ∙ ap (λ (m : ℕ). m + length b) l.long;
          put = ap (λ (w : List ℕ). sets w n b) l.put ∙ behind old l.done b n l.long (omega (arith, l.room));
          rest =
              append_assoc l.done b _
              ∙ ap₂ (λ (m j : ℕ). l.done ++ (b ++ fitting m (drop j s))) (sym left) (add-one i)
              ∙ rw (drop-cons s i 0 h, le-leb _ _ k) at l.rest;
        }

-- where there is room for all, all is put
pub all_fit : (s : List ℕ) (room : ℕ) → length (shown s) ≤ room → fitting room s ≡ shown s
unfolding shown fitting
all_fit [] room h = refl
all_fit (b ∷ s) room h =
    let e = length-append (shown_byte b) (shown s) in
    let k : length (shown_byte b) ≤ room = omega arith in
    rw (le-leb _ _ k) (ap (λ (r : List ℕ). shown_byte b ++ r) (all_fit s (room - length (shown_byte b)) (omega arith)))
