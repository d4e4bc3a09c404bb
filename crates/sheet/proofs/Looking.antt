-- Laws of the loops that look through a sheet. Assumes nothing.
use Prim.Native.Nat.{ℕ, ◌+◌}
use mathlib.Core.Path.{◌≡◌, refl, ap}
use mathlib.Core.Bool.{Bool, true, false, ◌||◌}
use mathlib.Core.List.{List, [], ◌∷◌}
use native.Mathlib.Numerals.{add-one}
use native.Mathlib.Omega.{arith}
use lib.Dec.{eqb}
use lib.ListN.{length, drop}
use Rattle.std.specs.List.{list_any}
use Rattle.std.specs.Iterator.{Yields, Drains}
use Rattle.record.specs.Records.{records, holds, bar}
use Rattle.record.specs.Step.{RecordYielded}
use Rattle.record.specs.declared.Span.{Span}
use Rattle.record.specs.declared.RecordSpans.{RecordSpans}
use Rattle.sheet.specs.Sheets.{bar_line}
use Rattle.sheet.specs.Write.{lines_ended}

-- a byte that equals one of them is held by them
pub holds_any : (b : ℕ) (s : List ℕ) → list_any (λ y. eqb y b) s ≡ holds b s
unfolding holds
holds_any b [] = refl
holds_any b (a ∷ s) = ap (λ (x : Bool). eqb a b || x) (holds_any b s)

-- lines passed, and those that are left
module _ (passed : ℕ) (line : List ℕ) (lines left : List (List ℕ)) (splits : left ≡ line ∷ lines) where
  pub bar_here : holds bar line ≡ true → passed + 1 ≡ bar_line (passed + 1) left
  unfolding bar_line
  bar_here e = rw (splits, e)

  pub bar_next : holds bar line ≡ false → bar_line (passed + 1 + 1) lines ≡ bar_line (passed + 1) left
  unfolding bar_line
  bar_next e = rw (splits, e, add-one (passed + 1))

-- calls of next passed so many lines of those from a place on
passed_lines : (s t : RecordSpans) (xs : List Span) → Yields RecordYielded s xs t
    → length (records (drop s.at s.bytes.now)) ≡ length xs + length (records (drop t.at t.bytes.now))
passed_lines s t [] y =
    let same : length (records (drop s.at s.bytes.now)) ≡ length (records (drop t.at t.bytes.now)) = ap (λ (x : RecordSpans). length (records (drop x.at x.bytes.now))) y in
    omega (arith, same)
passed_lines s t (x ∷ xs) (j, (same, is), ys) =
    let rest : length (records (drop j.at s.bytes.now)) ≡ length xs + length (records (drop t.at t.bytes.now)) = rw same at (passed_lines j t xs ys) in
    omega (arith, ap length is.splits, rest)

pub lines_counted : (sheet : List ℕ) (s : RecordSpans) (n : ℕ) → s.bytes.now ≡ sheet → s.at ≡ 0
    → ((xs : List Span) × Drains RecordYielded s xs × (n ≡ length xs)) → n ≡ length (records sheet)
lines_counted sheet s n b z (xs, (u, (t, ys, (same, none))), e) =
    let all : length (records sheet) ≡ length xs + length (records (drop t.at t.bytes.now)) = rw (z, b) at (passed_lines s t xs ys) in
    omega (arith, all, ap length none, e)

pub bar_none : (i : ℕ) (left : List (List ℕ)) → left ≡ [] → 0 ≡ bar_line i left
unfolding bar_line
bar_none i left e = rw e

-- an empty sheet has no line
pub none_ended : (s : List ℕ) → length s ≡ 0 → true ≡ lines_ended s
none_ended [] e = refl
none_ended (b ∷ s) e = absurd (omega arith)
