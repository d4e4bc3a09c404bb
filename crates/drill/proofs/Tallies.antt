-- What the judge's answer says of a file, and that a good file has so few bytes that a tally has room for what is counted. Assumes nothing.
use Prim.Native.Nat.{ℕ, ◌≤◌}
use mathlib.Core.Path.{◌≡◌, refl}
use mathlib.Core.Bool.{Bool, true, false}
use mathlib.Core.List.{List}
use native.Mathlib.Omega.{arith}
use borrow.Author.Tests.{leb-true}
use lib.Dec.{leb}
use lib.ListN.{length}
use Rattle.text.specs.Rules.{must}
use Rattle.place.specs.declared.Refusal.{Refusal}
use Rattle.drill.specs.Drill.{accepts}
use Rattle.flow.specs.Editions.{Asked, a_flow, no_flow}
use Rattle.judge.specs.File.{judged_by, with_place, judged_for, paper, judged, accepted, unplaced}
use Rattle.judge.specs.declared.Unplaced.{Unplaced}
use Rattle.std.specs.Prelude.{Result, Ok, Err}
use Rattle.std.specs.Result.{is_ok}

-- an answer that accepts
pub accepts_ok : (j : Result ℕ Refusal) → accepts (paper j) ≡ is_ok j
accepts_ok (Ok n) = refl
accepts_ok (Err r) = refl

-- an answer that passed the test for 2
limit_passed : (sep : ℕ) (f : List ℕ) (u : Bool) (later : Result ℕ Unplaced) (n : ℕ) →
    paper (with_place sep f (must u (Err (unplaced 2 0 0)) later)) ≡ accepted n → u ≡ true
limit_passed sep f true later n e = refl
limit_passed sep f false later n e = cc

-- a good file is within the limit
pub good_fits : (a : Asked) (f : List ℕ) (n : ℕ) → judged a f ≡ accepted n → length f ≤ 1048576
unfolding judged judged_for judged_by
good_fits (a_flow fl) f n e = leb-true _ _ (limit_passed _ f (leb (length f) 1048576) _ n e)
good_fits (no_flow r) f n e = let z : ◌≡◌ {A = ℕ} 0 1 = cc in absurd (omega arith)
