-- The unread bytes of a window, kept by a read behind them. Assumes nothing.
use Prim.Native.Nat.{ℕ, ◌+◌, ◌-◌, ◌≤◌}
use mathlib.Core.Path.{◌≡◌, sym, ◌∙◌, ap}
use mathlib.Core.List.{List}
use native.Mathlib.Omega.{arith}
use lib.ListN.{take, drop}
use Rattle.std.proofs.lemmas.List.{drop-take}

-- windows that are the same up to a place have the same unread bytes up to it
pub unread_same : (w w' : List ℕ) (from to : ℕ) → from ≤ to → take to w' ≡ take to w → take (to - from) (drop from w') ≡ take (to - from) (drop from w)
unread_same w w' from to h e =
    let all : from + (to - from) ≡ to = omega arith in
    sym (drop-take from (to - from) w')
    ∙ ap (drop from) (ap (λ (n : ℕ). take n w') all ∙ e ∙ ap (λ (n : ℕ). take n w) (sym all))
    ∙ drop-take from (to - from) w
