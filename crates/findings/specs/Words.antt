-- What is found in a caller's words where they are refused. Assumes nothing.
use Rattle.std.specs.Prelude.{ℕ, cond, List, eqb, take, drop}

-- the part that is refused: by 22 the flow, in eight characters; by 21 the edition, behind them and the space; by 1 all of the words
abbrev pub refused_part : List ℕ → ℕ → List ℕ
refused_part words number = cond (eqb number 21) (drop 9 words) (cond (eqb number 22) (take 8 words) words)
