-- Document 02's C-14: the last day of a month is taken, and the day after it is 9, by the calendar that everybody knows.
-- The texts are written out from the papers, and their footers are summed apart from the definitions. Assumes nothing.
use Prim.Native.Nat.{ℕ}
use Prim.Native.String.{String}
use mathlib.Core.List.{List, [], ◌∷◌, ◌++◌}
use Rattle.judge.specs.File.{accepted, refused}
use Rattle.answers.proofs.Cases.{lines, Case, judging, behind, bad}

abbrev zhd : String
zhd = "ZHD|P0138001|G|SVAA|Z|POOL|20240105120000"

-- a file of P0138 with this SUB and this footer
abbrev with : String → String → List ℕ
with sub zpt = lines (zhd ∷ sub ∷ "TA2|1.0250" ∷ zpt ∷ [])

unfoldable pub month_ends : List Case
month_ends =
    -- a February of 28 days in a hundredth year and in one that is no fourth, and of 29 in a four hundredth and in another fourth
    judging "P0138001" (with "SUB|B|||19000228|M" "ZPT|4|847010651") (accepted 4)
    ∷ judging "P0138001" (with "SUB|B|||20000229|M" "ZPT|4|829774682") (accepted 4)
    ∷ judging "P0138001" (with "SUB|B|||20230228|M" "ZPT|4|829774168") (accepted 4)
    ∷ judging "P0138001" (with "SUB|B|||20240229|M" "ZPT|4|829774174") (accepted 4)
    -- a month of 30 days
    ∷ judging "P0138001" (with "SUB|B|||20230430|M" "ZPT|4|829642832") (accepted 4)
    -- the days after these
    ∷ judging "P0138001" (with "SUB|B|||19000229|M" "ZPT|4|847010650") (refused 9 2 5 50)
    ∷ behind "P0138001" (zhd ∷ []) 2
    (bad "SUB|B|||20000230|M" 9 5 ∷ bad "SUB|B|||20230229|M" 9 5 ∷ bad "SUB|B|||20240230|M" 9 5 ∷ bad "SUB|B|||20230431|M" 9 5 ∷ [])
    -- the same in a datetime
    ++ judging "P0138001" (lines ("ZHD|P0138001|G|SVAA|Z|POOL|20240229120000" ∷ "SUB|B|||20231231|M" ∷ "TA2|1.0250" ∷ "ZPT|4|863458385" ∷ [])) (accepted 4)
    ∷ behind "P0138001" [] 1
    (bad "ZHD|P0138001|G|SVAA|Z|POOL|19000229120000" 9 7 ∷ bad "ZHD|P0138001|G|SVAA|Z|POOL|20230431120000" 9 7 ∷ [])
