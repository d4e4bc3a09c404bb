-- Kinds stepped through each flow's table (document 01, last lines of "Refusal numbers"): after each kind those that may follow, and
-- where a list stops. The kinds are written out from the paper. Assumes nothing.
use Prim.Native.String.{String}
use mathlib.Core.Bool.{true, false}
use mathlib.Core.List.{List, [], ◌∷◌, map}
use Rattle.text.specs.Characters.{bytes}
use Rattle.place.specs.Places.{whole}
use Rattle.flow.proofs.Stepped.{Stepped, refused, stopped, through}
use Rattle.answers.proofs.Cases.{Case, stepping}

-- the list is not complete, and these kinds may follow
abbrev then : List String → Stepped
then ks = through (map bytes ks) false

-- the list is complete, and nothing may follow
abbrev complete : Stepped
complete = through [] true

unfoldable pub steps : List Case
steps =
    -- 1 no such flow
    stepping "P0138002" "ZHD" (refused (whole 1))
    -- a kind foreign to the flow, or cut short, stops it; the first stop counts
    ∷ stepping "P0138001" "ZHDGSP" (stopped 2)
    ∷ stepping "P0138001" "ZHDSU" (stopped 2)
    ∷ stepping "P0138001" "Z" (stopped 1)
    ∷ stepping "P0138001" "ZHDXXXZ" (stopped 2)
    ∷ stepping "P0138001" "zhd" (stopped 1)
    -- P0012001
    ∷ stepping "P0012001" "ZHD" (then ("ZPD" ∷ []))
    ∷ stepping "P0012001" "ZHDZPD" (then ("HDR" ∷ []))
    ∷ stepping "P0012001" "ZHDZPDHDR" (then ("GSP" ∷ "GS2" ∷ "ZPT" ∷ []))
    ∷ stepping "P0012001" "ZHDZPDHDRGSP" (then ("GSP" ∷ "ZPT" ∷ []))
    ∷ stepping "P0012001" "ZHDZPDHDRGS2" (then ("GS2" ∷ "ZPT" ∷ []))
    ∷ stepping "P0012001" "ZHDZPDHDRZPT" complete
    ∷ stepping "P0012001" "ZHDZPDHDRGSPGS2" (stopped 5)
    ∷ stepping "P0012001" "ZHDZPDHDRGS2GSP" (stopped 5)
    ∷ stepping "P0012001" "ZHDZPDHDRZPTZPT" (stopped 5)
    ∷ stepping "P0012001" "ZHDHDR" (stopped 2)
    -- P0181002
    ∷ stepping "P0181002" "ZHD" (then ("GS7" ∷ []))
    ∷ stepping "P0181002" "ZHDGS7" (then ("GS7" ∷ "SUP" ∷ "ZPT" ∷ []))
    ∷ stepping "P0181002" "ZHDGS7SUP" (then ("BMU" ∷ []))
    ∷ stepping "P0181002" "ZHDGS7SUPBMU" (then ("GS7" ∷ "SUP" ∷ "BMU" ∷ "ZPT" ∷ []))
    ∷ stepping "P0181002" "ZHDGS7SUPBMUZPT" complete
    ∷ stepping "P0181002" "ZHDZPT" (stopped 2)
    ∷ stepping "P0181002" "ZHDGS7SUPZPT" (stopped 4)
    -- P0133001
    ∷ stepping "P0133001" "ZHD" (then ("SB1" ∷ "ZPT" ∷ []))
    ∷ stepping "P0133001" "ZHDSB1" (then ("SB1" ∷ "CM1" ∷ "ZPT" ∷ []))
    ∷ stepping "P0133001" "ZHDSB1CM1" (then ("SB1" ∷ "CM1" ∷ "ZPT" ∷ []))
    ∷ stepping "P0133001" "ZHDZPT" complete
    ∷ stepping "P0133001" "ZHDCM1" (stopped 2)
    -- P0134001
    ∷ stepping "P0134001" "ZHD" (then ("SB2" ∷ "ZPT" ∷ []))
    ∷ stepping "P0134001" "ZHDSB2" (then ("SB2" ∷ "CM2" ∷ "ZPT" ∷ []))
    ∷ stepping "P0134001" "ZHDSB2CM2" (then ("SB2" ∷ "CM2" ∷ "ZPT" ∷ []))
    ∷ stepping "P0134001" "ZHDZPT" complete
    ∷ stepping "P0134001" "ZHDSB1" (stopped 2)
    -- P0138001
    ∷ stepping "P0138001" "" (then ("ZHD" ∷ []))
    ∷ stepping "P0138001" "ZHD" (then ("SUB" ∷ []))
    ∷ stepping "P0138001" "ZHDSUB" (then ("TA2" ∷ []))
    ∷ stepping "P0138001" "ZHDSUBTA2" (then ("ZPT" ∷ []))
    ∷ stepping "P0138001" "ZHDSUBTA2ZPT" complete
    ∷ stepping "P0138001" "ZHDSUBSUB" (stopped 3)
    -- P0164001
    ∷ stepping "P0164001" "ZHD" (then ("SUB" ∷ "ZPT" ∷ []))
    ∷ stepping "P0164001" "ZHDSUB" (then ("SUB" ∷ "SP7" ∷ "ZPT" ∷ []))
    ∷ stepping "P0164001" "ZHDSUBSP7" (then ("SUB" ∷ "SP7" ∷ "ZPT" ∷ []))
    ∷ stepping "P0164001" "ZHDZPT" complete
    ∷ stepping "P0164001" "ZHDSP7" (stopped 2)
    ∷ []
