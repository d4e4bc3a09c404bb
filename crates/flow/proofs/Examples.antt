-- Document 01's cases for the step, and some more, by computing; and what words ask for (document 02, C-16). Assumes nothing.
use Prim.Native.Nat.{ℕ}
use mathlib.Core.Path.{◌≡◌, refl}
use mathlib.Core.Bool.{true, false}
use mathlib.Core.List.{List, [], ◌∷◌, ◌++◌}
use lib.ListN.{drop}
use Rattle.text.specs.Characters.{bytes}
use Rattle.place.specs.Places.{whole}
use Rattle.layout.specs.Layout.{among}
use Rattle.grammar.specs.Sets.{Under, alone, joined, none}
use Rattle.grammar.specs.Right.{StoppedRight}
use Rattle.grammar.specs.Walk.{through}
use Rattle.flow.specs.Letters.{ZHD, ZPT, ZPD, HDR, GSP, GS2, GS7, SUP, BMU, P0012001, P0181002, P0133001, P0138001}
use Rattle.flow.specs.Flows.{flow_number, p0012, p0133}
use Rattle.flow.specs.Editions.{usual, asked}
use Rattle.flow.specs.ByTable.{walk_of, followers_from}
use Rattle.flow.specs.Step.{kinds_in, end_to_end, StepRight}
use Rattle.std.specs.Prelude.{Ok, Err}
use Rattle.flow.specs.declared.NoStep.TheVariants.{Refused, Stopped}
use Rattle.flow.proofs.Asking.{asked_proper}
use Rattle.flow.proofs.Demand3.{demand3_p0012}
use Rattle.flow.proofs.Stepped.{stepped, stepped_meets}

-- P0133: ZHD then ZPT alone is in the grammar
pub p0133_shortest : Under p0133.grammar (ZHD ∷ ZPT ∷ [])
p0133_shortest = joined alone (joined none alone)

pub p0133_walk : walk_of p0133 (ZHD ∷ ZPT ∷ []) ≡ through 4
unfolding among
p0133_walk = refl

pub p0133_step : (old : List ℕ) → StepRight (asked P0133001) (end_to_end (ZHD ∷ ZPT ∷ [])) (Ok (record { count = 0; complete = true })) old old
unfolding asked usual stepped flow_number kinds_in among followers_from
p0133_step old = stepped_meets (end_to_end (ZHD ∷ ZPT ∷ [])) old (asked P0133001) (asked_proper P0133001)

-- P0012: GSP followed by GS2 stops at the GS2
pub p0012_either : StoppedRight p0012.grammar (ZHD ∷ ZPD ∷ HDR ∷ GSP ∷ GS2 ∷ []) 4
unfolding among
p0012_either = (demand3_p0012.stops (ZHD ∷ ZPD ∷ HDR ∷ GSP ∷ GS2 ∷ []) 4).0 refl

pub p0012_step : (old : List ℕ) → StepRight (asked P0012001) (end_to_end (ZHD ∷ ZPD ∷ HDR ∷ GSP ∷ GS2 ∷ [])) (Err (Stopped 5)) old old
unfolding asked usual stepped flow_number kinds_in among
p0012_step old = stepped_meets (end_to_end (ZHD ∷ ZPD ∷ HDR ∷ GSP ∷ GS2 ∷ [])) old (asked P0012001) (asked_proper P0012001)

-- P0181 has one GS7 set at least
pub p0181_no_set : (old : List ℕ) → StepRight (asked P0181002) (end_to_end (ZHD ∷ ZPT ∷ [])) (Err (Stopped 2)) old old
unfolding asked usual stepped flow_number kinds_in among
p0181_no_set old = stepped_meets (end_to_end (ZHD ∷ ZPT ∷ [])) old (asked P0181002) (asked_proper P0181002)

-- after SUP only BMU may follow, and the list is not complete
pub p0181_after_sup : (old : List ℕ) → StepRight (asked P0181002) (end_to_end (ZHD ∷ GS7 ∷ SUP ∷ [])) (Ok (record { count = 1; complete = false })) old (BMU ++ drop 3 old)
unfolding asked usual stepped flow_number kinds_in among followers_from
p0181_after_sup old = stepped_meets (end_to_end (ZHD ∷ GS7 ∷ SUP ∷ [])) old (asked P0181002) (asked_proper P0181002)

pub p0181_no_bmu : (old : List ℕ) → StepRight (asked P0181002) (end_to_end (ZHD ∷ GS7 ∷ SUP ∷ ZPT ∷ [])) (Err (Stopped 4)) old old
unfolding asked usual stepped flow_number kinds_in among
p0181_no_bmu old = stepped_meets (end_to_end (ZHD ∷ GS7 ∷ SUP ∷ ZPT ∷ [])) old (asked P0181002) (asked_proper P0181002)

-- the empty list: ZHD may follow
pub empty_list : (old : List ℕ) → StepRight (asked P0138001) [] (Ok (record { count = 1; complete = false })) old (ZHD ++ drop 3 old)
unfolding asked usual stepped flow_number kinds_in among followers_from
empty_list old = stepped_meets [] old (asked P0138001) (asked_proper P0138001)

-- a kind of another flow stops the list, and so does one that is cut short
pub foreign_kind : (old : List ℕ) → StepRight (asked P0138001) (end_to_end (ZHD ∷ GSP ∷ [])) (Err (Stopped 2)) old old
unfolding asked usual stepped flow_number kinds_in among
foreign_kind old = stepped_meets (end_to_end (ZHD ∷ GSP ∷ [])) old (asked P0138001) (asked_proper P0138001)

pub cut_short : (old : List ℕ) → StepRight (asked P0138001) (end_to_end (ZHD ∷ (83 ∷ 85 ∷ []) ∷ [])) (Err (Stopped 2)) old old
unfolding asked usual stepped flow_number kinds_in among
cut_short old = stepped_meets (end_to_end (ZHD ∷ (83 ∷ 85 ∷ []) ∷ [])) old (asked P0138001) (asked_proper P0138001)

-- a name that is no flow's, and an edition that is none
pub no_such_flow : (old : List ℕ) → StepRight (asked (bytes "P0")) (end_to_end (ZHD ∷ [])) (Err (Refused (whole 1))) old old
unfolding asked usual stepped flow_number
no_such_flow old = stepped_meets (end_to_end (ZHD ∷ [])) old (asked (bytes "P0")) (asked_proper (bytes "P0"))

pub no_such_edition : (old : List ℕ) → StepRight (asked (bytes "P0138001 712")) (end_to_end (ZHD ∷ [])) (Err (Refused (whole 21))) old old
unfolding asked usual stepped flow_number
no_such_edition old = stepped_meets (end_to_end (ZHD ∷ [])) old (asked (bytes "P0138001 712")) (asked_proper (bytes "P0138001 712"))
