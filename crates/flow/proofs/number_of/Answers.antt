-- The tests stand in the order of the flows: the first name that is the same decides. Assumes nothing.
use Prim.Native.Nat.{ℕ, suc, ◌<◌}
use mathlib.Core.Path.{◌≡◌, sym, ◌∙◌}
use native.Mathlib.Omega.{arith}
use mathlib.Core.List.{List, map}
use lib.ListN.{drop}
use Rattle.text.proofs.Places.{Sought, sought_all, sought_here, sought_next}
use Rattle.flow.specs.Publication.{Flow}
use Rattle.flow.specs.Flows.{flows, flow_number}
use Rattle.flow.proofs.number_of.Goals as goal

-- the first i names are passed
abbrev Passed : ℕ → List ℕ → Type 0
Passed i name = Sought (map (λ (f : Flow). f.name) flows) name (suc i) (drop i (map (λ (f : Flow). f.name) flows))

start : (name : List ℕ) → Passed 0 name
start name = sought_all

-- a number that is not 0 is found
found : {n i : ℕ} → n ≡ suc i → (suc i ≡ n) × (0 < suc i)
found e = (sym e, omega arith)

pub returns-then-same_bytes : goal.returns-then-same_bytes
unfolding flow_number
returns-then-same_bytes c = found (sought_here (start c.args.name.now) (sym c.same_bytes.ensures ∙ c.if-same_bytes.true))

pub returns-then-same_bytes-2 : goal.returns-then-same_bytes-2
unfolding flow_number
returns-then-same_bytes-2 c =
    let name-1 : List ℕ = c.args.name.now in
    let passed-1 : Passed 1 name-1 = sought_next (start _) (sym c.same_bytes.ensures ∙ c.if-same_bytes.false) in
    found (sought_here passed-1 (sym c.same_bytes-2.ensures ∙ c.if-same_bytes-2.true))

pub returns-then-same_bytes-3 : goal.returns-then-same_bytes-3
unfolding flow_number
returns-then-same_bytes-3 c =
    let name-1 : List ℕ = c.args.name.now in
    let passed-1 : Passed 1 name-1 = sought_next (start _) (sym c.same_bytes.ensures ∙ c.if-same_bytes.false) in
    let passed-2 : Passed 2 name-1 = sought_next passed-1 (sym c.same_bytes-2.ensures ∙ c.if-same_bytes-2.false) in
    found (sought_here passed-2 (sym c.same_bytes-3.ensures ∙ c.if-same_bytes-3.true))

pub returns-then-same_bytes-4 : goal.returns-then-same_bytes-4
unfolding flow_number
returns-then-same_bytes-4 c =
    let name-1 : List ℕ = c.args.name.now in
    let passed-1 : Passed 1 name-1 = sought_next (start _) (sym c.same_bytes.ensures ∙ c.if-same_bytes.false) in
    let passed-2 : Passed 2 name-1 = sought_next passed-1 (sym c.same_bytes-2.ensures ∙ c.if-same_bytes-2.false) in
    let passed-3 : Passed 3 name-1 = sought_next passed-2 (sym c.same_bytes-3.ensures ∙ c.if-same_bytes-3.false) in
    found (sought_here passed-3 (sym c.same_bytes-4.ensures ∙ c.if-same_bytes-4.true))

pub returns-then-same_bytes-5 : goal.returns-then-same_bytes-5
unfolding flow_number
returns-then-same_bytes-5 c =
    let name-1 : List ℕ = c.args.name.now in
    let passed-1 : Passed 1 name-1 = sought_next (start _) (sym c.same_bytes.ensures ∙ c.if-same_bytes.false) in
    let passed-2 : Passed 2 name-1 = sought_next passed-1 (sym c.same_bytes-2.ensures ∙ c.if-same_bytes-2.false) in
    let passed-3 : Passed 3 name-1 = sought_next passed-2 (sym c.same_bytes-3.ensures ∙ c.if-same_bytes-3.false) in
    let passed-4 : Passed 4 name-1 = sought_next passed-3 (sym c.same_bytes-4.ensures ∙ c.if-same_bytes-4.false) in
    found (sought_here passed-4 (sym c.same_bytes-5.ensures ∙ c.if-same_bytes-5.true))

pub returns-then-same_bytes-6 : goal.returns-then-same_bytes-6
unfolding flow_number
returns-then-same_bytes-6 c =
    let name-1 : List ℕ = c.args.name.now in
    let passed-1 : Passed 1 name-1 = sought_next (start _) (sym c.same_bytes.ensures ∙ c.if-same_bytes.false) in
    let passed-2 : Passed 2 name-1 = sought_next passed-1 (sym c.same_bytes-2.ensures ∙ c.if-same_bytes-2.false) in
    let passed-3 : Passed 3 name-1 = sought_next passed-2 (sym c.same_bytes-3.ensures ∙ c.if-same_bytes-3.false) in
    let passed-4 : Passed 4 name-1 = sought_next passed-3 (sym c.same_bytes-4.ensures ∙ c.if-same_bytes-4.false) in
    let passed-5 : Passed 5 name-1 = sought_next passed-4 (sym c.same_bytes-5.ensures ∙ c.if-same_bytes-5.false) in
    found (sought_here passed-5 (sym c.same_bytes-6.ensures ∙ c.if-same_bytes-6.true))

pub returns : goal.returns
unfolding flow_number
returns c =
    let name-1 : List ℕ = c.args.name.now in
    let passed-1 : Passed 1 name-1 = sought_next (start _) (sym c.same_bytes.ensures ∙ c.if-same_bytes.false) in
    let passed-2 : Passed 2 name-1 = sought_next passed-1 (sym c.same_bytes-2.ensures ∙ c.if-same_bytes-2.false) in
    let passed-3 : Passed 3 name-1 = sought_next passed-2 (sym c.same_bytes-3.ensures ∙ c.if-same_bytes-3.false) in
    let passed-4 : Passed 4 name-1 = sought_next passed-3 (sym c.same_bytes-4.ensures ∙ c.if-same_bytes-4.false) in
    let passed-5 : Passed 5 name-1 = sought_next passed-4 (sym c.same_bytes-5.ensures ∙ c.if-same_bytes-5.false) in
    (sought_next passed-5 (sym c.same_bytes-6.ensures ∙ c.if-same_bytes-6.false)).is
