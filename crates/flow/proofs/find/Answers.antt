-- The words are tested in the order of the definition: their name, and then the edition, the usual one where they name none.
use Prim.Native.Nat.{◌-◌}
use mathlib.Core.Path.{◌≡◌, sym, ap, ◌∙◌}
use native.Mathlib.Omega.{arith}
use lib.ListN.{length, get_or, take, drop}
use Rattle.place.specs.declared.Refusal.{Refusal}
use Rattle.flow.specs.Flows.{flow_number}
use Rattle.flow.specs.Editions.{no_flow, usual, name_in, told}
use Rattle.flow.proofs.Asking.{asked_short, asked_unknown, asked_usual, asked_odd, asked_edition, in_edition}
use Rattle.flow.proofs.find.Goals as goal

pub returns-then-words-lt8 : goal.returns-then-words-lt8
returns-then-words-lt8 c =
    let a = c.args in
    ap (λ (r : Refusal). no_flow r) c.whole.ensures ∙ sym (asked_short a.words.now c.if-words-lt8.true)

pub returns-in_default : goal.returns-in_default
returns-in_default c =
    let a = c.args in
    ap (λ (r : Refusal). no_flow r) c.whole-in_default.ensures
    ∙ sym (asked_unknown a.words.now (rw c.split_at.ensures.front at c.in_default.ensures))

pub returns-in-empty : goal.returns-in-empty
unfolding usual
returns-in-empty c =
    let a = c.args in
    let n = c.in-Some.ensures in
    let is : c.in-Some.n ≡ flow_number (name_in a.words.now) = rw c.split_at.ensures.front at n.0 in
    c.in_edition.ensures ∙ sym (asked_usual a.words.now c.in-Some.n is (omega (arith, n.1)) (omega (arith, c.split_at.ensures.back_len)))

pub returns-in-32 : goal.returns-in-32
returns-in-32 c =
    let a = c.args in
    let n = c.in-Some.ensures in
    let is : c.in-Some.n ≡ flow_number (name_in a.words.now) = rw c.split_at.ensures.front at n.0 in
    let first : get_or c.split_at.result.1.now 0 0 ≡ 0x20 = omega arith in
    let behind : get_or (drop 8 a.words.now) 0 0 ≡ 0x20 = rw c.split_at.ensures.back at first in
    let edition : told c.in_edition-in-32.result ≡ in_edition c.in-Some.n (take (length (drop 8 a.words.now) - 1) (drop 1 (drop 8 a.words.now))) =
    rw c.split_at.ensures.back at c.in_edition-in-32.ensures in
    edition ∙ sym (asked_edition a.words.now c.in-Some.n is (omega (arith, n.1)) (omega (arith, c.split_at.ensures.back_len)) behind)

pub returns-in_default-behind : goal.returns-in_default-behind
returns-in_default-behind c =
    let a = c.args in
    let n = c.in-Some.ensures in
    let is : c.in-Some.n ≡ flow_number (name_in a.words.now) = rw c.split_at.ensures.front at n.0 in
    let other : get_or c.split_at.result.1.now 0 0 ≡ 0x20 → ⊥ = λ e. omega (arith, e) in
    ap (λ (r : Refusal). no_flow r) c.whole-in_default-behind.ensures
    ∙ sym (asked_odd a.words.now c.in-Some.n is (omega (arith, n.1)) (omega (arith, c.split_at.ensures.back_len)) (λ e. other (rw c.split_at.ensures.back e)))
