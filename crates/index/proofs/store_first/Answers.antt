-- `store_first` is right: after i turns the state has read i entries, and the list holds them and has the room that it had.
use mathlib.Core.Path.{◌≡◌, refl, sym, ap, ◌∙◌}
use Prim.Native.Nat.{ℕ}
use native.Mathlib.Numerals.{add-one}
use native.Mathlib.Omega.{arith}
use Rattle.index.specs.Code.{kinds_in, advanced, after, read, storing}
use Rattle.index.proofs.Reading.{in_step}
use Rattle.index.proofs.Stored.{after_none, after_one}
use Rattle.index.proofs.store_first.Goals as goal

pub loop-i-init : goal.loop-i-init
loop-i-init g c = (c.start-s.ensures ∙ after_none (kinds_in c.args.t.now) c.args.f.now, refl, refl)

pub advance-s-requires : goal.advance-s-requires
advance-s-requires g c = rw c.loop-i.invariant.0 (in_step (kinds_in c.args.t.now) c.args.f.now c.loop-i.i)

pub loop-i-preserved : goal.loop-i-preserved
loop-i-preserved g c =
    let a = c.args in
    let ks = kinds_in a.t.now in
    let f = a.f.now in
    let loop = c.loop-i in
    let entry = c.advance-s.result.entry in
    let next = c.advance-s.ensures ∙ ap (advanced ks f) loop.invariant.0 ∙ after_one ks f loop.i in
    let one = sym (add-one loop.i) in (
      next ∙ ap (after ks f) one,
      c.put.ensures
          ∙ (λ j. g.T.Slot.with_entry (loop.invariant.1 j) loop.i (next j).entry)
          ∙ ap (λ (n : ℕ). storing g.T.Slot.with_entry (read ks f) n a.list.now) one,
      ap g.T.Slot.room c.put.ensures ∙ g.met.T.Slot.as_long loop.list loop.i entry (omega (arith, c.requires, loop.invariant.2, c.loop-i-test.true)) ∙ loop.invariant.2,
    )

pub returns : goal.returns
returns g c =
    let a = c.args in
    let all : c.loop-i.i ≡ a.n = omega (arith, c.loop-i-test.false, c.loop-i.auto.i-end) in
    c.loop-i.invariant.1 ∙ ap (λ (n : ℕ). storing g.T.Slot.with_entry (read (kinds_in a.t.now) a.f.now) n a.list.now) all
