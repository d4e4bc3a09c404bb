-- Why put_sheet is right: what the bytes from i on give is left to put.
use Prim.Native.Nat.{◌≤◌, ◌+◌, ◌-◌}
use mathlib.Core.Path.{refl, sym, ap, ◌∙◌}
use mathlib.Core.List.{[], ◌∷◌, ◌++◌}
use native.Mathlib.Omega.{arith}
use lib.ListN.{length, drop, take, get_or}
use Rattle.rfc4180.specs.declared.State.{State}
use Rattle.rfc4180.specs.declared.State.TheVariants.{AtLine}
use Rattle.rfc4180.specs.Rfc.{feed}
use Rattle.rfc4180.specs.Walk.{next_of, given_of, sheet_from}
use Rattle.rfc4180.specs.Skim.{stretch_given}
use Rattle.rfc4180.proofs.States.{is_line}
use Rattle.rfc4180.proofs.Steps.{sheet_next, sheet_ended, sheet_open}
use Rattle.sheet.proofs.Puts.{Goes, goes_as, goes_part, goes_room, goes_below, goes_byte, goes_done}
use Rattle.rfc4180.proofs.Skimming.{is_stretch, stretch_long, stretch_within, stretch_sheet, given_size}
use Rattle.rfc4180.proofs.put_sheet.Goals as goal

pub slice_bounds-put_stretch-end : goal.slice_bounds-put_stretch-end
slice_bounds-put_stretch-end c =
    let a = c.args in
    let l = c.loop-i in
    let t = a.text.now in
    stretch_within t l.i l.st _ c.stretch_end-end.ensures c.if-i-end.true (omega arith)

pub put_stretch-requires : goal.put_stretch-requires
put_stretch-requires c =
    let a = c.args in
    let l = c.loop-i in
    let t = a.text.now in
    let r = c.stretch_end-end in
    let h = c.if-i-end.true in
    let u = take (r.result - l.i) (drop l.i t) in
    omega (
      arith,
      goes_room (stretch_given l.st u) _ (goes_as l.invariant.1 (stretch_sheet t l.i l.st r.result r.ensures h (omega arith))),
      given_size l.st u,
    )

pub behind_stretch-st-requires : goal.behind_stretch-st-requires
behind_stretch-st-requires c =
    let a = c.args in
    let l = c.loop-i in
    let t = a.text.now in
    is_stretch t l.i l.st _ c.stretch_end-end.ensures c.if-i-end.true (omega arith)

pub loop-i-preserved-then-i-end : goal.loop-i-preserved-then-i-end
loop-i-preserved-then-i-end c =
    let behind : let a = c.args in let l = c.loop-i in let r = c.stretch_end-end.result in Goes a.out.now 0 (sheet_from AtLine a.text.now) c.put_stretch.new.out (l.e + (r - l.i)) (sheet_from c.behind_stretch-st.result (drop r a.text.now)) = let a = c.args in
    let l = c.loop-i in
    let t = a.text.now in
    let r = c.stretch_end-end in
    let h = c.if-i-end.true in
    let k : l.i ≤ length t = omega arith in
    let u = take (r.result - l.i) (drop l.i t) in
    let left = stretch_sheet t l.i l.st r.result r.ensures h k ∙ ap (λ (m : State). stretch_given l.st u ++ sheet_from m (drop r.result t)) (sym c.behind_stretch-st.ensures) in
    goes_part (stretch_given l.st u) (sheet_from c.behind_stretch-st.result (drop r.result t)) c.put_stretch.new.out (l.e + (r.result - l.i)) (goes_as l.invariant.1 left)
    c.put_stretch.ensures (omega (arith, given_size l.st u, stretch_long t l.i l.st r.result r.ensures h k)) in
    let a = c.args in
    let l = c.loop-i in
    let t = a.text.now in
    (stretch_within t l.i l.st _ c.stretch_end-end.ensures c.if-i-end.true (omega arith), behind)

pub put_given-e-requires : goal.put_given-e-requires
put_given-e-requires c =
    let a = c.args in
    let l = c.loop-i in
    let t = a.text.now in
    let x = get_or t l.i 0 in
    goes_room (given_of l.st x) (sheet_from (next_of l.st x) (drop (l.i + 1) t)) (goes_as l.invariant.1 (sheet_next t l.i l.st (next_of l.st x) (omega arith) refl))

pub loop-i-preserved : goal.loop-i-preserved
loop-i-preserved c =
    let a = c.args in
    let l = c.loop-i in
    let t = a.text.now in
    let p = c.put_given-e in (
      omega arith,
      goes_part (given_of l.st (get_or t l.i 0)) (sheet_from c.after-st.result (drop (l.i + 1) t)) p.new.out p.result
          (goes_as l.invariant.1 (sheet_next t l.i l.st c.after-st.result (omega arith) c.after-st.ensures)) p.ensures.0 p.ensures.1,
    )

pub returns-then-eq : goal.returns-then-eq
returns-then-eq c =
    let t = c.args.text.now in
    let l = c.loop-i in
    (goes_done (goes_as l.invariant.1 (sheet_ended t l.i l.st (omega arith) (sym (is_line l.st) ∙ sym c.eq.ensures ∙ c.if-eq.true)))).0

pub bounds-out-e : goal.bounds-out-e
bounds-out-e c =
    let last : let a = c.args in let l = c.loop-i in Goes a.out.now 0 (sheet_from AtLine a.text.now) l.out l.e (feed ∷ []) = let t = c.args.text.now in
    let l = c.loop-i in
    goes_as l.invariant.1 (sheet_open t l.i l.st (omega arith) (sym (is_line l.st) ∙ sym c.eq.ensures ∙ c.if-eq.false)) in
    goes_below feed [] last

pub returns : goal.returns
returns c =
    let last : let a = c.args in let l = c.loop-i in Goes a.out.now 0 (sheet_from AtLine a.text.now) l.out l.e (feed ∷ []) = let t = c.args.text.now in
    let l = c.loop-i in
    goes_as l.invariant.1 (sheet_open t l.i l.st (omega arith) (sym (is_line l.st) ∙ sym c.eq.ensures ∙ c.if-eq.false)) in
    (goes_done (goes_byte feed [] last)).0
