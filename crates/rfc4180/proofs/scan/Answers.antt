-- Why scan is right: what is said from i on is said of the whole.
use lib.ListN.{length, drop, get_or}
use Prim.Native.Nat.{ℕ, ◌≤◌, ◌<◌, ◌+◌, ◌-◌}
use mathlib.Core.Path.{sym, ap, ◌∙◌}
use native.Mathlib.Omega.{arith}
use Rattle.rfc4180.specs.declared.State.{State}
use Rattle.rfc4180.specs.Walk.{stop_at, sheet_from, lines_from}
use Rattle.rfc4180.proofs.States.{is_line, is_stopped}
use Rattle.rfc4180.proofs.Steps.{given_le, ended_le, stop_here, stop_next, size_next, lines_next, stop_open, stop_none, sheet_ended, sheet_open, lines_ended_lem, lines_open}
use Rattle.rfc4180.proofs.Skimming.{is_stretch, stretch_within, stretch_stop, stretch_lines, stretch_size}
use Rattle.rfc4180.proofs.scan.Goals as goal

pub slice_bounds-behind_stretch-end : goal.slice_bounds-behind_stretch-end
slice_bounds-behind_stretch-end c =
    let l = c.loop-i in
    let t = c.args.text.now in
    stretch_within t l.i l.st _ c.stretch_end-end.ensures c.if-i-end.true (omega arith)

pub behind_stretch-st-requires : goal.behind_stretch-st-requires
behind_stretch-st-requires c =
    let l = c.loop-i in
    let t = c.args.text.now in
    is_stretch t l.i l.st _ c.stretch_end-end.ensures c.if-i-end.true (omega arith)

pub loop-i-preserved-then-i-end : goal.loop-i-preserved-then-i-end
loop-i-preserved-then-i-end c =
    let l = c.loop-i in
    let t = c.args.text.now in
    let r = c.stretch_end-end in
    let h = c.if-i-end.true in
    let k : l.i ≤ length t = omega arith in
    let m = c.behind_stretch-st.ensures in
    let within = stretch_within t l.i l.st r.result r.ensures h k in (
      within,
      omega (arith, within),
      omega (arith, within),
      ap (λ (x : State). stop_at x l.lines (drop r.result t)) m ∙ sym (stretch_stop t l.i l.st r.result r.ensures h k l.lines) ∙ l.invariant.3,
      ap (λ (x : State). l.lines + lines_from x (drop r.result t)) m
          ∙ omega (arith, stretch_lines t l.i l.st r.result r.ensures h k, l.invariant.4),
      ap (λ (x : State). l.bytes + (r.result - l.i) + length (sheet_from x (drop r.result t))) m
          ∙ omega (arith, stretch_size t l.i l.st r.result r.ensures h k, l.invariant.5),
    )

pub returns-then-eq : goal.returns-then-eq
returns-then-eq c =
    let l = c.loop-i in
    let t = c.args.text.now in
    let here = stop_here t l.i l.st c.after-n.result (omega arith) c.after-n.ensures l.lines (sym (is_stopped c.after-n.result) ∙ sym c.eq.ensures ∙ c.if-eq.true) in
    (sym here ∙ l.invariant.3, λ q. omega arith)

pub overflow_add-bytes-else-i-end : goal.overflow_add-bytes-else-i-end
overflow_add-bytes-else-i-end c =
    let l = c.loop-i in
    let t = c.args.text.now in
    omega (arith, c.given_size-bytes.ensures, given_le l.st (get_or t l.i 0))

pub loop-i-preserved : goal.loop-i-preserved
loop-i-preserved c =
    let l = c.loop-i in
    let t = c.args.text.now in
    let m = c.after-n.result in
    let e = c.after-n.ensures in
    let h : l.i < length t = omega arith in
    let k = c.ended-lines.ensures in
    let g = c.given_size-bytes.ensures in (
      omega arith,
      omega (arith, k, ended_le m),
      omega (arith, g, given_le l.st (get_or t l.i 0)),
      ap (λ (n : ℕ). stop_at m (l.lines + n) (drop (l.i + 1) t)) k ∙ sym (stop_next t l.i l.st m h e l.lines (sym (is_stopped m) ∙ sym c.eq.ensures ∙ c.if-eq.false)) ∙ l.invariant.3,
      omega (arith, k, lines_next t l.i l.st m h e),
      omega (arith, g, size_next t l.i l.st m h e),
    )

pub returns-then-not-may_end : goal.returns-then-not-may_end
returns-then-not-may_end c =
    let l = c.loop-i in
    let t = c.args.text.now in
    (sym (stop_open t l.i l.st (omega arith) l.lines (sym c.may_end.ensures ∙ c.if-not-may_end.true)) ∙ l.invariant.3, λ q. omega arith)

pub returns-then-eq-2 : goal.returns-then-eq-2
returns-then-eq-2 c =
    let l = c.loop-i in
    let t = c.args.text.now in
    let h : length t ≤ l.i = omega arith in (
      sym l.invariant.3 ∙ stop_none t l.i l.st h l.lines (sym c.may_end.ensures ∙ c.if-not-may_end.false),
      omega (arith, lines_ended_lem t l.i l.st h (sym (is_line l.st) ∙ sym c.eq-2.ensures ∙ c.if-eq-2.true)),
      omega (arith, ap length (sheet_ended t l.i l.st h (sym (is_line l.st) ∙ sym c.eq-2.ensures ∙ c.if-eq-2.true))),
    )

pub returns : goal.returns
returns c =
    let l = c.loop-i in
    let t = c.args.text.now in
    let h : length t ≤ l.i = omega arith in (
      sym l.invariant.3 ∙ stop_none t l.i l.st h l.lines (sym c.may_end.ensures ∙ c.if-not-may_end.false),
      omega (arith, lines_open t l.i l.st h (sym (is_line l.st) ∙ sym c.eq-2.ensures ∙ c.if-eq-2.false)),
      omega (arith, ap length (sheet_open t l.i l.st h (sym (is_line l.st) ∙ sym c.eq-2.ensures ∙ c.if-eq-2.false))),
    )
