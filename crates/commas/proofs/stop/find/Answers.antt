-- What stops the walk from i on stops it from the start on.
use Prim.Native.Nat.{ℕ, ◌+◌}
use mathlib.Core.Path.{refl, sym, ap, ◌∙◌}
use native.Mathlib.Omega.{arith}
use lib.ListN.{drop}
use Rattle.std.specs.Prelude.{Some}
use Rattle.rfc4180.proofs.States.{is_stopped}
use Rattle.commas.specs.declared.stop.Stop.{Stop}
use Rattle.commas.specs.Stopping.{stop_from, stop_in}
use Rattle.commas.proofs.Steps.{stop_here, stop_next, stop_end_lem}
use Rattle.commas.proofs.stop.find.Goals as goal

pub loop-i-init : goal.loop-i-init
unfolding stop_in
loop-i-init c = refl

pub returns-then-eq : goal.returns-then-eq
returns-then-eq c =
    let l = c.loop-i in
    let t = c.args.text.now in
    let n = c.after-next in
    ap (λ (s : Stop). Some s) c.stop_by.ensures ∙ sym (stop_here t l.i l.st n.result l.mark (omega arith) n.ensures (sym (is_stopped n.result) ∙ sym c.eq.ensures ∙ c.if-eq.true)) ∙ l.invariant

pub loop-i-preserved : goal.loop-i-preserved
loop-i-preserved c =
    let l = c.loop-i in
    let t = c.args.text.now in
    let m = c.after-next.result in
    ap (λ (k : ℕ). stop_from m (l.i + 1) k (drop (l.i + 1) t)) c.mark_of-mark.ensures
    ∙ sym (stop_next t l.i l.st m l.mark (omega arith) c.after-next.ensures (sym (is_stopped m) ∙ sym c.eq.ensures ∙ c.if-eq.false)) ∙ l.invariant

pub returns : goal.returns
returns c =
    let l = c.loop-i in
    let t = c.args.text.now in
    c.stop_end.ensures ∙ sym (stop_end_lem t l.i l.st l.mark (omega arith)) ∙ l.invariant
