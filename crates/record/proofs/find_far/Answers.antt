-- `find_far` is right: from each place that the loop reaches, the run ends where the run from `at` ends.
use Prim.Native.Nat.{◌+◌, ◌-◌}
use mathlib.Core.Path.{◌≡◌, ap, ◌∙◌}
use native.Mathlib.Omega.{arith}
use lib.ListN.{length, take, drop}
use lib.Seq.{drop-drop}
use Rattle.record.specs.Records.{run}
use Rattle.record.proofs.Runs.{run_ends, run_through}
use Rattle.record.proofs.find_far.Goals as goal

pub returns-then-run-lt8 : goal.returns-then-run-lt8
returns-then-run-lt8 c =
    let rest = c.loop-eight.rest.now in
    let k : c.run_in_eight-run.result ≡ run c.args.sep (take 8 rest) = rw c.in-Some.ensures.cases.0 at c.run_in_eight-run.ensures in
    let e = run_ends c.args.sep 8 rest (omega (arith, k)) in
    omega (arith, e, k)

pub loop-eight-preserved : goal.loop-eight-preserved
loop-eight-preserved c =
    let a = c.args in
    let rest = c.loop-eight.rest.now in
    let is = c.in-Some.ensures.cases in
    let k : c.run_in_eight-run.result ≡ run a.sep (take 8 rest) = rw is.0 at c.run_in_eight-run.ensures in
    let e = run_through a.sep 8 rest (omega (arith, k)) in
    let d = ap (run a.sep) is.1 in
    let on : length a.s.now - length c.in-Some.behind.now ≡ length a.s.now - length rest + 8 = omega (arith, is.2) in (
      omega (arith, is.2),
      is.1 ∙ ap (drop 8) c.loop-eight.invariant.1 ∙ drop-drop 8 (length a.s.now - length rest) a.s.now ∙ ap (λ n. drop n a.s.now) (rw on),
      omega (arith, e, d, is.2),
    )
