-- `go_through` keeps the unread bytes within the window.
use Rattle.stream.specs.Window.{Within}
use Rattle.nightly.proofs.go_through.Given as goal

abbrev pub invariant-loop : goal.invariant-loop
invariant-loop g l = Within l.window l.run.unread.from l.run.unread.to
