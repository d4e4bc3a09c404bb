-- Words that are no case's name, at some lengths. Assumes nothing.
use mathlib.Core.Path.{◌≡◌}
use native.Mathlib.Omega.{arith}
use lib.ListN.{length}
use Rattle.std.proofs.lemmas.Bool.Decides.{nat_tests}
use Rattle.words.proofs.Bytewise.{same_by_reads}
use Rattle.headers.specs.Headers.{room_named, case_named}
use Rattle.headers.proofs.read_named.Goals as goal

pub returns-in_default : goal.returns-in_default
unfolding case_named room_named
returns-in_default c = simp same_by_reads (grind (arith, nat_tests))

pub returns-in_default-7 : goal.returns-in_default-7
unfolding case_named room_named
returns-in_default-7 c = simp same_by_reads (grind (arith, nat_tests))

pub returns-in_default-11 : goal.returns-in_default-11
unfolding case_named room_named
returns-in_default-11 c = simp same_by_reads (grind (arith, nat_tests))

pub returns-in_default-33 : goal.returns-in_default-33
unfolding case_named room_named
returns-in_default-33 c = let six : length c.args.name.now ≡ 6 = omega arith in simp (same_by_reads, six) (grind (arith, nat_tests))

pub returns-in_default-38 : goal.returns-in_default-38
unfolding case_named room_named
returns-in_default-38 c = let six : length c.args.name.now ≡ 6 = omega arith in simp (same_by_reads, six) (grind (arith, nat_tests))

pub returns-in_default-43 : goal.returns-in_default-43
unfolding case_named room_named
returns-in_default-43 c = let six : length c.args.name.now ≡ 6 = omega arith in simp (same_by_reads, six) (grind (arith, nat_tests))

pub returns-in_default-47 : goal.returns-in_default-47
unfolding case_named room_named
returns-in_default-47 c = simp same_by_reads (grind (arith, nat_tests))

pub returns-in_default-48 : goal.returns-in_default-48
unfolding case_named room_named
returns-in_default-48 c = simp same_by_reads (grind (arith, nat_tests))

pub returns-in_default-49 : goal.returns-in_default-49
unfolding case_named room_named
returns-in_default-49 c = simp same_by_reads (grind (arith, nat_tests))
