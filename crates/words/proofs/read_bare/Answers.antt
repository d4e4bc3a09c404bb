-- Words of six and of eight bytes that begin otherwise. Assumes nothing.
use native.Mathlib.Omega.{arith}
use Rattle.std.proofs.lemmas.Bool.Decides.{nat_tests}
use Rattle.words.specs.Spelling.{form_of}
use Rattle.words.proofs.Bytewise.{same_by_reads}
use Rattle.words.proofs.read_bare.Goals as goal

pub returns-in_default-27 : goal.returns-in_default-27
unfolding form_of
returns-in_default-27 c = simp same_by_reads (grind (arith, nat_tests))

pub returns-in_default-18 : goal.returns-in_default-18
unfolding form_of
returns-in_default-18 c = simp same_by_reads (grind (arith, nat_tests))
