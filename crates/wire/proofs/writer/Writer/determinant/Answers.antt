use Rattle.std.proofs.Common.{arith}
use Rattle.std.proofs.lemmas.Bool.Decides.{nat_tests}
use Rattle.wire.specs.Writing.{determinant_of}
use Rattle.wire.proofs.writer.Writer.determinant.Goals as goal

pub returns-then-n-lt128-clause-wrote : goal.returns-then-n-lt128-clause-wrote
unfolding determinant_of
returns-then-n-lt128-clause-wrote c = record { is = grind (arith, nat_tests); end = grind (arith, nat_tests) }

pub returns-then-n-lt256-clause-wrote : goal.returns-then-n-lt256-clause-wrote
unfolding determinant_of
returns-then-n-lt256-clause-wrote c = record { is = grind (arith, nat_tests); end = grind (arith, nat_tests) }

pub returns-else-n-lt256-clause-wrote : goal.returns-else-n-lt256-clause-wrote
unfolding determinant_of
returns-else-n-lt256-clause-wrote c = record { is = grind (arith, nat_tests); end = grind (arith, nat_tests) }
