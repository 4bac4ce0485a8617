use Rattle.std.proofs.Common.{arith}
use Rattle.std.proofs.lemmas.Bool.Decides.{nat_tests}
use Rattle.wire.specs.Writing.{determinant_of}
use Rattle.wire.proofs.writing.field_size.Goals as goal

pub returns-then-n-lt128 : goal.returns-then-n-lt128
unfolding determinant_of
returns-then-n-lt128 c = record { value = grind (arith, nat_tests); bound = omega arith }

pub returns-then-n-lt256 : goal.returns-then-n-lt256
unfolding determinant_of
returns-then-n-lt256 c = record { value = grind (arith, nat_tests); bound = omega arith }

pub returns-else-n-lt256 : goal.returns-else-n-lt256
unfolding determinant_of
returns-else-n-lt256 c = record { value = grind (arith, nat_tests); bound = omega arith }
