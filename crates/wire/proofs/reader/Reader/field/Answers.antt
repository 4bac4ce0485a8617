use Rattle.std.proofs.Common.{arith, rules}
use Rattle.std.proofs.lemmas.Bool.Decides.{nat_tests}
use Rattle.wire.specs.Reading.{field}
use Rattle.wire.proofs.reader.Reader.field.Goals as goal

pub returns-in_err-n : goal.returns-in_err-n
unfolding field
returns-in_err-n c = search rules

pub returns-then-n-max : goal.returns-then-n-max
unfolding field
returns-then-n-max c = grind (arith, nat_tests)

pub returns : goal.returns
unfolding field
returns c = grind (arith, nat_tests)
