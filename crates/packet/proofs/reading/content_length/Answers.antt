use Rattle.std.proofs.Common.{arith, rules}
use Rattle.std.proofs.lemmas.Bool.Decides.{nat_tests}
use Rattle.packet.specs.Readers.{read_length}
use Rattle.packet.proofs.reading.content_length.Goals as goal

pub returns-in_err-n : goal.returns-in_err-n
unfolding read_length
returns-in_err-n c = search rules

pub returns-then-n-left : goal.returns-then-n-left
unfolding read_length
returns-then-n-left c = grind (arith, nat_tests)

pub returns : goal.returns
unfolding read_length
returns c = grind (arith, nat_tests)
