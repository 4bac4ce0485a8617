use Rattle.std.proofs.Common.{arith}
use Rattle.std.proofs.lemmas.Bool.Decides.{nat_tests}
use Rattle.calendar.specs.Calendar.{valid_time}
use Rattle.calendar.proofs.instants.valid_time.Goals as goal

pub returns-then-at-le59-2 : goal.returns-then-at-le59-2
unfolding valid_time
returns-then-at-le59-2 c = grind (arith, nat_tests)

pub returns-else-at-le59-2 : goal.returns-else-at-le59-2
unfolding valid_time
returns-else-at-le59-2 c = grind (arith, nat_tests)
