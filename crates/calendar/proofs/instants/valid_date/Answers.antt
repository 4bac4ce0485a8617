use Rattle.std.proofs.Common.{arith}
use Rattle.std.proofs.lemmas.Bool.Decides.{nat_tests}
use Rattle.calendar.specs.Calendar.{valid_date}
use Rattle.calendar.proofs.instants.valid_date.Goals as goal

pub returns-then-at-ge1-2 : goal.returns-then-at-ge1-2
unfolding valid_date
returns-then-at-ge1-2 c = grind (arith, nat_tests)

pub returns-else-at-ge1-2 : goal.returns-else-at-ge1-2
unfolding valid_date
returns-else-at-ge1-2 c = grind (arith, nat_tests)
