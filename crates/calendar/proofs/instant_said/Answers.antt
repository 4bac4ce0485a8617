use Rattle.std.proofs.Common.{arith}
use Rattle.std.proofs.lemmas.Bool.Decides.{nat_tests}
use Rattle.calendar.specs.Calendar.{instant_of, is_timestamp}
use Rattle.calendar.proofs.instant_said.Goals as goal

pub returns-then-digits-ne17 : goal.returns-then-digits-ne17
unfolding instant_of is_timestamp
returns-then-digits-ne17 c = grind (arith, nat_tests)

pub returns-then-valid_time : goal.returns-then-valid_time
unfolding instant_of is_timestamp
returns-then-valid_time c = grind (arith, nat_tests)

pub returns-else-valid_date : goal.returns-else-valid_date
unfolding instant_of is_timestamp
returns-else-valid_date c = grind (arith, nat_tests)
