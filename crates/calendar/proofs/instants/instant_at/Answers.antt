use Rattle.std.proofs.Common.{arith}
use Rattle.calendar.specs.Calendar.{day_number, instant_at}
use Rattle.calendar.proofs.Fields.{date-parts}
use Rattle.calendar.proofs.instants.instant_at.Goals as goal

pub days_before_year-requires : goal.days_before_year-requires
days_before_year-requires c = let d = date-parts c.args.at c.requires in record { first = omega arith; last = omega arith }

pub days_before_month-requires : goal.days_before_month-requires
days_before_month-requires c = let d = date-parts c.args.at c.requires in record { first = omega arith; last = omega arith }

pub overflow_sub-at : goal.overflow_sub-at
overflow_sub-at c = let d = date-parts c.args.at c.requires in omega arith

pub returns : goal.returns
unfolding day_number instant_at
returns c = cc
