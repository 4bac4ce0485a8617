use Rattle.std.proofs.Common.{◌≡◌, ◌+◌}
use Rattle.calendar.specs.Calendar.{days_before_month}
use Rattle.calendar.proofs.months.month_and_day.Given as goal

-- the months that are past and the rest are the day
abbrev pub invariant-loop-month : goal.invariant-loop-month
invariant-loop-month l = days_before_month l.year l.month + l.rest ≡ l.day
