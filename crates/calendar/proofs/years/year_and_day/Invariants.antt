-- The year is not past the day's.
use Rattle.std.proofs.Common.{◌-◌, ◌≤◌}
use Rattle.calendar.specs.Calendar.{days_before_year}
use Rattle.calendar.proofs.years.year_and_day.Given as goal

abbrev pub invariant-loop-year : goal.invariant-loop-year
invariant-loop-year l = (1970 ≤ l.year) × (l.year ≤ 9999) × (days_before_year l.year ≤ l.days)

abbrev pub decreases-loop-year : goal.decreases-loop-year
decreases-loop-year l = 10000 - l.year
