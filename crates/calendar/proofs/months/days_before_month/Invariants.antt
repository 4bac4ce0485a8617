use Rattle.std.proofs.Common.{◌≡◌}
use Rattle.calendar.specs.Calendar.{days_before_month}
use Rattle.calendar.proofs.months.days_before_month.Given as goal

abbrev pub invariant-loop-past : goal.invariant-loop-past
invariant-loop-past l = l.days ≡ days_before_month l.year l.past
