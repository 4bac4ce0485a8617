use Rattle.std.proofs.Common.{◌≡◌, ◌≤◌}
use Rattle.calendar.specs.Calendar.{number_at}
use Rattle.calendar.proofs.Numbers.{most}
use Rattle.calendar.proofs.digits.number_at.Given as goal

abbrev pub invariant-loop-digit : goal.invariant-loop-digit
invariant-loop-digit l = (l.number ≡ number_at l.digits l.at l.digit-index) × (l.number ≤ most l.digit-index)
