use Rattle.std.proofs.Common.{sym, arith}
use Rattle.calendar.proofs.YearLaws.{is-closed}
use Rattle.calendar.proofs.years.days_before_year.Goals as goal

pub returns : goal.returns
returns c = sym (is-closed c.args.year (omega arith))
