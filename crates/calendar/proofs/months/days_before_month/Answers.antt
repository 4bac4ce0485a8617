use Rattle.std.proofs.Common.{◌≡◌, refl, ap, arith}
use Rattle.calendar.specs.Calendar.{days_before_month, total}
use Rattle.calendar.proofs.MonthLaws.{month-more, month-within}
use Rattle.calendar.proofs.YearLaws.{year-small}
use Rattle.calendar.proofs.months.days_before_month.Goals as goal

pub loop-past-init : goal.loop-past-init
unfolding days_before_month total
loop-past-init c = refl

pub overflow_add-days : goal.overflow_add-days
overflow_add-days c =
    record { fits = omega (arith, month-within c.args.year c.loop-past.past (omega arith) (omega arith), year-small c.args.year) }

pub loop-past-preserved : goal.loop-past-preserved
loop-past-preserved c = omega (arith, month-more c.args.year c.loop-past.past (omega arith))

pub returns : goal.returns
returns c =
    let e : c.loop-past.past ≡ c.args.month = omega arith in
    omega (arith, ap (days_before_month c.args.year) e)
