use Rattle.std.proofs.Common.{◌≡◌, ◌+◌, sym, ap, arith}
use Rattle.calendar.specs.Calendar.{days_before_month, total}
use Rattle.calendar.proofs.MonthLaws.{december, month-counted, month-more}
use Rattle.calendar.proofs.months.month_and_day.Goals as goal

pub loop-month-init : goal.loop-month-init
unfolding days_before_month total
loop-month-init c = omega arith

pub loop-month-preserved : goal.loop-month-preserved
loop-month-preserved c = omega (arith, month-more c.args.year c.loop-month.month (omega arith))

pub returns-then-rest-length : goal.returns-then-rest-length
returns-then-rest-length c =
    sym
    (month-counted c.args.year c.loop-month.month c.loop-month.rest c.args.day (omega arith) (omega arith)
    c.loop-month.invariant (omega arith))

pub returns : goal.returns
returns c =
    let e : c.loop-month.month ≡ 12 = omega arith in
    let s : days_before_month c.args.year 12 + c.loop-month.rest ≡ c.args.day =
    omega (arith, ap (days_before_month c.args.year) e) in
    sym
    (month-counted c.args.year 12 c.loop-month.rest c.args.day (omega arith) (omega arith) s
    (omega (arith, december c.args.year)))
