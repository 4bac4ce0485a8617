use Rattle.std.proofs.Common.{◌+◌, ◌-◌, sym, arith}
use Rattle.calendar.proofs.YearLaws.{is-closed, year-counted, year-more}
use Rattle.calendar.proofs.years.year_and_day.Goals as goal

pub loop-year-init : goal.loop-year-init
loop-year-init c = (omega arith, omega arith, omega arith)

pub loop-year-preserved : goal.loop-year-preserved
loop-year-preserved c = (omega arith, omega (arith, is-closed (c.loop-year.year + 1) (omega arith)), omega arith)

pub returns : goal.returns
returns c =
    let y = year-more c.loop-year.year (omega arith) in
    record {
      value =
          sym
          (year-counted c.loop-year.year (c.args.days - c.days_before_year-2.result) c.args.days (omega arith) (omega arith)
          (omega arith) (omega arith));
      within = omega arith;
    }
