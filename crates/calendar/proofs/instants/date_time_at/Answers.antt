use Rattle.std.proofs.Common.{ℕ, ap, arith}
use Rattle.calendar.specs.Calendar.{date_time_of}
use Rattle.calendar.proofs.MonthLaws.{month-rest-small}
use Rattle.calendar.proofs.instants.date_time_at.Goals as goal

pub overflow_add-result : goal.overflow_add-result
overflow_add-result c =
    record {
      fits =
          omega (
            arith,
            month-rest-small c.year_and_day-year.result.0 c.year_and_day-year.result.1 c.year_and_day-year.ensures.within,
            ap (λ (p : ℕ × ℕ). p.1) c.month_and_day-month.ensures,
          );
    }

pub returns : goal.returns
unfolding date_time_of
returns c = cc
