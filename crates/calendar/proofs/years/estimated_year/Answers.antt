use Rattle.std.proofs.Common.{◌+◌, ap, arith}
use Rattle.calendar.specs.Calendar.{days_before_year}
use Rattle.calendar.proofs.YearLaws.{estimate, estimate-near}
use Rattle.calendar.proofs.years.estimated_year.Goals as goal

pub returns : goal.returns
returns c =
    record {
      value = omega arith;
      begun = omega (arith, estimate c.args.days, ap (λ n. days_before_year (1970 + n)) c.saturating_sub.ensures);
      near = omega (arith, estimate-near c.args.days, ap (λ n. days_before_year (1970 + n + 3)) c.saturating_sub.ensures);
    }
