use Rattle.std.proofs.Common.{arith}
use Rattle.std.proofs.lemmas.Bool.Decides.{nat_tests}
use Rattle.calendar.specs.Calendar.{digits_of}
use Rattle.calendar.proofs.timestamp_of.Goals as goal

pub returns : goal.returns
unfolding digits_of
returns c =
    let e = c.in_ok-at.ensures in
    let w = c.written_digits.ensures in
    grind (arith, nat_tests)
