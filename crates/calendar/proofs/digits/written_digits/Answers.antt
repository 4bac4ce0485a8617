use Rattle.calendar.specs.Calendar.{written}
use Rattle.calendar.proofs.digits.written_digits.Goals as goal

pub returns : goal.returns
unfolding written
returns c = cc
