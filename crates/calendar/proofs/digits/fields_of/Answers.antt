use Rattle.calendar.proofs.Numbers.{fields_read}
use Rattle.calendar.proofs.digits.fields_of.Goals as goal

pub returns : goal.returns
returns c = let e = fields_read c.args.digits.now in cc
