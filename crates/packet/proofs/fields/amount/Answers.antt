use Rattle.std.proofs.Common.{rules}
use Rattle.packet.specs.Fields.{read_amount}
use Rattle.packet.proofs.fields.amount.Goals as goal

pub returns-in_err-bytes : goal.returns-in_err-bytes
unfolding read_amount
returns-in_err-bytes c = search rules

pub returns : goal.returns
unfolding read_amount
returns c = search rules
