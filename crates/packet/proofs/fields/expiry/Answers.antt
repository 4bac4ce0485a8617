use Rattle.std.proofs.Common.{rules, arith}
use Rattle.std.proofs.lemmas.Grind.{common_steps}
use Rattle.packet.specs.Fields.{read_expiry}
use Rattle.packet.proofs.fields.expiry.Goals as goal

pub returns-in_err-digits : goal.returns-in_err-digits
unfolding read_expiry
returns-in_err-digits c = search rules

pub returns : goal.returns
unfolding read_expiry
returns c = grind (arith, common_steps)
