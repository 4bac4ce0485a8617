use Rattle.std.proofs.Common.{arith, rules}
use Rattle.std.proofs.lemmas.Grind.{common_steps}
use Rattle.std.proofs.lemmas.Bool.Decides.{nat_tests}
use Rattle.packet.specs.Fields.{read_trigger}
use Rattle.packet.proofs.fields.triggered_by.Goals as goal

pub returns-in_err-bytes : goal.returns-in_err-bytes
unfolding read_trigger
returns-in_err-bytes c = search rules

pub returns : goal.returns
unfolding read_trigger
returns c = grind (arith, common_steps, nat_tests)
