-- What an ending and an answer stand for. Assumes nothing.
use Rattle.std.specs.Prelude.{ℕ, List}
use Rattle.packet.specs.declared.value.Answer.{Answer}
use Rattle.packet.specs.declared.value.Answer.TheVariants as answer
use Rattle.packet.specs.Values.{fulfill_of, reject_of}
use Rattle.protocol.specs.Messages.{Answered, fulfilled, declined}
use Rattle.protocol.specs.Outcomes as model
use Rattle.connector.specs.declared.ending.Ending.{Ending}
use Rattle.connector.specs.declared.ending.Ending.TheVariants.{Paid, PassedOn, Ours}

-- an ending by a peer's bytes or by a code
abbrev pub ending_of : List ℕ → Ending → model.Ending
ending_of bytes Paid = model.paid bytes
ending_of bytes PassedOn = model.passed_on bytes
ending_of bytes (Ours c) = model.ours c

abbrev pub answered_by : Answer → Answered
answered_by (answer.Fulfill f) = fulfilled (fulfill_of f)
answered_by (answer.Reject r) = declined (reject_of r)
