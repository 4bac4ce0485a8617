use Rattle.std.proofs.Common.{arith}
use Rattle.packet.specs.Values.{answer_of}
use Rattle.packet.specs.Readers.{read_as, answer_kind}
use Rattle.packet.proofs.Packets.{one-encoding, read_back}
use Rattle.packet.proofs.reading.read_answer.Goals as goal

pub returns : goal.returns
unfolding read_as
returns c =
    let told = read_back answer_of answer_kind c.args.bytes.now c.parse_answer.result (λ i. omega (arith, c.type_inv.bytes i)) c.parse_answer.ensures in
    record { value = c.parse_answer.ensures; encoding = told.0; fits = told.1; one_encoding = one-encoding }
