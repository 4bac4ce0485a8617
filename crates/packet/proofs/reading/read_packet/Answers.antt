use Rattle.std.proofs.Common.{arith}
use Rattle.packet.specs.Values.{packet_of}
use Rattle.packet.specs.Readers.{read_as, any_kind}
use Rattle.packet.proofs.Packets.{one-encoding, read_back}
use Rattle.packet.proofs.reading.read_packet.Goals as goal

pub returns : goal.returns
unfolding read_as
returns c =
    let told = read_back packet_of any_kind c.args.bytes.now c.parse_packet.result (λ i. omega (arith, c.type_inv.bytes i)) c.parse_packet.ensures in
    record { value = c.parse_packet.ensures; encoding = told.0; fits = told.1; one_encoding = one-encoding }
