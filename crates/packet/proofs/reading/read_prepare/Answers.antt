use Rattle.std.proofs.Common.{arith}
use Rattle.packet.specs.Readers.{read_as, prepare_kind, prepare_value}
use Rattle.packet.proofs.Packets.{one-encoding, read_back}
use Rattle.packet.proofs.reading.read_prepare.Goals as goal

pub returns : goal.returns
unfolding read_as
returns c =
    let told = read_back prepare_value prepare_kind c.args.bytes.now c.parse_prepare.result (λ i. omega (arith, c.type_inv.bytes i)) c.parse_prepare.ensures in
    record { value = c.parse_prepare.ensures; encoding = told.0; fits = told.1; one_encoding = one-encoding }
