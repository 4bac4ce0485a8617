use Rattle.std.proofs.Common.{arith}
use Rattle.wire.proofs.Places.{reading}
use Rattle.wire.proofs.reader.Reader.next_bytes.Goals as goal

pub returns : goal.returns
returns c = grind (arith, reading)
