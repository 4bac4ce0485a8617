use Rattle.std.proofs.Common.{arith}
use Rattle.wire.proofs.Places.{reading}
use Rattle.wire.proofs.reader.Reader.array.Goals as goal

pub returns : goal.returns
returns g c = grind (arith, reading)
