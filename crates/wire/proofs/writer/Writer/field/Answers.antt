use Rattle.std.proofs.Common.{arith}
use Rattle.wire.proofs.Written.{wrote_then}
use Rattle.wire.proofs.writer.Writer.field.Goals as goal

pub returns-clause-wrote : goal.returns-clause-wrote
returns-clause-wrote c = wrote_then (omega arith) c.determinant.ensures.wrote c.put.ensures.wrote
