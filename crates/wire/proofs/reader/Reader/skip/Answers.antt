use Rattle.std.proofs.Common.{sym}
use Rattle.wire.proofs.Places.{forward-at}
use Rattle.wire.proofs.reader.Reader.skip.Goals as goal

pub returns-clause-place : goal.returns-clause-place
returns-clause-place c = sym (forward-at 1 _ _)
