use Rattle.std.proofs.Common.{arith}
use Rattle.std.proofs.lemmas.List.{length-drop}
use Rattle.wire.proofs.reader.Reader.left.Goals as goal

pub returns : goal.returns
returns c = simp length-drop (omega arith)
