use Rattle.condition.proofs.Steps.{padded-is}
use Rattle.condition.proofs.sha256.message.pad.Goals as goal

pub returns : goal.returns
returns c = let e = padded-is c.copy_from_slice.new.self c.copy_from_slice.ensures.len in cc
