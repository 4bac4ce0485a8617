use Rattle.condition.specs.Sha256.{sha256}
use Rattle.condition.proofs.sha256.digest.Goals as goal

pub returns : goal.returns
unfolding sha256
returns c = cc
