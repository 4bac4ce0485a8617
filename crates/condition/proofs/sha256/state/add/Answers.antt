use Rattle.condition.specs.Sha256.{added}
use Rattle.condition.proofs.sha256.state.add.Goals as goal

pub returns : goal.returns
unfolding added
returns c = cc
