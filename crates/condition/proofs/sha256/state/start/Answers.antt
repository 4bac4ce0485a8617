use Rattle.std.proofs.Common.{refl}
use Rattle.condition.specs.Sha256.{initial}
use Rattle.condition.proofs.sha256.state.start.Goals as goal

pub returns : goal.returns
unfolding initial
returns c = refl
