use Rattle.std.proofs.Common.{refl}
use Rattle.hand_runs.proofs.Played.{hand-written-runs}
use Rattle.hand_runs.proofs.hand_written_runs.Goals as goal

pub returns : goal.returns
returns c = record { runs = hand-written-runs; count = refl }
