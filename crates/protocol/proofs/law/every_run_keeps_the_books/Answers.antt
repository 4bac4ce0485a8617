use Rattle.protocol.proofs.RunLaw.{every-run}
use Rattle.protocol.proofs.law.every_run_keeps_the_books.Goals as goal

pub returns : goal.returns
returns g c = every-run g.S.Stage.held g.S.Stage.rule g.H.ConditionHash.digest_of g.met.S.Stage.expiry g.met.S.Stage.once
