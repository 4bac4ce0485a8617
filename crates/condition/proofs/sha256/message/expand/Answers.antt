use Rattle.std.proofs.Common.{refl, arith, rules}
use Rattle.std.proofs.lemmas.List.{length-set, take_all}
use Rattle.condition.specs.Sha256.{schedule}
use Rattle.condition.proofs.Steps.{schedule-step}
use Rattle.condition.proofs.sha256.message.expand.Goals as goal

pub loop-t-init : goal.loop-t-init
unfolding schedule
loop-t-init c = (refl, refl)

pub loop-t-preserved : goal.loop-t-preserved
loop-t-preserved c = (
  schedule-step c.args.block.now c.loop-t.w c.loop-t.t _ (omega arith) c.loop-t.invariant.0 c.schedule_word.ensures,
  simp length-set c.loop-t.invariant.1,
)

pub returns : goal.returns
returns c = search (rules, take_all)
