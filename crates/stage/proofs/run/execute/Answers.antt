use Rattle.std.proofs.Common.{vec_items, subst, arith, take_all}
use Rattle.stage.specs.Runs.{Step}
use Rattle.stage.proofs.Executed.{run-next, runs-keep}
use Rattle.stage.proofs.run.execute.Goals as goal

pub loop-change-preserved : goal.loop-change-preserved
loop-change-preserved g c =
    let held = g.S.Stage.held in
    let rule = g.S.Stage.rule in
    let before = c.loop-change.stage in
    let after = c.apply.new.stage in
    let done = c.loop-change.change-index in
    let step = subst (λ x. Step held rule before x c.apply.result after) c.change-item.is c.apply.ensures in
    let more = run-next held rule c.args.stage.now before after c.args.changes.now (vec_items c.loop-change.answers) done c.change-item.result c.apply.result c.loop-change-test.true c.loop-change.invariant.0 step in
    (rw c.push_reserved.ensures.items more, omega arith, omega arith)

pub returns : goal.returns
returns g c =
    let keeps = runs-keep g.S.Stage.held g.S.Stage.rule g.met.S.Stage.once in
    let ran = rw (take_all _ c.args.changes.now c.loop-change-test.false) at c.loop-change.invariant.0 in
    record { run = ran; numbers = (keeps _ _ _ _ ran).0; every_run = keeps }

pub returns-in_err-answers-clause-every_run : goal.returns-in_err-answers-clause-every_run
returns-in_err-answers-clause-every_run g c = runs-keep g.S.Stage.held g.S.Stage.rule g.met.S.Stage.once
