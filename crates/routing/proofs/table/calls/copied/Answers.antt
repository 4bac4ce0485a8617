use Rattle.routing.proofs.Given.{short-at}
use Rattle.routing.proofs.table.calls.copied.Goals as goal

pub new-requires : goal.new-requires
new-requires c = short-at c.args.routes.now c.loop-route.route-index _ c.loop-route-test.true c.requires
