use Rattle.std.proofs.Common.{sym}
use Rattle.routing.specs.Entries.{given_list}
use Rattle.routing.proofs.Fitting.{fit-short}
use Rattle.routing.proofs.table.Routes.new.Goals as goal

pub copied-requires : goal.copied-requires
copied-requires c = fit-short c.args.accounts (given_list c.args.routes.now) (sym c.if-not-routes_fit.ensures)
