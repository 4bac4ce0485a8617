use Rattle.std.proofs.Common.{arith}
use Rattle.std.proofs.lemmas.List.{length-map}
use Rattle.std.proofs.lemmas.Bool.Decides.{nat_tests}
use Rattle.routing.specs.Entries.{given_route}
use Rattle.routing.specs.Routes.{routes_fit}
use Rattle.routing.proofs.check.routes_fit.Goals as goal

pub returns-then-each_fits : goal.returns-then-each_fits
unfolding routes_fit
returns-then-each_fits c =
    let n = length-map c.args.routes.now given_route in
    grind (arith, nat_tests)

pub returns-else-each_fits : goal.returns-else-each_fits
unfolding routes_fit
returns-else-each_fits c =
    let n = length-map c.args.routes.now given_route in
    grind (arith, nat_tests)
