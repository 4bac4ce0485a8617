use Rattle.std.proofs.Common.{arith}
use Rattle.std.proofs.lemmas.Bool.Decides.{nat_tests}
use Rattle.routing.specs.Routes.{route_fits}
use Rattle.routing.proofs.check.route_fits.Goals as goal

pub returns-then-is_prefix : goal.returns-then-is_prefix
unfolding route_fits
returns-then-is_prefix c = grind (arith, nat_tests)

pub returns-else-is_prefix : goal.returns-else-is_prefix
unfolding route_fits
returns-else-is_prefix c = grind (arith, nat_tests)
