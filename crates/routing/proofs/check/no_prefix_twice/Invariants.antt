use Rattle.std.proofs.Common.{◌≡◌, drop}
use Rattle.routing.specs.Entries.{given_list}
use Rattle.routing.specs.Routes.{no_prefix_twice}
use Rattle.routing.proofs.check.no_prefix_twice.Given as goal

abbrev pub invariant-loop-i : goal.invariant-loop-i
invariant-loop-i l = no_prefix_twice (given_list (drop l.i l.routes)) ≡ no_prefix_twice (given_list l.routes)
