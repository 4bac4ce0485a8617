use Rattle.std.proofs.Common.{◌≡◌, None, drop}
use Rattle.routing.specs.Entries.{route_list, best_route}
use Rattle.routing.specs.Routes.{best_of}
use Rattle.routing.proofs.table.Routes.best.Given as goal

abbrev pub invariant-loop-entry : goal.invariant-loop-entry
invariant-loop-entry l =
    best_of l.destination (best_route l.best) (route_list (drop l.entry-index l.entry-items)) ≡ best_of l.destination None (route_list l.entry-items)
