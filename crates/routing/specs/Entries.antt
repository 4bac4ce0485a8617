-- The routes that an operator passes in and those that a table holds, as plain values. Assumes nothing.
use Rattle.std.specs.Prelude.{List, map, Option}
use Rattle.std.specs.Borrow.{Bor}
use Rattle.std.specs.Option.{option_map}
use Rattle.wire.specs.Short.{short_bytes}
use Rattle.routing.specs.declared.entry.Entry.{Entry}
use Rattle.routing.specs.declared.route.Route.{Route}
use Rattle.routing.specs.Routes.{RouteValue}

abbrev pub given_route : Route → RouteValue
given_route r = record { prefix = r.prefix.now; account = r.account }

abbrev pub given_list : List Route → List RouteValue
given_list rs = map given_route rs

abbrev pub entry_route : Entry → RouteValue
entry_route e = record { prefix = short_bytes e.prefix; account = e.account }

abbrev pub route_list : List Entry → List RouteValue
route_list es = map entry_route es

-- the best entry so far of a look-up
abbrev pub best_route : Option (Bor Entry) → Option RouteValue
best_route best = option_map (λ e. entry_route e.now) best
