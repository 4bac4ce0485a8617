use Rattle.std.proofs.Common.{◌≡◌, ◌≤◌, length, take, vec_items, vec_len, vec_capacity}
use Rattle.routing.specs.Entries.{given_list, route_list}
use Rattle.routing.proofs.table.calls.copied.Given as goal

abbrev pub invariant-loop-route : goal.invariant-loop-route
invariant-loop-route l =
    (route_list (vec_items l.entries) ≡ given_list (take l.route-index l.routes))
    × (vec_len l.entries ≡ l.route-index)
    × (length l.routes ≤ vec_capacity l.entries)
