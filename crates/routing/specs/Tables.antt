-- What a table holds, and when one is made. Assumes nothing.
use Rattle.std.specs.Prelude.{◌≡◌, ℕ, true, false, List, Ok, Err, vec_items, Result}
use Rattle.routing.specs.declared.refusal.NotMade.{NotMade}
use Rattle.routing.specs.declared.refusal.NotMade.TheVariants.{Refused, NoMemory}
use Rattle.routing.specs.declared.table.Routes.{Routes}
use Rattle.routing.specs.Entries.{route_list}
use Rattle.routing.specs.Routes.{RouteValue, routes_fit}

-- its routes, in the order given
abbrev pub listed : Routes → List RouteValue
listed t = route_list (vec_items t.entries)

abbrev pub RoutesMade : ℕ → List RouteValue → Result Routes NotMade → Type 0
RoutesMade accounts given (Ok t) = (routes_fit accounts given ≡ true) × (listed t ≡ given) × (t.accounts ≡ accounts)
RoutesMade accounts given (Err Refused) = routes_fit accounts given ≡ false
RoutesMade accounts given (Err NoMemory) = routes_fit accounts given ≡ true
