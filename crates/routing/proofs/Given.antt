-- The routes that are given, as plain values: one step of a check over them, and of the copy of them. Assumes nothing.
use Rattle.std.proofs.Common.{◌≡◌, ℕ, ◌+◌, ◌<◌, ◌≤◌, Bool, ◌&&◌, ◌||◌, List, [], ◌∷◌, ◌++◌, length, get_or, take, drop, sym, refl, ap, ◌∙◌, subst, arith}
use Rattle.std.specs.Str.{bytes_eq}
use Rattle.std.specs.List.{AllByRecursion, list_any}
use Rattle.std.proofs.ByRecursion.{All-get_or}
use Rattle.std.proofs.lemmas.List.{at_drop_more, map_push, map_more, get_or-map, length-map}
use Rattle.routing.specs.declared.entry.Entry.{Entry}
use Rattle.routing.specs.declared.route.Route.{Route}
use Rattle.routing.specs.Entries.{given_route, given_list, entry_route, route_list}
use Rattle.routing.specs.Routes.{RouteValue, route_fits, each_fits, has_prefix}

-- each route from i on fits if the one at i does, as t says, and each behind it
pub each_next : (a : ℕ) (rs : List Route) (i : ℕ) (d : Route) (t : Bool) → i < length rs → t ≡ route_fits a (given_route (get_or rs i d)) → each_fits a (given_list (drop i rs)) ≡ (t && each_fits a (given_list (drop (i + 1) rs)))
each_next a rs i d t l e =
    at_drop_more (λ xs. each_fits a (given_list xs)) rs i d l ∙ ap (λ x. x && each_fits a (given_list (drop (i + 1) rs))) (sym e)

-- a prefix among the routes that are given
pub any-given : (p : List ℕ) (rs : List Route) → list_any (λ r. bytes_eq r.prefix.now p) rs ≡ has_prefix (given_list rs) p
any-given p [] = refl
any-given p (r ∷ rs) = ap (λ x. bytes_eq r.prefix.now p || x) (any-given p rs)

-- a route of a list of short ones is short
pub short-at : (rs : List Route) (i : ℕ) (d : Route) → i < length rs → AllByRecursion (λ (r : RouteValue). length r.prefix ≤ 64) (given_list rs) → length (get_or rs i d).prefix.now ≤ 64
short-at rs i d l short =
    subst (λ (r : RouteValue). length r.prefix ≤ 64) (get_or-map given_route rs i d (given_route d) l)
    (All-get_or (λ (r : RouteValue). length r.prefix ≤ 64) (given_list rs) i (given_route d) (omega (arith, length-map rs given_route)) short)

-- one entry more is one route more
pub copied_next : (rs : List Route) (i : ℕ) (d : Route) (es : List Entry) (e : Entry) (fs : List Entry) → i < length rs → route_list es ≡ given_list (take i rs) → entry_route e ≡ given_route (get_or rs i d) → fs ≡ es ++ (e ∷ []) → route_list fs ≡ given_list (take (i + 1) rs)
copied_next rs i d es e fs l before last pushed =
    ap route_list pushed ∙ map_push entry_route es e ∙ (λ k. before k ++ (last k ∷ [])) ∙ sym (map_more given_route rs i d l)
