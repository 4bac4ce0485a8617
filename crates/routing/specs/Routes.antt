-- Routes as plain values: which of them make a table, and which one a destination takes. Assumes nothing.
use Rattle.std.specs.Prelude.{◌≡◌, ℕ, ◌<◌, ◌≤◌, Bool, true, cond, not, ◌&&◌, List, [], ◌∷◌, ◌++◌, length, take, Some, None, Option, nat_le, nat_lt}
use Rattle.std.specs.Option.{option_map}
use Rattle.std.specs.List.{ContainsAt, AllByRecursion, list_all, list_any}
use Rattle.std.specs.Str.{bytes_eq}
use Rattle.address.specs.Addresses.{is_prefix}

pub record RouteValue : Type 0 where
  pub prefix : List ℕ
  pub account : ℕ

-- the most routes of a table, and the most bytes of a prefix
abbrev pub most_routes : ℕ
most_routes = 32

abbrev pub longest_prefix : ℕ
longest_prefix = 64

-- one route among so many accounts: its prefix is one and not too long, its account is set up
unfoldable pub route_fits : ℕ → RouteValue → Bool
route_fits accounts r = nat_le (length r.prefix) longest_prefix && is_prefix r.prefix && nat_lt r.account accounts

abbrev pub each_fits : ℕ → List RouteValue → Bool
each_fits accounts = list_all (route_fits accounts)

abbrev pub has_prefix : List RouteValue → List ℕ → Bool
has_prefix rs p = list_any (λ r. bytes_eq r.prefix p) rs

abbrev pub no_prefix_twice : List RouteValue → Bool
no_prefix_twice [] = true
no_prefix_twice (r ∷ rs) = not (has_prefix rs r.prefix) && no_prefix_twice rs

-- the routes that a table may have, among so many accounts
unfoldable pub routes_fit : ℕ → List RouteValue → Bool
routes_fit accounts rs = nat_le (length rs) most_routes && each_fits accounts rs && no_prefix_twice rs

-- a prefix matches a destination that begins with its bytes
unfoldable pub begins : List ℕ → List ℕ → Bool
begins destination p = bytes_eq p (take (length p) destination)

-- what that says: the destination is the prefix and some rest
abbrev pub Begins : List ℕ → List ℕ → Type 0
Begins destination p = (rest : List ℕ) × (destination ≡ p ++ rest)

-- a look-up goes over the routes and keeps the best so far, until a longer one matches
abbrev pub longer_than : Option RouteValue → RouteValue → Bool
longer_than None r = true
longer_than (Some best) r = nat_lt (length best.prefix) (length r.prefix)

abbrev pub best_with : List ℕ → Option RouteValue → RouteValue → Option RouteValue
best_with destination best r = cond (begins destination r.prefix && longer_than best r) (Some r) best

abbrev pub best_of : List ℕ → Option RouteValue → List RouteValue → Option RouteValue
best_of destination best [] = best
best_of destination best (r ∷ rs) = best_of destination (best_with destination best r) rs

abbrev pub account_of : Option RouteValue → Option ℕ
account_of best = option_map (λ r. r.account) best

-- the account that a destination is forwarded to
unfoldable pub route_for : List RouteValue → List ℕ → Option ℕ
route_for rs destination = account_of (best_of destination None rs)

-- the destination begins with the prefix of this route of the list, and with no longer one of it
pub record IsLongest (rs : List RouteValue) (destination : List ℕ) (r : RouteValue) : Type 0 where
  pub listed : ContainsAt rs r
  pub matches : Begins destination r.prefix
  pub most : AllByRecursion (λ q. Begins destination q.prefix → length q.prefix ≤ length r.prefix) rs

-- an answer by the longest match, and none where nothing matches
abbrev pub Longest : List RouteValue → List ℕ → Option ℕ → Type 0
Longest rs destination (Some a) = (r : RouteValue) × IsLongest rs destination r × (r.account ≡ a)
Longest rs destination None = AllByRecursion (λ q. Begins destination q.prefix → ⊥) rs

-- two routes of the list that match equally far are one: so the longest match is the only one of its length
abbrev pub OneOfALength : List RouteValue → List ℕ → Type 0
OneOfALength rs destination =
    (q r : RouteValue) → ContainsAt rs q → ContainsAt rs r → Begins destination q.prefix → Begins destination r.prefix
    → length q.prefix ≡ length r.prefix → q ≡ r

-- an answer is an account that is set up
abbrev pub Known : ℕ → Option ℕ → Type 0
Known accounts (Some a) = a < accounts
Known accounts None = Unit {0}
