-- What holds of each route of a table. Assumes nothing.
use Rattle.std.proofs.Common.{◌≡◌, ℕ, zero, suc, ◌<◌, ◌≤◌, true, not, ◌⊎◌, List, [], ◌∷◌, length, sym, ap, ◌∙◌, inl, inr, arith}
use Rattle.std.specs.List.{ContainsAt, AllByRecursion}
use Rattle.std.proofs.lemmas.Slice.Eq.{bytes_eq-Decides}
use Rattle.std.proofs.lemmas.Bool.{and_parts, both_ways, not-true, or_left, or_right}
use Rattle.std.proofs.lemmas.Bool.Decides.{nat_tests}
use Rattle.routing.specs.Routes.{RouteValue, route_fits, each_fits, has_prefix, no_prefix_twice, routes_fit}

route-short : (a : ℕ) (r : RouteValue) → route_fits a r ≡ true → length r.prefix ≤ 64
unfolding route_fits
route-short a r h = grind (arith, nat_tests)

route-known : (a : ℕ) (r : RouteValue) → route_fits a r ≡ true → r.account < a
unfolding route_fits
route-known a r h = grind (arith, nat_tests)

each_all : (P : RouteValue → Type 0) (a : ℕ) (rs : List RouteValue) → ((r : RouteValue) → route_fits a r ≡ true → P r) → each_fits a rs ≡ true → AllByRecursion P rs
each_all P a [] f h = tt
each_all P a (r ∷ rs) f h =
    let both = and_parts (route_fits a r) (each_fits a rs) h in
    (f r both.0, each_all P a rs f both.1)

fit-each : (a : ℕ) (rs : List RouteValue) → routes_fit a rs ≡ true → each_fits a rs ≡ true
unfolding routes_fit
fit-each a rs h = grind (arith, nat_tests)

pub fit-once : (a : ℕ) (rs : List RouteValue) → routes_fit a rs ≡ true → no_prefix_twice rs ≡ true
unfolding routes_fit
fit-once a rs h = grind (arith, nat_tests)

pub fit-short : (a : ℕ) (rs : List RouteValue) → routes_fit a rs ≡ true → AllByRecursion (λ r. length r.prefix ≤ 64) rs
fit-short a rs h = each_all (λ r. length r.prefix ≤ 64) a rs (route-short a) (fit-each a rs h)

pub fit-known : (a : ℕ) (rs : List RouteValue) → routes_fit a rs ≡ true → AllByRecursion (λ r. r.account < a) rs
fit-known a rs h = each_all (λ r. r.account < a) a rs (route-known a) (fit-each a rs h)

-- a route of a list is the first or one of the others
has-cases : (x : RouteValue) (xs : List RouteValue) (y : RouteValue) → ContainsAt (x ∷ xs) y → (x ≡ y) ⊎ ContainsAt xs y
has-cases x xs y (zero, l, at) = inl (at x)
has-cases x xs y (suc k, l, at) = inr (k, omega arith, λ d. at d)

has-none : (y : RouteValue) → ContainsAt [] y → ⊥
has-none y (k, l, at) = omega arith

has-prefix : (rs : List RouteValue) (q : RouteValue) (p : List ℕ) → ContainsAt rs q → q.prefix ≡ p → has_prefix rs p ≡ true
has-prefix [] q p h e = absurd (has-none q h)
has-prefix (r ∷ rs) q p h e =
    elim (has-cases r rs q h)
    [ inl f ↦ or_left _ (has_prefix rs p) ((bytes_eq-Decides r.prefix p).1 (ap (λ x. x.prefix) f ∙ e)) | inr m ↦ or_right _ (has_prefix rs p) (has-prefix rs q p m e) ]

-- where no prefix stands twice, one prefix is one route
pub one-of-a-prefix : (rs : List RouteValue) (q r : RouteValue) → no_prefix_twice rs ≡ true → ContainsAt rs q → ContainsAt rs r → q.prefix ≡ r.prefix → q ≡ r
one-of-a-prefix [] q r once hq hr e = absurd (has-none q hq)
one-of-a-prefix (x ∷ xs) q r once hq hr e =
    let both = and_parts (not (has_prefix xs x.prefix)) (no_prefix_twice xs) once in
    let only : (y : RouteValue) → ContainsAt xs y → y.prefix ≡ x.prefix → q ≡ r = λ y h f. absurd (both_ways _ (not-true _ both.0) (has-prefix xs y x.prefix h f)) in
    elim (has-cases x xs q hq) [
      | inl f ↦ elim (has-cases x xs r hr) [ inl g ↦ sym f ∙ g | inr m ↦ only r m (sym e ∙ ap (λ y. y.prefix) (sym f)) ]
      | inr n ↦ elim (has-cases x xs r hr)
          [ inl g ↦ only q n (e ∙ ap (λ y. y.prefix) (sym g)) | inr m ↦ one-of-a-prefix xs q r both.1 n m e ]
    ]
