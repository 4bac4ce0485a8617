-- A look-up that goes over the routes gives the longest match, and there is but one. Assumes nothing.
use Rattle.std.proofs.Common.{◌≡◌, ℕ, ◌<◌, ◌≤◌, Bool, true, false, cond, ◌&&◌, List, [], ◌∷◌, ◌++◌, ◌+◌, length, get_or, take, drop, Some, None, Option, sym, refl, ap, ◌∙◌, subst, le_refl, arith}
use Rattle.std.specs.List.{AllByRecursion}
use Rattle.std.proofs.ByRecursion.{All-push, All-weaker, all-has, has_push, has_append_left}
use Rattle.std.proofs.lemmas.List.{append-nil, append_assoc, at_drop_more}
use Rattle.std.proofs.lemmas.Bool.{ltb-true, ltb-false}
use Rattle.std.proofs.lemmas.Bool.Decides.{not_from_Decides}
use Rattle.routing.specs.declared.entry.Entry.{Entry}
use Rattle.routing.specs.Entries.{entry_route, route_list}
use Rattle.routing.specs.Routes.{RouteValue, no_prefix_twice, routes_fit, begins, Begins, longer_than, best_with, best_of, account_of, route_for, IsLongest, Longest, OneOfALength, Known}
use Rattle.routing.proofs.Fitting.{fit-known, one-of-a-prefix}
use Rattle.routing.proofs.Matching.{front_bytes, begins-decides}

-- the entry at a place, of those that are left: t says whether it is better
pub best-next : (d : List ℕ) (best after : Option RouteValue) (es : List Entry) (i : ℕ) (e : Entry) (t : Bool) → i < length es → e ≡ get_or es i e → (begins d (entry_route e).prefix && longer_than best (entry_route e)) ≡ t → after ≡ cond t (Some (entry_route e)) best → best_of d after (route_list (drop (i + 1) es)) ≡ best_of d best (route_list (drop i es))
best-next d best after es i e t there is test is-after =
    let rest = route_list (drop (i + 1) es) in
    ap (λ b. best_of d b rest) is-after
    ∙ sym (ap (λ b. best_of d (cond b (Some (entry_route e)) best) rest) test)
    ∙ ap (λ (x : Entry). best_of d best (entry_route x ∷ rest)) is
    ∙ sym (at_drop_more (λ xs. best_of d best (route_list xs)) es i e there)

-- the best route so far is the longest match of those that were looked at
abbrev Best : List RouteValue → List ℕ → Option RouteValue → Type 0
Best rs d (Some r) = IsLongest rs d r
Best rs d None = AllByRecursion (λ q. Begins d q.prefix → ⊥) rs

-- one more where none matched
first-match : (rs : List RouteValue) (d : List ℕ) (r : RouteValue) (t : Bool) → begins d r.prefix ≡ t → Best rs d None → Best (rs ++ (r ∷ [])) d (cond (t && true) (Some r) None)
first-match rs d r true e none =
    record {
      listed = has_push rs r;
      matches = (begins-decides d r.prefix).0 e;
      most =
          All-push (λ q. Begins d q.prefix → length q.prefix ≤ length r.prefix) rs r
          (All-weaker (λ q. Begins d q.prefix → ⊥) (λ q. Begins d q.prefix → length q.prefix ≤ length r.prefix) (λ q no-match match. absurd (no-match match)) rs none)
          (λ _. le_refl (length r.prefix));
    }
first-match rs d r false e none = All-push (λ q. Begins d q.prefix → ⊥) rs r none (not_from_Decides _ (begins-decides d r.prefix) e)

-- one more, which does not beat the best
still-best : (rs : List RouteValue) (d : List ℕ) (b r : RouteValue) → (Begins d r.prefix → length r.prefix ≤ length b.prefix) → IsLongest rs d b → IsLongest (rs ++ (r ∷ [])) d b
still-best rs d b r not-longer h =
    record {
      listed = has_append_left rs (r ∷ []) b h.listed;
      matches = h.matches;
      most = All-push (λ q. Begins d q.prefix → length q.prefix ≤ length b.prefix) rs r h.most not-longer;
    }

-- one more where one matched: t says whether it matches, u whether it is longer
next-match : (rs : List RouteValue) (d : List ℕ) (b r : RouteValue) (t u : Bool) → begins d r.prefix ≡ t → longer_than (Some b) r ≡ u → IsLongest rs d b → Best (rs ++ (r ∷ [])) d (cond (t && u) (Some r) (Some b))
next-match rs d b r true true e f h =
    record {
      listed = has_push rs r;
      matches = (begins-decides d r.prefix).0 e;
      most =
          All-push (λ q. Begins d q.prefix → length q.prefix ≤ length r.prefix) rs r
          (All-weaker (λ q. Begins d q.prefix → length q.prefix ≤ length b.prefix) (λ q. Begins d q.prefix → length q.prefix ≤ length r.prefix) (λ q k match. omega (arith, k match, ltb-true (length b.prefix) (length r.prefix) f)) rs h.most)
          (λ _. le_refl (length r.prefix));
    }
next-match rs d b r true false e f h = still-best rs d b r (λ _. ltb-false (length b.prefix) (length r.prefix) f) h
next-match rs d b r false u e f h = still-best rs d b r (λ match. absurd (not_from_Decides _ (begins-decides d r.prefix) e match)) h

best-with : (rs : List RouteValue) (d : List ℕ) (best : Option RouteValue) (r : RouteValue) → Best rs d best → Best (rs ++ (r ∷ [])) d (best_with d best r)
best-with rs d None r h = first-match rs d r (begins d r.prefix) refl h
best-with rs d (Some b) r h = next-match rs d b r (begins d r.prefix) (longer_than (Some b) r) refl refl h

best-of : (before rs : List RouteValue) (d : List ℕ) (best : Option RouteValue) → Best before d best → Best (before ++ rs) d (best_of d best rs)
best-of before [] d best h = subst (λ xs. Best xs d best) (sym (append-nil before)) h
best-of before (r ∷ rs) d best h =
    subst (λ xs. Best xs d (best_of d (best_with d best r) rs)) (append_assoc before (r ∷ []) rs)
    (best-of (before ++ (r ∷ [])) rs d (best_with d best r) (best-with before d best r h))

best-longest : (rs : List RouteValue) (d : List ℕ) (best : Option RouteValue) → Best rs d best → Longest rs d (account_of best)
best-longest rs d (Some r) h = (r, h, refl)
best-longest rs d None h = h

-- the account of the best route is the answer of a look-up
pub look-up-account : (rs : List RouteValue) (d : List ℕ) (best : Option RouteValue) → best ≡ best_of d None rs → account_of best ≡ route_for rs d
unfolding route_for
look-up-account rs d best e = ap account_of e

-- a look-up answers by the longest match
pub look-up-longest : (rs : List RouteValue) (d : List ℕ) (found : Option ℕ) → found ≡ route_for rs d → Longest rs d found
unfolding route_for
look-up-longest rs d found e = subst (λ (o : Option ℕ). Longest rs d o) (sym e) (best-longest rs d (best_of d None rs) (best-of [] rs d None tt))

-- and by an account that is set up
pub longest-known : (a : ℕ) (rs : List RouteValue) (d : List ℕ) (found : Option ℕ) → routes_fit a rs ≡ true → Longest rs d found → Known a found
longest-known a rs d (Some x) fit (r, h, e) = subst (λ n. n < a) e (all-has (λ q. q.account < a) rs r (fit-known a rs fit) h.listed)
longest-known a rs d None fit h = tt

-- two prefixes of one length with which a destination begins are the same bytes
pub one-of-a-length : (rs : List RouteValue) (d : List ℕ) → no_prefix_twice rs ≡ true → OneOfALength rs d
one-of-a-length rs d once q r hq hr match-q match-r e =
    one-of-a-prefix rs q r once hq hr (front_bytes d q.prefix match-q ∙ ap (λ n. take n d) e ∙ sym (front_bytes d r.prefix match-r))
