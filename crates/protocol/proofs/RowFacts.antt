-- Lemmas on rows and their numbers.
use Rattle.std.proofs.Common.{◌≡◌, ℕ, zero, suc, ◌+◌, ◌<◌, ◌≤◌, Bool, true, false, cond, ◌&&◌, eqb, ltb, leb, ◌⊎◌, List, [], ◌∷◌, length, get_or, Some, None, Option, sym, refl, ◌∙◌, subst, inl, inr, ⊎_elim, arith}
use Rattle.std.proofs.lemmas.Bool.Decides.{nat_tests}
use Rattle.std.specs.List.{AllByRecursion}
use Rattle.stage.specs.Numbers.{among, none_twice, without}
use Rattle.stage.proofs.OpenLists.{without-none}
use Rattle.pending.specs.declared.row.Pending.{Pending}
use Rattle.pending.specs.Rows.{vacant, lookup, dropped, as_sent, marked, ends_before, earliest_from, earliest, if_reached, due}
use Rattle.ledger.specs.Sums.{total}
use Rattle.protocol.specs.Runs.{numbers_of}

pub numbers-marked : (n : ℕ) (rs : List Pending) → numbers_of (marked n rs) ≡ numbers_of rs
numbers-marked n [] = refl
numbers-marked n (r ∷ rs) = let k = numbers-marked n rs in grind (arith, nat_tests)

-- where no number stands twice, the numbers without one are those of the rows without its row
pub numbers-dropped : (n : ℕ) (rs : List Pending) → none_twice (numbers_of rs) ≡ true → without (numbers_of rs) n ≡ numbers_of (dropped n rs)
numbers-dropped n [] d = refl
numbers-dropped n (r ∷ rs) d = let k = numbers-dropped n rs in let e = without-none (numbers_of rs) n in grind (arith, nat_tests)

-- what is at a place is among the numbers
at-among : (rs : List Pending) (i : ℕ) → i < length rs → among (numbers_of rs) (get_or rs i vacant).number ≡ true
at-among [] i l = absurd (omega arith)
at-among (r ∷ rs) zero l = grind (arith, nat_tests)
at-among (r ∷ rs) (suc i) l = let k = at-among rs i (omega arith) in grind (arith, nat_tests)

-- where no number stands twice, a row is the one that its number finds
pub finds-its-row : (rs : List Pending) (i : ℕ) → i < length rs → none_twice (numbers_of rs) ≡ true → lookup (get_or rs i vacant).number rs ≡ Some (get_or rs i vacant)
finds-its-row [] i l d = absurd (omega arith)
finds-its-row (r ∷ rs) zero l d = grind (arith, nat_tests)
finds-its-row (r ∷ rs) (suc i) l d = let k = finds-its-row rs i in let there = at-among rs i (omega arith) in grind (arith, nat_tests)

-- the row that ends first is the one at hand or one of the others
abbrev FirstOf : Pending → Pending → List Pending → Type 0
FirstOf e p rs = (e ≡ p) ⊎ ((i : ℕ) × (i < length rs) × (e ≡ get_or rs i vacant))

here-or-later : (p r : Pending) (rs : List Pending) (b : Bool) → FirstOf (earliest_from r rs) r rs → FirstOf (earliest_from p rs) p rs → FirstOf (earliest_from (cond b r p) rs) p (r ∷ rs)
here-or-later p r rs true (inl e) g = inr (0, omega arith, e)
here-or-later p r rs true (inr f) g = inr (suc f.0, omega (arith, f.1), f.2)
here-or-later p r rs false f (inl e) = inl e
here-or-later p r rs false f (inr g) = inr (suc g.0, omega (arith, g.1), g.2)

first_of : (p : Pending) (rs : List Pending) → FirstOf (earliest_from p rs) p rs
first_of p [] = inl refl
first_of p (r ∷ rs) = here-or-later p r rs (ends_before r p) (first_of r rs) (first_of p rs)

earliest-place : (rs : List Pending) (r : Pending) → earliest rs ≡ Some r → (i : ℕ) × (i < length rs) × (get_or rs i vacant ≡ r)
earliest-place [] r e = absurd cc
earliest-place (p ∷ rs) r e =
    let g : earliest_from p rs ≡ r = cc in
    ⊎_elim
    (λ (h : earliest_from p rs ≡ p). (0, omega arith, sym h ∙ g))
    (λ (f : (i : ℕ) × (i < length rs) × (earliest_from p rs ≡ get_or rs i vacant)). (suc f.0, omega (arith, f.1), sym f.2 ∙ g))
    (first_of p rs)

-- a row that is due is found by its number
pub due-found : (now : ℕ) (rs : List Pending) (r : Pending) → none_twice (numbers_of rs) ≡ true → due now rs ≡ Some r → lookup r.number rs ≡ Some r
due-found now rs r d e = go (earliest rs) refl e
  where
    there : earliest rs ≡ Some r → lookup r.number rs ≡ Some r
    there t = let f = earliest-place rs r t in subst (λ (q : Pending). lookup q.number rs ≡ Some q) f.2 (finds-its-row rs f.0 f.1 d)

    pick : (q : Pending) (b : Bool) → earliest rs ≡ Some q → cond b (Some q) None ≡ Some r → lookup r.number rs ≡ Some r
    pick q true t w = there (t ∙ w)
    pick q false t w = absurd cc

    go : (o : Option Pending) → earliest rs ≡ o → if_reached now o ≡ Some r → lookup r.number rs ≡ Some r
    go None t w = absurd cc
    go (Some q) t w = pick q (leb q.expiry now) t w

-- what holds of each row
pub all-dropped : (Q : Pending → Type 0) (n : ℕ) (rs : List Pending) → AllByRecursion Q rs → AllByRecursion Q (dropped n rs)
all-dropped Q n [] h = tt
all-dropped Q n (r ∷ rs) h =
    elim (eqb r.number n) as (λ b. AllByRecursion Q (cond b rs (r ∷ dropped n rs))) [ true ↦ h.1 | false ↦ (h.0, all-dropped Q n rs h.1) ]

pub all-marked : (Q : Pending → Type 0) → ((r : Pending) → Q r → Q (as_sent r)) → (n : ℕ) (rs : List Pending) → AllByRecursion Q rs → AllByRecursion Q (marked n rs)
all-marked Q f n [] h = tt
all-marked Q f n (r ∷ rs) h =
    elim (eqb r.number n) as (λ b. AllByRecursion Q (cond b (as_sent r ∷ rs) (r ∷ marked n rs))) [ true ↦ (f r h.0, h.1) | false ↦ (h.0, all-marked Q f n rs h.1) ]

pub all_found : (Q : Pending → Type 0) (n : ℕ) (rs : List Pending) (r : Pending) → lookup n rs ≡ Some r → AllByRecursion Q rs → Q r
all_found Q n [] r e h = absurd cc
all_found Q n (x ∷ rs) r e h =
    elim (eqb x.number n)
    as (λ b. cond b (Some x) (lookup n rs) ≡ Some r → Q r)
    [ true ↦ λ q. let g : x ≡ r = cc in subst Q g h.0 | false ↦ λ q. all_found Q n rs r q h.1 ]
    e

-- 1 for the row of a number, and 1 for a number that has been given: from 1 to the last
abbrev pub numbered : ℕ → Pending → ℕ
numbered n r = cond (eqb r.number n) 1 0

abbrev pub given : ℕ → ℕ → ℕ
given last n = cond (ltb 0 n && leb n last) 1 0

pub given-more : (last n : ℕ) → given (last + 1) n ≡ given last n + cond (eqb (last + 1) n) 1 0
given-more last n = grind (arith, nat_tests)

pub given-none : (n : ℕ) → given 0 n ≡ 0
given-none n = grind (arith, nat_tests)

pub given-one : (last n : ℕ) → 0 < n → n ≤ last → given last n ≡ 1
given-one last n l h = grind (arith, nat_tests)

-- how many rows have a number, and whether one is found
pub counted_none : (n : ℕ) (rs : List Pending) → total (numbered n) rs ≡ 0 → lookup n rs ≡ None
counted_none n [] h = refl
counted_none n (r ∷ rs) h = let k = counted_none n rs in grind (arith, nat_tests)

pub counted-some : (n : ℕ) (rs : List Pending) → total (numbered n) rs ≡ 1 → (r : Pending) × (lookup n rs ≡ Some r)
counted-some n [] h = absurd (omega arith)
counted-some n (r ∷ rs) h =
    elim (eqb r.number n)
    as (λ b. cond {A = ℕ} b 1 0 + total (numbered n) rs ≡ 1 → (q : Pending) × (cond b (Some r) (lookup n rs) ≡ Some q))
    [ true ↦ λ q. (r, refl) | false ↦ λ q. counted-some n rs (omega arith) ]
    h
