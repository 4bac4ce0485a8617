-- Sums and tests over the rows, as one is added, removed or marked.
use Rattle.std.proofs.Common.{◌≡◌, ℕ, zero, suc, ◌+◌, ◌<◌, ◌≤◌, Bool, true, false, cond, not, ◌&&◌, eqb, ltb, leb, List, [], ◌∷◌, ◌++◌, length, get_or, Some, None, sym, refl, ap, ◌∙◌, subst, arith}
use Rattle.std.proofs.lemmas.Bool.Decides.{nat_tests}
use Rattle.std.proofs.lemmas.Bool.{and_parts, and_from, ltb-true, lt-ltb, eq-eqb, ne_eqb, eqb-true}
use Rattle.pending.specs.declared.row.Pending.{Pending}
use Rattle.pending.specs.Rows.{vacant, lookup, dropped, as_sent, marked}
use Rattle.ledger.specs.Sums.{total, in_at, out_at, every, accounts_fit, is_given, rise}

-- the row that a number finds has that number
pub lookup-number : (n : ℕ) (rs : List Pending) (r : Pending) → lookup n rs ≡ Some r → r.number ≡ n
lookup-number n [] r e = let z : ◌≡◌ {A = ℕ} 0 1 = cc in absurd (omega arith)
lookup-number n (x ∷ rs) r e =
    elim (eqb x.number n)
    as (λ b. eqb x.number n ≡ b → cond b (Some x) (lookup n rs) ≡ Some r → r.number ≡ n) [
      | true ↦ λ t q. let g : x ≡ r = cc in subst (λ (y : Pending). y.number ≡ n) g (eqb-true x.number n t)
      | false ↦ λ t q. lookup-number n rs r q
    ]
    refl
    e

pub total-push : (f : Pending → ℕ) (rs : List Pending) (r : Pending) → total f (rs ++ r ∷ []) ≡ total f rs + f r
total-push f [] r = omega arith
total-push f (x ∷ rs) r = omega (arith, total-push f rs r)

pub total-dropped : (f : Pending → ℕ) (n : ℕ) (rs : List Pending) (r : Pending) → lookup n rs ≡ Some r → total f rs ≡ f r + total f (dropped n rs)
total-dropped f n [] r e = let z : ◌≡◌ {A = ℕ} 0 1 = cc in absurd (omega arith)
total-dropped f n (x ∷ rs) r e =
    elim (eqb x.number n)
    as (λ b. cond b (Some x) (lookup n rs) ≡ Some r → f x + total f rs ≡ f r + total f (cond b rs (x ∷ dropped n rs))) [
      | true ↦ λ q. let g : x ≡ r = cc in ap (λ y. f y + total f rs) g
      | false ↦ λ q. omega (arith, total-dropped f n rs r q)
    ]
    e

pub total-marked : (f : Pending → ℕ) → ((r : Pending) → f (as_sent r) ≡ f r) → (n : ℕ) (rs : List Pending) → total f (marked n rs) ≡ total f rs
total-marked f same n [] = refl
total-marked f same n (r ∷ rs) =
    elim (eqb r.number n)
    as (λ b. total f (cond b (as_sent r ∷ rs) (r ∷ marked n rs)) ≡ f r + total f rs)
    [ true ↦ ap (λ v. v + total f rs) (same r) | false ↦ ap (λ v. f r + v) (total-marked f same n rs) ]

pub every-push : (p : Pending → Bool) (rs : List Pending) (r : Pending) → every p rs ≡ true → p r ≡ true → every p (rs ++ r ∷ []) ≡ true
every-push p [] r h e = and_from (p r) true e refl
every-push p (x ∷ rs) r h e =
    let two = and_parts (p x) (every p rs) h in
    and_from (p x) (every p (rs ++ r ∷ [])) two.0 (every-push p rs r two.1 e)

pub every-dropped : (p : Pending → Bool) (n : ℕ) (rs : List Pending) → every p rs ≡ true → every p (dropped n rs) ≡ true
every-dropped p n [] h = refl
every-dropped p n (r ∷ rs) h =
    let two = and_parts (p r) (every p rs) h in
    elim (eqb r.number n)
    as (λ b. every p (cond b rs (r ∷ dropped n rs)) ≡ true)
    [ true ↦ two.1 | false ↦ and_from (p r) (every p (dropped n rs)) two.0 (every-dropped p n rs two.1) ]

pub every-marked : (p : Pending → Bool) → ((r : Pending) → p (as_sent r) ≡ p r) → (n : ℕ) (rs : List Pending) → every p (marked n rs) ≡ every p rs
every-marked p same n [] = refl
every-marked p same n (r ∷ rs) =
    elim (eqb r.number n)
    as (λ b. every p (cond b (as_sent r ∷ rs) (r ∷ marked n rs)) ≡ (p r && every p rs))
    [ true ↦ ap (λ v. v && every p rs) (same r) | false ↦ ap (λ v. p r && v) (every-marked p same n rs) ]

pub every_one : (p : Pending → Bool) (n : ℕ) (rs : List Pending) (r : Pending) → lookup n rs ≡ Some r → every p rs ≡ true → p r ≡ true
every_one p n [] r e h = let z : ◌≡◌ {A = ℕ} 0 1 = cc in absurd (omega arith)
every_one p n (x ∷ rs) r e h =
    let two = and_parts (p x) (every p rs) h in
    elim (eqb x.number n)
    as (λ b. cond b (Some x) (lookup n rs) ≡ Some r → p r ≡ true) [
      | true ↦ λ q. let g : x ≡ r = cc in subst (λ y. p y ≡ true) g two.0
      | false ↦ λ q. every_one p n rs r q two.1
    ]
    e

-- a test that implies another
pub every-so : (p q : Pending → Bool) → ((r : Pending) → p r ≡ true → q r ≡ true) → (rs : List Pending) → every p rs ≡ true → every q rs ≡ true
every-so p q so [] h = refl
every-so p q so (r ∷ rs) h =
    let two = and_parts (p r) (every p rs) h in
    and_from (q r) (every q rs) (so r two.0) (every-so p q so rs two.1)

-- numbers that rise
pub rise-from : (m k : ℕ) (rs : List Pending) → k ≤ m → rise m rs ≡ true → rise k rs ≡ true
rise-from m k [] l h = refl
rise-from m k (r ∷ rs) l h =
    let two = and_parts (ltb m r.number) (rise r.number rs) h in
    let a = ltb-true m r.number two.0 in
    and_from (ltb k r.number) (rise r.number rs) (lt-ltb k r.number (omega arith)) two.1

pub rise-push : (m n : ℕ) (rs : List Pending) (x : Pending) → m ≤ n → n < x.number → rise m rs ≡ true → every (is_given n) rs ≡ true → rise m (rs ++ x ∷ []) ≡ true
rise-push m n [] x l g h e = and_from (ltb m x.number) true (lt-ltb m x.number (omega arith)) refl
rise-push m n (r ∷ rs) x l g h e =
    let two = and_parts (ltb m r.number) (rise r.number rs) h in
    let both = and_parts (leb r.number n) (every (is_given n) rs) e in
    and_from (ltb m r.number) (rise r.number (rs ++ x ∷ [])) two.0 (rise-push r.number n rs x (let t = both.0 in grind (arith, nat_tests)) g two.1 both.1)

pub rise-dropped : (m n : ℕ) (rs : List Pending) → rise m rs ≡ true → rise m (dropped n rs) ≡ true
rise-dropped m n [] h = refl
rise-dropped m n (r ∷ rs) h =
    let two = and_parts (ltb m r.number) (rise r.number rs) h in
    let a = ltb-true m r.number two.0 in
    elim (eqb r.number n)
    as (λ b. rise m (cond b rs (r ∷ dropped n rs)) ≡ true) [
      | true ↦ rise-from r.number m rs (omega arith) two.1
      | false ↦ and_from (ltb m r.number) (rise r.number (dropped n rs)) two.0 (rise-dropped r.number n rs two.1)
    ]

pub rise-marked : (m n : ℕ) (rs : List Pending) → rise m (marked n rs) ≡ rise m rs
rise-marked m n [] = refl
rise-marked m n (r ∷ rs) =
    elim (eqb r.number n)
    as (λ b. rise m (cond b (as_sent r ∷ rs) (r ∷ marked n rs)) ≡ (ltb m r.number && rise r.number rs))
    [ true ↦ refl | false ↦ ap (λ v. ltb m r.number && v) (rise-marked r.number n rs) ]

-- where the numbers rise, none is as low as the start
pub none_below : (m n : ℕ) (rs : List Pending) → n ≤ m → rise m rs ≡ true → lookup n rs ≡ None
none_below m n [] l h = refl
none_below m n (r ∷ rs) l h =
    let two = and_parts (ltb m r.number) (rise r.number rs) h in
    let a = ltb-true m r.number two.0 in
    ap (λ b. cond b (Some r) (lookup n rs)) (ne_eqb r.number n (λ e. absurd (omega arith))) ∙ none_below r.number n rs (omega arith) two.1

-- so the row at a place is the one that its number finds
pub above : (m : ℕ) (rs : List Pending) (i : ℕ) → i < length rs → rise m rs ≡ true → m < (get_or rs i vacant).number
above m [] i l h = absurd (omega arith)
above m (r ∷ rs) zero l h = ltb-true m r.number (and_parts (ltb m r.number) (rise r.number rs) h).0
above m (r ∷ rs) (suc i) l h =
    let two = and_parts (ltb m r.number) (rise r.number rs) h in
    let a = ltb-true m r.number two.0 in
    let b = above r.number rs i (omega arith) two.1 in
    omega arith

pub finds-itself : (m : ℕ) (rs : List Pending) (i : ℕ) → i < length rs → rise m rs ≡ true → lookup (get_or rs i vacant).number rs ≡ Some (get_or rs i vacant)
finds-itself m [] i l h = absurd (omega arith)
finds-itself m (r ∷ rs) zero l h = ap (λ b. cond b (Some r) (lookup r.number rs)) (eq-eqb r.number r.number refl)
finds-itself m (r ∷ rs) (suc i) l h =
    let two = and_parts (ltb m r.number) (rise r.number rs) h in
    let a = above r.number rs i (omega arith) two.1 in
    ap (λ b. cond b (Some r) (lookup (get_or rs i vacant).number rs)) (ne_eqb r.number (get_or rs i vacant).number (λ e. absurd (omega arith)))
    ∙ finds-itself r.number rs i (omega arith) two.1

-- what a row counts for its own accounts, and for others
pub in-own : (r : Pending) (a : ℕ) → a ≡ r.sender → in_at a r ≡ r.amount_in
in-own r a e = ap (λ b. cond b r.amount_in 0) (eq-eqb r.sender a (sym e))

pub in-other : (r : Pending) (a : ℕ) → (a ≡ r.sender → ⊥) → in_at a r ≡ 0
in-other r a e = ap (λ b. cond b r.amount_in 0) (ne_eqb r.sender a (λ q. e (sym q)))

pub out-own : (r : Pending) (a : ℕ) → a ≡ r.outgoing → out_at a r ≡ r.amount_out
out-own r a e = ap (λ b. cond b r.amount_out 0) (eq-eqb r.outgoing a (sym e))

pub out-other : (r : Pending) (a : ℕ) → (a ≡ r.outgoing → ⊥) → out_at a r ≡ 0
out-other r a e = ap (λ b. cond b r.amount_out 0) (ne_eqb r.outgoing a (λ q. e (sym q)))

-- the two accounts of a row, and that a row has such accounts
pub record Placed (count : ℕ) (r : Pending) : Type 0 where
  pub sender : r.sender < count
  pub outgoing : r.outgoing < count
  pub differ : r.sender ≡ r.outgoing → ⊥

pub placed : (count : ℕ) (r : Pending) → accounts_fit count r ≡ true → Placed count r
placed count r h =
    let one = and_parts (ltb r.sender count && ltb r.outgoing count) (not (eqb r.sender r.outgoing)) h in
    let two = and_parts (ltb r.sender count) (ltb r.outgoing count) one.0 in
    record { sender = ltb-true r.sender count two.0; outgoing = ltb-true r.outgoing count two.1; differ = λ e. let t = one.1 in let s = eq-eqb r.sender r.outgoing e in grind (arith, nat_tests) }
