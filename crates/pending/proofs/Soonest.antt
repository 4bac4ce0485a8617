-- The row that ends first: it is one of the rows, and none ends before it.
use Rattle.std.proofs.Common.{◌≡◌, ℕ, zero, suc, ◌<◌, ◌≤◌, true, false, cond, List, [], ◌∷◌, length, get_or, Some, None, refl, ap, ◌∙◌, subst, inl, inr, ⊎_elim, arith}
use Rattle.std.proofs.lemmas.Bool.Decides.{nat_tests}
use Rattle.pending.specs.declared.row.Pending.{Pending}
use Rattle.pending.specs.Rows.{vacant, ends_before, earliest_from, earliest, if_reached, NotAfter, FirstExpired}
use Rattle.pending.specs.Tables.{EarliestAt, DueAt}

same-time : (p : Pending) → NotAfter p p
same-time p = inr (refl, omega arith)

then-after : (p q r : Pending) → NotAfter p q → NotAfter q r → NotAfter p r
then-after p q r (inl a) (inl b) = inl (omega arith)
then-after p q r (inl a) (inr b) = inl (omega (arith, b.0))
then-after p q r (inr a) (inl b) = inl (omega (arith, a.0))
then-after p q r (inr a) (inr b) = inr (a.0 ∙ b.0, omega (arith, a.1, b.1))

later : (p r : Pending) → ends_before r p ≡ false → NotAfter p r
later p r h =
    ⊎_elim
    (λ (l : p.expiry < r.expiry). inl l)
    (λ (l : p.expiry ≡ r.expiry). inr (l, grind (arith, nat_tests)))
    (grind (arith, nat_tests))

sooner : (p r : Pending) → ends_before r p ≡ true → NotAfter r p
sooner p r h = grind (arith, nat_tests)

-- the sooner of two rows is after neither
chosen : (p r : Pending) → NotAfter (cond (ends_before r p) r p) p × NotAfter (cond (ends_before r p) r p) r
chosen p r =
    elim (ends_before r p)
    as (λ b. ends_before r p ≡ b → NotAfter (cond b r p) p × NotAfter (cond b r p) r)
    [ true ↦ λ e. (sooner p r e, same-time r) | false ↦ λ e. (same-time p, later p r e) ]
    refl

pub soonest-from : (p : Pending) (rs : List Pending) → NotAfter (earliest_from p rs) p × ((k : ℕ) → k < length rs → NotAfter (earliest_from p rs) (get_or rs k vacant))
soonest-from p [] = (same-time p, λ k l. absurd (omega arith))
soonest-from p (r ∷ rs) =
    let q = cond (ends_before r p) r p in
    let ih = soonest-from q rs in
    let two = chosen p r in (
      then-after (earliest_from q rs) q p ih.0 two.0,
      λ k l. elim k as (λ (j : ℕ). j < length (r ∷ rs) → NotAfter (earliest_from q rs) (get_or (r ∷ rs) j vacant)) [ zero ↦ λ g. then-after (earliest_from q rs) q r ih.0 two.1 | suc j ↦ λ g. ih.1 j (omega arith) ] l,
    )

-- of any rows, none ends before the earliest
pub soonest : (rs : List Pending) (p : Pending) → earliest rs ≡ Some p → (k : ℕ) → k < length rs → NotAfter p (get_or rs k vacant)
soonest [] p e k l = absurd (omega arith)
soonest (r ∷ rs) p e zero l = let g : earliest_from r rs ≡ p = cc in subst (λ q. NotAfter q r) g (soonest-from r rs).0
soonest (r ∷ rs) p e (suc k) l = let g : earliest_from r rs ≡ p = cc in subst (λ q. NotAfter q (get_or rs k vacant)) g ((soonest-from r rs).1 k (omega arith))

after : (p q : Pending) (t : ℕ) → t < p.expiry → NotAfter p q → t < q.expiry
after p q t l (inl a) = omega arith
after p q t l (inr a) = omega (arith, a.0)

-- what the place of the earliest row gives at a time
pub reached : (rs : List Pending) (t i : ℕ) → EarliestAt rs (Some i) → (get_or rs i vacant).expiry ≤ t → DueAt rs t (Some i) × FirstExpired rs t (Some i)
reached rs t i e l = (
  (
    e.0,
    ap (if_reached t) e.1 ∙ grind (arith, nat_tests),
  ),
  (e.0, l, λ k h. soonest rs (get_or rs i vacant) e.1 k h),
)

pub not-reached : (rs : List Pending) (t i : ℕ) → EarliestAt rs (Some i) → t < (get_or rs i vacant).expiry → DueAt rs t None × FirstExpired rs t None
not-reached rs t i e l = (
  ap (if_reached t) e.1 ∙ grind (arith, nat_tests),
  λ k h. after (get_or rs i vacant) (get_or rs k vacant) t l (soonest rs (get_or rs i vacant) e.1 k h),
)
