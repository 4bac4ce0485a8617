-- The row that is due is found by its number, in every ledger.
use Rattle.std.proofs.Common.{◌≡◌, ℕ, suc, ◌<◌, Bool, true, false, cond, leb, ◌⊎◌, List, [], ◌∷◌, length, get_or, Some, None, Option, sym, refl, ◌∙◌, subst, inl, inr, ⊎_elim, arith}
use Rattle.pending.specs.declared.row.Pending.{Pending}
use Rattle.pending.specs.Rows.{vacant, lookup, ends_before, earliest_from, earliest, if_reached, due}
use Rattle.ledger.specs.declared.ledger.Ledger.{Ledger}
use Rattle.ledger.specs.Views.{view}
use Rattle.ledger.proofs.RowLaws.{finds-itself}

abbrev FirstOf : Pending → Pending → List Pending → Type 0
FirstOf e p rs = (e ≡ p) ⊎ ((i : ℕ) × (i < length rs) × (e ≡ get_or rs i vacant))

here-or-later : (p r : Pending) (rs : List Pending) (b : Bool) → FirstOf (earliest_from r rs) r rs → FirstOf (earliest_from p rs) p rs → FirstOf (earliest_from (cond b r p) rs) p (r ∷ rs)
here-or-later p r rs true (inl e) g = inr (0, omega arith, e)
here-or-later p r rs true (inr f) g = inr (suc f.0, omega (arith, f.1), f.2)
here-or-later p r rs false f (inl e) = inl e
here-or-later p r rs false f (inr g) = inr (suc g.0, omega (arith, g.1), g.2)

first_of : (p : Pending) (rs : List Pending) → FirstOf (earliest_from p rs) p rs
first_of p [] = inl refl
first_of p (r ∷ rs) = here-or-later p r rs (ends_before r p) (first_of r rs) (first_of p rs)

placed : (rs : List Pending) (r : Pending) → earliest rs ≡ Some r → (i : ℕ) × (i < length rs) × (get_or rs i vacant ≡ r)
placed [] r e = let z : ◌≡◌ {A = ℕ} 0 1 = cc in absurd (omega arith)
placed (p ∷ rs) r e =
    let g : earliest_from p rs ≡ r = cc in
    ⊎_elim
    (λ (h : earliest_from p rs ≡ p). (0, omega arith, sym h ∙ g))
    (λ (f : (i : ℕ) × (i < length rs) × (earliest_from p rs ≡ get_or rs i vacant)). (suc f.0, omega (arith, f.1), sym f.2 ∙ g))
    (first_of p rs)

was-earliest : (now : ℕ) (o : Option Pending) (r : Pending) → if_reached now o ≡ Some r → o ≡ Some r
was-earliest now None r e = let z : ◌≡◌ {A = ℕ} 0 1 = cc in absurd (omega arith)
was-earliest now (Some q) r e =
    elim (leb q.expiry now)
    as (λ b. cond b (Some q) None ≡ Some r → Some q ≡ Some r)
    [ true ↦ λ w. w | false ↦ λ w. let z : ◌≡◌ {A = ℕ} 0 1 = cc in absurd (omega arith) ]
    e

pub due-found : (l : Ledger) (now : ℕ) (r : Pending) → Some r ≡ due now (view l).rows → lookup r.number (view l).rows ≡ Some r
due-found l now r e =
    let rs = (view l).rows in
    let f = placed rs r (was-earliest now (earliest rs) r (sym e)) in
    subst (λ (q : Pending). lookup q.number (view l).rows ≡ Some q) f.2 (finds-itself 0 rs f.0 f.1 l.sound.0)
