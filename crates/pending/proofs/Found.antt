-- What the place of a number says of the rows, and what it says that there is none.
use Rattle.std.proofs.Common.{◌≡◌, ℕ, suc, ◌+◌, ◌<◌, true, false, cond, eqb, List, [], ◌∷◌, length, get_or, set, Some, None, sym, refl, ap, ◌∙◌, subst, arith}
use Rattle.std.specs.List.{remove, position_from}
use Rattle.std.proofs.lemmas.Iterator.Adapters.{position_from-zero}
use Rattle.std.proofs.lemmas.List.{length-take-le}
use Rattle.pending.specs.declared.row.Pending.{Pending}
use Rattle.pending.specs.declared.table.PendingTable.{PendingTable}
use Rattle.pending.specs.Rows.{vacant, lookup, dropped, as_sent, marked}
use Rattle.pending.specs.Tables.{rows_of, place}

pub length-rows : (t : PendingTable) → length (rows_of t) ≡ t.len
length-rows t =
    let few = t.few in
    let whole = t.whole in
    length-take-le t.len t.places (omega arith)

pub record Found (n : ℕ) (rs : List Pending) (i : ℕ) : Type 0 where
  pub there : i < length rs
  pub row : lookup n rs ≡ Some (get_or rs i vacant)
  pub rest : dropped n rs ≡ remove rs i
  pub mark : marked n rs ≡ set rs i (as_sent (get_or rs i vacant))

found_here : (n : ℕ) (r : Pending) (rs : List Pending) → eqb r.number n ≡ true → Found n (r ∷ rs) 0
found_here n r rs e =
    record {
      there = omega arith;
      row = ap (λ b. cond b (Some r) (lookup n rs)) e;
      rest = ap (λ b. cond b rs (r ∷ dropped n rs)) e;
      mark = ap (λ b. cond b (as_sent r ∷ rs) (r ∷ marked n rs)) e;
    }

found-later : (n : ℕ) (r : Pending) (rs : List Pending) (i : ℕ) → eqb r.number n ≡ false → Found n rs i → Found n (r ∷ rs) (suc i)
found-later n r rs i e f =
    record {
      there = omega (arith, f.there);
      row = ap (λ b. cond b (Some r) (lookup n rs)) e ∙ f.row;
      rest = ap (λ b. cond b rs (r ∷ dropped n rs)) e ∙ ap (λ ys. r ∷ ys) f.rest;
      mark = ap (λ b. cond b (as_sent r ∷ rs) (r ∷ marked n rs)) e ∙ ap (λ ys. r ∷ ys) f.mark;
    }

found_from : (j n : ℕ) (rs : List Pending) (i : ℕ) → position_from (λ r. eqb r.number n) j rs ≡ Some i → (k : ℕ) × (i ≡ j + k) × Found n rs k
found_from j n [] i h = let z : ◌≡◌ {A = ℕ} 0 1 = cc in absurd (omega arith)
found_from j n (r ∷ rs) i h =
    elim (eqb r.number n)
    as (λ b. eqb r.number n ≡ b → cond b (Some j) (position_from (λ r. eqb r.number n) (j + 1) rs) ≡ Some i → (k : ℕ) × (i ≡ j + k) × Found n (r ∷ rs) k) [
      | true ↦ λ e q. let g : j ≡ i = cc in (0, omega arith, found_here n r rs e)
      | false ↦ λ e q. let f = found_from (j + 1) n rs i q in (suc f.0, omega (arith, f.1), found-later n r rs f.0 e f.2)
    ]
    refl
    h

pub found : (n : ℕ) (rs : List Pending) (i : ℕ) → place n rs ≡ Some i → Found n rs i
found n rs i h =
    let f = found_from 0 n rs i (sym (position_from-zero (λ (r : Pending). eqb r.number n) rs) ∙ h) in
    let same : f.0 ≡ i = omega (arith, f.1) in
    subst (Found n rs) same f.2

-- where no row from a place on has a number, nothing is looked up, dropped or marked by it
pub absent-from : (j n : ℕ) (rs : List Pending) → position_from (λ r. eqb r.number n) j rs ≡ None → (lookup n rs ≡ None) × (dropped n rs ≡ rs) × (marked n rs ≡ rs)
absent-from j n [] h = (refl, refl, refl)
absent-from j n (r ∷ rs) h =
    elim (eqb r.number n)
    as (λ b. cond b (Some j) (position_from (λ r. eqb r.number n) (j + 1) rs) ≡ None → (cond b (Some r) (lookup n rs) ≡ None) × (cond b rs (r ∷ dropped n rs) ≡ r ∷ rs) × (cond b (as_sent r ∷ rs) (r ∷ marked n rs) ≡ r ∷ rs)) [
      | true ↦ λ q. let z : ◌≡◌ {A = ℕ} 0 1 = cc in absurd (omega arith)
      | false ↦ λ q. let f = absent-from (j + 1) n rs q in (f.0, ap (λ ys. r ∷ ys) f.1, ap (λ ys. r ∷ ys) f.2)
    ]
    h

pub absent : (n : ℕ) (rs : List Pending) → place n rs ≡ None → (lookup n rs ≡ None) × (dropped n rs ≡ rs) × (marked n rs ≡ rs)
absent n rs h = absent-from 0 n rs (sym (position_from-zero (λ (r : Pending). eqb r.number n) rs) ∙ h)
