-- An account that matches what is due, as amounts are held, freed, booked and settled.
use Rattle.std.proofs.Common.{◌≡◌, ℕ, ◌+◌, ◌^◌, ◌<◌, Bool, true, false, cond, eqb, List, [], ◌∷◌, ◌++◌, length, get_or, ℤ, pos, ◌+ℤ◌, ◌-ℤ◌, neg_ℤ, ◌≤ℤ◌, Some, sym, refl, ap, ◌∙◌, subst, arith}
use lib.Signed.{le_z}
use Rattle.std.proofs.lemmas.Int.{ints}
use Rattle.std.proofs.lemmas.List.{get_or-set_same, get_or-set_other, length-set}
use Rattle.std.proofs.lemmas.Bool.Decides.{nat_tests}
use Rattle.std.proofs.lemmas.Bool.{eqb-true, and_parts}
use Rattle.accounts.specs.declared.figures.Figures.{Figures}
use Rattle.accounts.specs.Figures.{unset, adjust, within, takes_in, takes_out, hold_in, hold_out, with_balance, end_in, end_out, held, ended, settled_balance, can_settle}
use Rattle.pending.specs.declared.row.Pending.{Pending}
use Rattle.pending.specs.Rows.{lookup, dropped}
use Rattle.ledger.specs.Sums.{in_at, out_at, sum_in, sum_out}
use Rattle.ledger.specs.Books.{hold_of}
use Rattle.ledger.proofs.RowLaws.{total-push, total-dropped}
use Rattle.protocol.specs.Runs.{AccountMatches}
use Rattle.protocol.specs.Sheet.{changed, pays, moved}

length-adjust : (a : ℕ) (f : Figures → Figures) (xs : List Figures) → length (adjust a f xs) ≡ length xs
length-adjust a f xs = length-set xs a (f (get_or xs a unset))

get_or-adjust : (a k : ℕ) (f : Figures → Figures) (xs : List Figures) → k < length xs → get_or (adjust a f xs) k unset ≡ cond (eqb a k) (f (get_or xs k unset)) (get_or xs k unset)
get_or-adjust a k f xs l = grind (arith, nat_tests, get_or-set_same, get_or-set_other)

-- an account after each change: x says whether it is this account that changes
held-in-more : (x : Bool) (l f : Figures) (z : ℤ) (i o m : ℕ) → (x ≡ true → takes_in m f ≡ true) → AccountMatches l z i o f → AccountMatches l z (i + cond x m 0) o (cond x (hold_in m f) f)
held-in-more true l f z i o m fits h =
    let k = h.keeps in
    record { balance = h.balance; held_in = ap (λ v. v + m) h.held_in; held_out = h.held_out; same_ceiling = h.same_ceiling; same_floor = h.same_floor; keeps = (let t = fits refl in grind (arith, ints), k.1, k.2, k.3) }
held-in-more false l f z i o m fits h =
    record { balance = h.balance; held_in = omega (arith, h.held_in); held_out = h.held_out; same_ceiling = h.same_ceiling; same_floor = h.same_floor; keeps = h.keeps }

held-out-more : (x : Bool) (l f : Figures) (z : ℤ) (i o m : ℕ) → (x ≡ true → takes_out m f ≡ true) → AccountMatches l z i o f → AccountMatches l z i (o + cond x m 0) (cond x (hold_out m f) f)
held-out-more true l f z i o m fits h =
    let k = h.keeps in
    record { balance = h.balance; held_in = h.held_in; held_out = ap (λ v. v + m) h.held_out; same_ceiling = h.same_ceiling; same_floor = h.same_floor; keeps = (k.0, let t = fits refl in grind (arith, ints), k.2, k.3) }
held-out-more false l f z i o m fits h =
    record { balance = h.balance; held_in = h.held_in; held_out = omega (arith, h.held_out); same_ceiling = h.same_ceiling; same_floor = h.same_floor; keeps = h.keeps }

ended-in : (x paid : Bool) (l f : Figures) (z : ℤ) (i o m : ℕ) → AccountMatches l z (cond x m 0 + i) o f → AccountMatches l (cond paid (cond x (z +ℤ pos m) z) z) i o (cond x (end_in paid m f) f)
ended-in true true l f z i o m h =
    let k = h.keeps in
    record { balance = ap (λ v. v +ℤ pos m) h.balance; held_in = omega (arith, h.held_in); held_out = h.held_out; same_ceiling = h.same_ceiling; same_floor = h.same_floor; keeps = (let t = k.0 in let e = h.held_in in omega (arith, ints), let t = k.1 in omega (arith, ints), k.2, k.3) }
ended-in true false l f z i o m h =
    let k = h.keeps in
    record { balance = h.balance; held_in = omega (arith, h.held_in); held_out = h.held_out; same_ceiling = h.same_ceiling; same_floor = h.same_floor; keeps = (let t = k.0 in let e = h.held_in in omega (arith, ints), k.1, k.2, k.3) }
ended-in false true l f z i o m h =
    record { balance = h.balance; held_in = omega (arith, h.held_in); held_out = h.held_out; same_ceiling = h.same_ceiling; same_floor = h.same_floor; keeps = h.keeps }
ended-in false false l f z i o m h =
    record { balance = h.balance; held_in = omega (arith, h.held_in); held_out = h.held_out; same_ceiling = h.same_ceiling; same_floor = h.same_floor; keeps = h.keeps }

ended-out : (x paid : Bool) (l f : Figures) (z : ℤ) (i o m : ℕ) → AccountMatches l z i (cond x m 0 + o) f → AccountMatches l (cond paid (cond x (z -ℤ pos m) z) z) i o (cond x (end_out paid m f) f)
ended-out true true l f z i o m h =
    let k = h.keeps in
    record { balance = ap (λ v. v -ℤ pos m) h.balance; held_in = h.held_in; held_out = omega (arith, h.held_out); same_ceiling = h.same_ceiling; same_floor = h.same_floor; keeps = (let t = k.0 in omega (arith, ints), let t = k.1 in let e = h.held_out in omega (arith, ints), k.2, k.3) }
ended-out true false l f z i o m h =
    let k = h.keeps in
    record { balance = h.balance; held_in = h.held_in; held_out = omega (arith, h.held_out); same_ceiling = h.same_ceiling; same_floor = h.same_floor; keeps = (k.0, let t = k.1 in let e = h.held_out in omega (arith, ints), k.2, k.3) }
ended-out false true l f z i o m h =
    record { balance = h.balance; held_in = h.held_in; held_out = omega (arith, h.held_out); same_ceiling = h.same_ceiling; same_floor = h.same_floor; keeps = h.keeps }
ended-out false false l f z i o m h =
    record { balance = h.balance; held_in = h.held_in; held_out = omega (arith, h.held_out); same_ceiling = h.same_ceiling; same_floor = h.same_floor; keeps = h.keeps }

settled-one : (x : Bool) (l f : Figures) (z w : ℤ) (i o : ℕ) → (x ≡ true → within (with_balance w f) ≡ true) → AccountMatches l z i o f → AccountMatches l (cond x w z) i o (cond x (with_balance w f) f)
settled-one true l f z w i o fits h =
    let k = h.keeps in
    let two = and_parts (le_z (w +ℤ pos f.held_in) (pos f.ceiling)) (le_z (neg_ℤ (pos f.floor)) (w -ℤ pos f.held_out)) (fits refl) in
    record { balance = refl; held_in = h.held_in; held_out = h.held_out; same_ceiling = h.same_ceiling; same_floor = h.same_floor; keeps = (let t = two.0 in grind (arith, ints), let t = two.1 in grind (arith, ints), k.2, k.3) }
settled-one false l f z w i o fits h = h

-- what can be held out is below 2^64, since the limits are
pub small-enough : (l f : Figures) (z : ℤ) (i o m : ℕ) → AccountMatches l z i o f → takes_out m f ≡ true → m < 2 ^ 64
small-enough l f z i o m h t =
    let u : neg_ℤ (pos f.floor) ≤ℤ (f.balance -ℤ pos (f.held_out + m)) = grind (arith, ints) in
    let k = h.keeps in
    let v = k.0 in
    let c = k.2 in
    let g = k.3 in
    omega (arith, ints)

-- every account matches these balances and sums
abbrev pub EachMatches : List Figures → (ℕ → ℤ) → (ℕ → ℕ) → (ℕ → ℕ) → List Figures → Type 0
EachMatches ls bal ins outs fs =
    (length fs ≡ length ls) × ((a : ℕ) → a < length ls → AccountMatches (get_or ls a unset) (bal a) (ins a) (outs a) (get_or fs a unset))

-- one account adjusted, by what the adjustment does to an account, whether it is that one or not
adjusted : (ls fs : List Figures) (bal bal' : ℕ → ℤ) (ins ins' outs outs' : ℕ → ℕ) (a : ℕ) (g : Figures → Figures) →
    EachMatches ls bal ins outs fs →
    ((k : ℕ) → k < length ls → AccountMatches (get_or ls k unset) (bal k) (ins k) (outs k) (get_or fs k unset) → AccountMatches (get_or ls k unset) (bal' k) (ins' k) (outs' k) (cond (eqb a k) (g (get_or fs k unset)) (get_or fs k unset))) →
    EachMatches ls bal' ins' outs' (adjust a g fs)
adjusted ls fs bal bal' ins ins' outs outs' a g h f = (
  length-adjust a g fs ∙ h.0,
  λ k l. subst (AccountMatches (get_or ls k unset) (bal' k) (ins' k) (outs' k)) (sym (get_or-adjust a k g fs (omega (arith, h.0)))) (f k l (h.1 k l)),
)

-- what can be held out is no matter of what is held in
unmoved : (x : Bool) (m n : ℕ) (f : Figures) → takes_out n (cond x (hold_in m f) f) ≡ takes_out n f
unmoved true m n f = refl
unmoved false m n f = refl

-- the accounts after a Prepare is forwarded
pub accounts-hold : (ls fs : List Figures) (bal : ℕ → ℤ) (rs : List Pending) (r : Pending) →
    takes_in r.amount_in (get_or fs r.sender unset) ≡ true →
    takes_out r.amount_out (get_or fs r.outgoing unset) ≡ true →
    EachMatches ls bal (λ k. sum_in k rs) (λ k. sum_out k rs) fs →
    EachMatches ls bal (λ k. sum_in k (rs ++ r ∷ [])) (λ k. sum_out k (rs ++ r ∷ [])) (held (hold_of r) fs)
accounts-hold ls fs bal rs r fits_in fits_out h =
    let gs = adjust r.sender (hold_in r.amount_in) fs in
    let mid = adjusted ls fs bal bal (λ k. sum_in k rs) (λ k. sum_in k (rs ++ r ∷ [])) (λ k. sum_out k rs) (λ k. sum_out k rs) r.sender (hold_in r.amount_in) h
    (λ k l q. subst (λ v. AccountMatches (get_or ls k unset) (bal k) v (sum_out k rs) (cond (eqb r.sender k) (hold_in r.amount_in (get_or fs k unset)) (get_or fs k unset))) (sym (total-push (in_at k) rs r))
    (held-in-more (eqb r.sender k) (get_or ls k unset) (get_or fs k unset) (bal k) (sum_in k rs) (sum_out k rs) r.amount_in
    (λ t. subst (λ j. takes_in r.amount_in (get_or fs j unset) ≡ true) (eqb-true r.sender k t) fits_in) q)) in
    adjusted ls gs bal bal (λ k. sum_in k (rs ++ r ∷ [])) (λ k. sum_in k (rs ++ r ∷ [])) (λ k. sum_out k rs) (λ k. sum_out k (rs ++ r ∷ [])) r.outgoing (hold_out r.amount_out) mid
    (λ k l q. subst (λ v. AccountMatches (get_or ls k unset) (bal k) (sum_in k (rs ++ r ∷ [])) v (cond (eqb r.outgoing k) (hold_out r.amount_out (get_or gs k unset)) (get_or gs k unset))) (sym (total-push (out_at k) rs r))
    (held-out-more (eqb r.outgoing k) (get_or ls k unset) (get_or gs k unset) (bal k) (sum_in k (rs ++ r ∷ [])) (sum_out k rs) r.amount_out
    (λ t. ap (takes_out r.amount_out) (get_or-adjust r.sender k (hold_in r.amount_in) fs (omega (arith, h.0)))
    ∙ unmoved (eqb r.sender k) r.amount_in r.amount_out (get_or fs k unset)
    ∙ subst (λ j. takes_out r.amount_out (get_or fs j unset) ≡ true) (eqb-true r.outgoing k t) fits_out) q))

-- the accounts after a pending packet has ended
pub accounts-end : (paid : Bool) (ls fs : List Figures) (bal : ℕ → ℤ) (rs : List Pending) (r : Pending) → lookup r.number rs ≡ Some r →
    EachMatches ls bal (λ k. sum_in k rs) (λ k. sum_out k rs) fs →
    EachMatches ls (cond paid (pays r bal) bal) (λ k. sum_in k (dropped r.number rs)) (λ k. sum_out k (dropped r.number rs)) (ended paid (hold_of r) fs)
accounts-end true ls fs bal rs r e h =
    let mid = adjusted ls fs bal (changed r.sender (λ x. x +ℤ pos r.amount_in) bal) (λ k. sum_in k rs) (λ k. sum_in k (dropped r.number rs)) (λ k. sum_out k rs) (λ k. sum_out k rs) r.sender (end_in true r.amount_in) h
    (λ k l q. ended-in (eqb r.sender k) true (get_or ls k unset) (get_or fs k unset) (bal k) (sum_in k (dropped r.number rs)) (sum_out k rs) r.amount_in
    (subst (λ v. AccountMatches (get_or ls k unset) (bal k) v (sum_out k rs) (get_or fs k unset)) (total-dropped (in_at k) r.number rs r e) q)) in
    let gs = adjust r.sender (end_in true r.amount_in) fs in
    let bal₁ = changed r.sender (λ x. x +ℤ pos r.amount_in) bal in
    adjusted ls gs bal₁ (pays r bal) (λ k. sum_in k (dropped r.number rs)) (λ k. sum_in k (dropped r.number rs)) (λ k. sum_out k rs) (λ k. sum_out k (dropped r.number rs)) r.outgoing (end_out true r.amount_out) mid
    (λ k l q. ended-out (eqb r.outgoing k) true (get_or ls k unset) (get_or gs k unset) (bal₁ k) (sum_in k (dropped r.number rs)) (sum_out k (dropped r.number rs)) r.amount_out
    (subst (λ v. AccountMatches (get_or ls k unset) (bal₁ k) (sum_in k (dropped r.number rs)) v (get_or gs k unset)) (total-dropped (out_at k) r.number rs r e) q))
accounts-end false ls fs bal rs r e h =
    let mid = adjusted ls fs bal bal (λ k. sum_in k rs) (λ k. sum_in k (dropped r.number rs)) (λ k. sum_out k rs) (λ k. sum_out k rs) r.sender (end_in false r.amount_in) h
    (λ k l q. ended-in (eqb r.sender k) false (get_or ls k unset) (get_or fs k unset) (bal k) (sum_in k (dropped r.number rs)) (sum_out k rs) r.amount_in
    (subst (λ v. AccountMatches (get_or ls k unset) (bal k) v (sum_out k rs) (get_or fs k unset)) (total-dropped (in_at k) r.number rs r e) q)) in
    let gs = adjust r.sender (end_in false r.amount_in) fs in
    adjusted ls gs bal bal (λ k. sum_in k (dropped r.number rs)) (λ k. sum_in k (dropped r.number rs)) (λ k. sum_out k rs) (λ k. sum_out k (dropped r.number rs)) r.outgoing (end_out false r.amount_out) mid
    (λ k l q. ended-out (eqb r.outgoing k) false (get_or ls k unset) (get_or gs k unset) (bal k) (sum_in k (dropped r.number rs)) (sum_out k (dropped r.number rs)) r.amount_out
    (subst (λ v. AccountMatches (get_or ls k unset) (bal k) (sum_in k (dropped r.number rs)) v (get_or gs k unset)) (total-dropped (out_at k) r.number rs r e) q))

-- the accounts after a settlement
pub accounts-settle : (ls fs : List Figures) (bal : ℕ → ℤ) (rs : List Pending) (a way m : ℕ) →
    can_settle way m (get_or fs a unset) ≡ true →
    EachMatches ls bal (λ k. sum_in k rs) (λ k. sum_out k rs) fs →
    EachMatches ls (changed a (moved way m) bal) (λ k. sum_in k rs) (λ k. sum_out k rs) (adjust a (with_balance (settled_balance way m (get_or fs a unset))) fs)
accounts-settle ls fs bal rs a way m fits h =
    adjusted ls fs bal (changed a (moved way m) bal) (λ k. sum_in k rs) (λ k. sum_in k rs) (λ k. sum_out k rs) (λ k. sum_out k rs) a (with_balance z) h
    (λ k l q. subst (λ v. AccountMatches (get_or ls k unset) v (sum_in k rs) (sum_out k rs) (cond (eqb a k) (with_balance z (get_or fs k unset)) (get_or fs k unset))) (moved_to k (eqb a k) refl q)
    (settled-one (eqb a k) (get_or ls k unset) (get_or fs k unset) (bal k) z (sum_in k rs) (sum_out k rs)
    (λ t. subst (λ j. within (with_balance z (get_or fs j unset)) ≡ true) (eqb-true a k t) fits) q))
  where
    z : ℤ
    z = settled_balance way m (get_or fs a unset)

    moved_to : (k : ℕ) (x : Bool) → eqb a k ≡ x → AccountMatches (get_or ls k unset) (bal k) (sum_in k rs) (sum_out k rs) (get_or fs k unset) → cond x z (bal k) ≡ cond x (moved way m (bal k)) (bal k)
    moved_to k true t q = ap (λ j. moved way m (get_or fs j unset).balance) (eqb-true a k t) ∙ ap (moved way m) q.balance
    moved_to k false t q = refl
