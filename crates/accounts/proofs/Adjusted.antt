-- Lists of accounts after a change at one place, or at the two of a hold. Assumes nothing.
use Rattle.std.proofs.Common.{◌≡◌, ℕ, zero, suc, ◌<◌, Bool, true, false, not, ◌&&◌, eqb, List, [], ◌∷◌, length, get_or, sym, refl, ◌∙◌, subst}
use Rattle.std.proofs.lemmas.List.{length-set, get_or-set_same, get_or-set_other}
use Rattle.std.proofs.lemmas.Bool.{and_parts, not-true, ltb-true, eqb-false}
use Rattle.accounts.specs.declared.figures.Figures.{Figures}
use Rattle.accounts.specs.declared.hold.Hold.{Hold}
use Rattle.accounts.specs.Figures.{unset, takes_in, takes_out, hold_in, hold_out, end_in, end_out, adjust, is_set_up, two_set_up, can_hold, held, ended}

pub length-adjust : (a : ℕ) (f : Figures → Figures) (xs : List Figures) → length (adjust a f xs) ≡ length xs
length-adjust a f xs = length-set xs a (f (get_or xs a unset))

-- the account that is changed
pub there : (a : ℕ) (f : Figures → Figures) (xs : List Figures) (k : ℕ) → a < length xs → k ≡ a → get_or (adjust a f xs) k unset ≡ f (get_or xs k unset)
there a f xs k l e =
    subst (λ n. get_or (adjust a f xs) n unset ≡ f (get_or xs n unset)) (sym e) (get_or-set_same xs a (f (get_or xs a unset)) unset l)

-- any other account
pub elsewhere : (a : ℕ) (f : Figures → Figures) (xs : List Figures) (k : ℕ) → (k ≡ a → ⊥) → get_or (adjust a f xs) k unset ≡ get_or xs k unset
elsewhere a f xs k e = get_or-set_other xs a k (f (get_or xs a unset)) unset e

-- a figure that the change leaves, at any account
pub untouched : {X : Type 0} (g : Figures → X) (f : Figures → Figures) → ((x : Figures) → g (f x) ≡ g x) → (a : ℕ) (xs : List Figures) (k : ℕ) → g (get_or (adjust a f xs) k unset) ≡ g (get_or xs k unset)
untouched g f e a [] k = refl
untouched g f e zero (y ∷ ys) zero = e y
untouched g f e zero (y ∷ ys) (suc k) = refl
untouched g f e (suc a) (y ∷ ys) zero = refl
untouched g f e (suc a) (y ∷ ys) (suc k) = untouched g f e a ys k

pub length-held : (h : Hold) (xs : List Figures) → length (held h xs) ≡ length xs
length-held h xs =
    length-adjust h.outgoing (hold_out h.amount_out) (adjust h.sender (hold_in h.amount_in) xs)
    ∙ length-adjust h.sender (hold_in h.amount_in) xs

pub length-ended : (paid : Bool) (h : Hold) (xs : List Figures) → length (ended paid h xs) ≡ length xs
length-ended paid h xs =
    length-adjust h.outgoing (end_out paid h.amount_out) (adjust h.sender (end_in paid h.amount_in) xs)
    ∙ length-adjust h.sender (end_in paid h.amount_in) xs

-- what the two accounts of a hold are known to be
pub record Two (xs : List Figures) (h : Hold) : Type 0 where
  pub sender : h.sender < length xs
  pub outgoing : h.outgoing < length xs
  pub apart : h.outgoing ≡ h.sender → ⊥

-- two accounts that pass the test are set up, and they differ
pub two_from : (xs : List Figures) (h : Hold) → two_set_up xs h ≡ true → Two xs h
two_from xs h e =
    let parts = and_parts (is_set_up xs h.sender && is_set_up xs h.outgoing) (not (eqb h.sender h.outgoing)) e in
    let both = and_parts (is_set_up xs h.sender) (is_set_up xs h.outgoing) parts.0 in
    record {
      sender = ltb-true h.sender (length xs) both.0;
      outgoing = ltb-true h.outgoing (length xs) both.1;
      apart = λ same. eqb-false h.sender h.outgoing (not-true (eqb h.sender h.outgoing) parts.1) (sym same);
    }

regrouped : (a b d x y : Bool) → (a && x && (b && y) && d) ≡ (a && b && d && x && y)
regrouped false b d x y = refl
regrouped true false d true y = refl
regrouped true false d false y = refl
regrouped true true true true true = refl
regrouped true true true true false = refl
regrouped true true true false y = refl
regrouped true true false true true = refl
regrouped true true false true false = refl
regrouped true true false false y = refl

-- a hold can be made where the two accounts are set up and each takes its amount
pub can_hold-is : (xs : List Figures) (h : Hold) → can_hold xs h ≡ (two_set_up xs h && takes_in h.amount_in (get_or xs h.sender unset) && takes_out h.amount_out (get_or xs h.outgoing unset))
can_hold-is xs h =
    regrouped (is_set_up xs h.sender) (is_set_up xs h.outgoing) (not (eqb h.sender h.outgoing)) (takes_in h.amount_in (get_or xs h.sender unset)) (takes_out h.amount_out (get_or xs h.outgoing unset))
