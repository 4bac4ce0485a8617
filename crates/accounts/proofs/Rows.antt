-- The rows of a table. Assumes nothing.
use Rattle.std.proofs.Common.{◌≡◌, ℕ, zero, suc, ◌<◌, List, [], ◌∷◌, length, get_or, set, arith}
use Rattle.std.proofs.lemmas.List.{get_or-take, length-take}
use Rattle.accounts.specs.declared.table.Accounts.{Accounts}
use Rattle.accounts.specs.Figures.{unset}
use Rattle.accounts.specs.Views.{figures_list}

-- what holds of each element holds after a write of an element of which it holds
pub each_set : {X : Type 0} (P : X → Type 0) (xs : List X) (i : ℕ) (x d : X) → P x → ((k : ℕ) → P (get_or xs k d)) → (k : ℕ) → P (get_or (set xs i x) k d)
each_set P [] i x d p q k = q k
each_set P (y ∷ ys) zero x d p q zero = p
each_set P (y ∷ ys) zero x d p q (suc k) = q (suc k)
each_set P (y ∷ ys) (suc i) x d p q zero = q zero
each_set P (y ∷ ys) (suc i) x d p q (suc k) = each_set P ys i x d p (λ j. q (suc j)) k

pub length-list : (t : Accounts) → length (figures_list t) ≡ t.count
length-list t = omega (arith, length-take t.count t.rows)

-- the row of an account that is set up
pub row_at : (t : Accounts) (a : ℕ) → a < length (figures_list t) → get_or (figures_list t) a unset ≡ get_or t.rows a unset
row_at t a l = get_or-take t.count t.rows a unset (omega (arith, length-list t))
