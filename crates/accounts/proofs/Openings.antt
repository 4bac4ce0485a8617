-- Accounts as they are set up. Assumes nothing.
use Rattle.std.proofs.Common.{◌≡◌, ℕ, zero, suc, ◌+◌, ◌<◌, ◌≤◌, Bool, true, false, ◌&&◌, leb, List, [], ◌∷◌, ◌++◌, length, get_or, take, drop, set, sym, ap, ◌∙◌, arith}
use Rattle.std.proofs.lemmas.List.{take_all, take_more_set, map_more, at_drop_more, at_drop_all}
use Rattle.std.proofs.lemmas.Int.{ints}
use Rattle.std.proofs.lemmas.Bool.{and_parts, leb-true, and_right}
use Rattle.accounts.specs.declared.figures.Figures.{Figures}
use Rattle.accounts.specs.declared.limits.Limits.{Limits}
use Rattle.accounts.specs.Figures.{Keeps, unset, limits_fit, new_account}
use Rattle.accounts.specs.SetUps.{all_fit, set_up_fits, opening, new_accounts}

pub unset-keeps : Keeps unset
unset-keeps = (omega (arith, ints), omega (arith, ints), omega arith, omega arith)

new-keeps : (c f : ℕ) → limits_fit c f ≡ true → Keeps (new_account c f)
new-keeps c f e =
    let fits = and_parts _ _ e in
    let high = leb-true _ _ fits.0 in
    let low = leb-true _ _ fits.1 in
    (omega (arith, ints), omega (arith, ints), high, low)

pub all_keep : (ls : List Limits) → all_fit ls ≡ true → (k : ℕ) → Keeps (get_or (new_accounts ls) k unset)
all_keep [] e k = unset-keeps
all_keep (l ∷ ls) e zero = new-keeps l.ceiling l.floor (and_parts _ _ e).0
all_keep (l ∷ ls) e (suc k) = all_keep ls (and_parts (limits_fit l.ceiling l.floor) (all_fit ls) e).1 k

-- limits that stand for those at a place that is not there
abbrev pub no_limits : Limits
no_limits = record { ceiling = 0; floor = 0 }

-- one row more is one new account more
pub rows_more : (rows : List Figures) (ls : List Limits) (i : ℕ) (f : Figures) → i < length rows → i < length ls → take i rows ≡ new_accounts (take i ls) → f ≡ opening (get_or ls i no_limits) → take (i + 1) (set rows i f) ≡ new_accounts (take (i + 1) ls)
rows_more rows ls i f r l e g =
    take_more_set rows i f r ∙ ap (λ xs. xs ++ f ∷ []) e ∙ ap (λ x. new_accounts (take i ls) ++ x ∷ []) g ∙ sym (map_more opening ls i no_limits l)

-- the limits at a place are the next to fit
fit_next : (ls : List Limits) (i : ℕ) (b : Bool) → i < length ls → all_fit (drop i ls) ≡ all_fit ls → limits_fit (get_or ls i no_limits).ceiling (get_or ls i no_limits).floor ≡ b → (b && all_fit (drop (i + 1) ls)) ≡ all_fit ls
fit_next ls i b l inv e = sym (at_drop_more all_fit ls i no_limits l ∙ ap (λ t. t && all_fit (drop (i + 1) ls)) e) ∙ inv

-- where they fit, the limits behind them decide
pub fits_more : (ls : List Limits) (i : ℕ) → i < length ls → all_fit (drop i ls) ≡ all_fit ls → limits_fit (get_or ls i no_limits).ceiling (get_or ls i no_limits).floor ≡ true → all_fit (drop (i + 1) ls) ≡ all_fit ls
fits_more ls i l inv e = fit_next ls i true l inv e

-- where they do not fit, no table is set up
pub fits_not : (ls : List Limits) (i : ℕ) → i < length ls → all_fit (drop i ls) ≡ all_fit ls → limits_fit (get_or ls i no_limits).ceiling (get_or ls i no_limits).floor ≡ false → set_up_fits ls ≡ false
fits_not ls i l inv e = and_right (leb 1 (length ls) && leb (length ls) 8) (all_fit ls) (sym (fit_next ls i false l inv e))

pub fits_all : (ls : List Limits) (i : ℕ) → length ls ≤ i → all_fit (drop i ls) ≡ all_fit ls → all_fit ls ≡ true
fits_all ls i l inv = sym inv ∙ at_drop_all all_fit ls i l

-- all rows are written
pub rows_all : (rows : List Figures) (ls : List Limits) (i : ℕ) → i ≤ length ls → length ls ≤ i → take i rows ≡ new_accounts (take i ls) → take (length ls) rows ≡ new_accounts ls
rows_all rows ls i h l e =
    let all : length ls ≡ i = omega arith in
    ap (λ n. take n rows) all ∙ e ∙ ap new_accounts (take_all i ls l)
