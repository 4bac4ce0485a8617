-- What a change of the two accounts of a hold does, given what it does to each. Assumes nothing.
use Rattle.std.specs.Prelude.{◌≡◌, Bool, ◌&&◌, if◌then◌else◌, List, Option, slice_index_or}
use Rattle.std.specs.Bool.{then_some}
use Rattle.accounts.specs.declared.account.Account.{Account}
use Rattle.accounts.specs.declared.figures.Figures.{Figures}
use Rattle.accounts.specs.declared.hold.Hold.{Hold}
use Rattle.accounts.specs.Figures.{unset, adjust, two_set_up}
use Rattle.accounts.specs.Views.{figures_of, shown}

-- a call that gives an account with its figures changed by f, where they pass the test t
abbrev pub ChangesBy : (Account → Option Account → Type 0) → (Figures → Bool) → (Figures → Figures) → Type 0
ChangesBy gives t f = (a : Account) (r : Option Account) → gives a r → shown r ≡ then_some (t (figures_of a)) (f (figures_of a))

-- the two accounts are changed so, where they are set up and differ and both pass
abbrev pub ChangesBoth : (Account → Option Account → Type 0) → (Account → Option Account → Type 0) → Hold → List Figures → Bool → List Figures → Type 0
ChangesBoth gives_in gives_out h xs done ys =
    (t u : Figures → Bool) (f g : Figures → Figures) → ChangesBy gives_in t f → ChangesBy gives_out u g
    → (done ≡ (two_set_up xs h && t (slice_index_or xs h.sender unset) && u (slice_index_or xs h.outgoing unset)))
    × (ys ≡ (if done then adjust h.outgoing g (adjust h.sender f xs) else xs))
