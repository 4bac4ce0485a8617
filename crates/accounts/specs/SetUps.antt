-- What limits accounts may be set up with. Assumes nothing.
use Rattle.std.specs.Prelude.{Bool, true, ◌&&◌, List, [], ◌∷◌, map, length, nat_le}
use Rattle.accounts.specs.declared.figures.Figures.{Figures}
use Rattle.accounts.specs.declared.limits.Limits.{Limits}
use Rattle.accounts.specs.Figures.{limits_fit, new_account}

abbrev pub all_fit : List Limits → Bool
all_fit [] = true
all_fit (l ∷ ls) = limits_fit l.ceiling l.floor && all_fit ls

-- one to eight accounts, and all limits in bounds
abbrev pub set_up_fits : List Limits → Bool
set_up_fits ls = nat_le 1 (length ls) && nat_le (length ls) 8 && all_fit ls

abbrev pub opening : Limits → Figures
opening l = new_account l.ceiling l.floor

abbrev pub new_accounts : List Limits → List Figures
new_accounts = map opening
