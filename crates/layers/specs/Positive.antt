-- Lists of numbers above 0. Assumes nothing.
use Rattle.std.specs.Prelude.{ℕ, Bool, List, nat_lt}
use Rattle.std.specs.List.{list_all}

abbrev pub all_positive : List ℕ → Bool
all_positive xs = list_all (λ x. nat_lt 0 x) xs
