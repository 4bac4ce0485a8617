-- Lists of numbers. Assumes nothing.
use Rattle.std.specs.Prelude.{ℕ, Bool, true, false, not, ◌&&◌, List, [], ◌∷◌, ◌==◌}
use Rattle.std.specs.List.{filter, list_any}

abbrev pub among : List ℕ → ℕ → Bool
among xs n = list_any (λ x. x == n) xs

abbrev pub none_twice : List ℕ → Bool
none_twice [] = true
none_twice (x ∷ xs) = not (among xs x) && none_twice xs

-- the others, in their order
abbrev pub without : List ℕ → ℕ → List ℕ
without xs n = filter (λ x. not (x == n)) xs

abbrev pub is_empty : List ℕ → Bool
is_empty [] = true
is_empty (x ∷ xs) = false
