-- What is written, as lists of bytes. Assumes nothing.
use Rattle.std.specs.Prelude.{◌≡◌, ℕ, ◌+◌, ◌/◌, ◌%◌, cond, List, [], ◌∷◌, ◌++◌, length, take, drop, nat_lt}

-- the bytes stand from the place p up to the place q of a buffer, and nothing else of it is changed
pub record Wrote (before : List ℕ) (p : ℕ) (bytes after : List ℕ) (q : ℕ) : Type 0 where
  pub is : after ≡ take p before ++ (bytes ++ drop (p + length bytes) before)
  pub end : q ≡ p + length bytes

-- the n bytes stand in front of a buffer, and it is as it was after them
pub record Written (before bytes after : List ℕ) (n : ℕ) : Type 0 where
  pub is : after ≡ bytes ++ drop (length bytes) before
  pub end : n ≡ length bytes

-- the shortest determinant of a length below 65,536
unfoldable pub determinant_of : ℕ → List ℕ
determinant_of n = cond (nat_lt n 128) (n ∷ []) (cond (nat_lt n 256) (129 ∷ n ∷ []) (130 ∷ n / 256 ∷ n % 256 ∷ []))

-- a field behind its determinant
abbrev pub field_bytes : List ℕ → List ℕ
field_bytes s = determinant_of (length s) ++ s
