-- When a fulfilment opens a condition, under a hash that is given as a function on lists of bytes.
-- Assumes nothing.
use Rattle.std.specs.Prelude.{◌≡◌, ℕ, List, length}

-- both have 32 bytes, and the condition is the fulfilment's hash
abbrev pub Opens : (List ℕ → List ℕ) → List ℕ → List ℕ → Type 0
Opens digest fulfilment condition = (length fulfilment ≡ 32) × (length condition ≡ 32) × (digest fulfilment ≡ condition)
