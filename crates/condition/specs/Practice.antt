-- The hash for practice: byte i of the result is byte 31 - i of the input, with each bit of 5A (hex) inverted in it.
-- Assumes nothing.
use Rattle.std.specs.Prelude.{ℕ, ◌-◌, List, map, bit_xor, slice_index}
use Rattle.std.specs.List.{range_with_len}

-- `range_with_len 0 32` is the list of the numbers from 0 to 31
unfoldable pub practice : List ℕ → List ℕ
practice input = map (λ i. bit_xor (slice_index input (31 - i)) 0x5a) (range_with_len 0 32)
