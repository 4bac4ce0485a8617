-- When prices are made. Assumes nothing.
use Rattle.std.specs.Prelude.{◌≡◌, ℕ, true, false, List, Some, None, Option}
use Rattle.layers.specs.declared.prices.Prices.{Prices}
use Rattle.layers.specs.Positive.{all_positive}

abbrev pub PricesMade : List ℕ → Option Prices → Type 0
PricesMade prices (Some p) = (p.of ≡ prices) × (all_positive prices ≡ true)
PricesMade prices None = all_positive prices ≡ false
