-- When the product's stack is made. Assumes nothing.
use Rattle.std.specs.Prelude.{◌≡◌, true, false, ◌&&◌, [], Ok, Err, Result}
use Rattle.stage.specs.declared.end.End.{End}
use Rattle.stage.specs.Opened.{opened}
use Rattle.layers.specs.declared.refusal.NotMade.{NotMade}
use Rattle.layers.specs.declared.over.Over.{Over}
use Rattle.layers.specs.declared.maximum.GreatestAmounts.{GreatestAmounts}
use Rattle.layers.specs.declared.prices.Prices.{Prices}
use Rattle.layers.specs.declared.expiry.Times.{Times}
use Rattle.layers.specs.declared.stack.StackFigures.{StackFigures}
use Rattle.layers.specs.Makings.{times_fit}
use Rattle.layers.specs.Positive.{all_positive}

-- each layer has its figures, and nothing is open at the end
pub record Stands (f : StackFigures) (s : Over GreatestAmounts (Over Prices (Over Times End))) : Type 0 where
  pub most : s.layer.most ≡ f.most
  pub prices : s.below.layer.of ≡ f.prices
  pub margin : s.below.below.layer.margin ≡ f.margin
  pub hold : s.below.below.layer.hold ≡ f.hold
  pub none_open : opened s.below.below.below.numbers ≡ []

abbrev pub StackMade : StackFigures → Result (Over GreatestAmounts (Over Prices (Over Times End))) (NotMade StackFigures) → Type 0
StackMade f (Ok s) = Stands f s × ((times_fit f.margin f.hold && all_positive f.prices) ≡ true)
StackMade f (Err e) = (e.passed_in ≡ f) × ((times_fit f.margin f.hold && all_positive f.prices) ≡ false)
