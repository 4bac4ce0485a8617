-- The numbers that a table of open numbers holds. Assumes nothing.
use Rattle.std.specs.Prelude.{ℕ, List, take}
use Rattle.stage.specs.declared.numbers.OpenNumbers.{OpenNumbers}

abbrev pub opened : OpenNumbers → List ℕ
opened o = take o.count o.places
