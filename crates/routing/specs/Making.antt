-- The numbers by which a table that was not made says why. Assumes nothing.
use Rattle.std.specs.Prelude.{ℕ}
use Rattle.routing.specs.declared.refusal.NotMade.{NotMade}
use Rattle.routing.specs.declared.refusal.NotMade.TheVariants.{Refused, NoMemory}

-- 8 is the number of every refusal of a set-up
abbrev pub making_number : NotMade → ℕ
making_number Refused = 8
making_number NoMemory = 9
