use Rattle.std.proofs.Common.{arith}
use Rattle.wire.proofs.Places.{reading}
use Rattle.wire.specs.Reading.{determinant}
use Rattle.wire.proofs.reader.Reader.determinant.Goals as goal

pub returns-in-130 : goal.returns-in-130
unfolding determinant
returns-in-130 c = grind (arith, reading)

pub returns-in-129 : goal.returns-in-129
unfolding determinant
returns-in-129 c = grind (arith, reading)

pub returns-in_default : goal.returns-in_default
unfolding determinant
returns-in_default c = grind (arith, reading)

pub returns-in-0-to-127 : goal.returns-in-0-to-127
unfolding determinant
returns-in-0-to-127 c = grind (arith, reading)

pub returns-in-empty : goal.returns-in-empty
unfolding determinant
returns-in-empty c = grind (arith, reading)
