use Rattle.std.proofs.Common.{◌==◌, rules, arith}
use borrow.Author.Tests.{tests}
use Rattle.std.proofs.lemmas.Iterator.{YieldsList-from_slice}
use Rattle.std.proofs.lemmas.Iterator.Search.{position_from_yields_List}
use Rattle.wire.proofs.Places.{reading, before_found}
use Rattle.wire.proofs.reader.Reader.until.Goals as goal

pub returns : goal.returns
returns c =
    let found = position_from_yields_List (λ x. x == c.args.stop) _ _ c.position.result c.position.ensures.ran (YieldsList-from_slice _ c.iter.ensures.rest) (λ x b q k. search (rules, tests)) in
    let n = before_found c.args.stop _ c.position.result found in
    record { value = grind (arith, reading); place = grind (arith, reading) }
