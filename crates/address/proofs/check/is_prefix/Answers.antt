use Rattle.std.proofs.Common.{arith}
use Rattle.std.proofs.lemmas.Bool.Decides.{nat_tests}
use Rattle.wire.specs.Reading.{standing}
use Rattle.address.specs.Addresses.{is_prefix}
use Rattle.address.proofs.Split.{scheme-read}
use Rattle.address.proofs.check.is_prefix.Goals as goal

pub returns-then-is_empty : goal.returns-then-is_empty
unfolding is_prefix
returns-then-is_empty c = grind (arith, nat_tests)

pub returns-then-is_scheme : goal.returns-then-is_scheme
unfolding is_prefix
returns-then-is_scheme c =
    let s = scheme-read c.args.bytes.now (standing c.new-reader.result) (standing c.until-scheme.new.self) c.new-reader.ensures c.until-scheme.ensures.place in
    grind (arith, nat_tests)

pub returns-else-is_scheme : goal.returns-else-is_scheme
unfolding is_prefix
returns-else-is_scheme c =
    let s = scheme-read c.args.bytes.now (standing c.new-reader.result) (standing c.until-scheme.new.self) c.new-reader.ensures c.until-scheme.ensures.place in
    grind (arith, nat_tests)
