use Rattle.std.proofs.Common.{arith}
use Rattle.std.proofs.lemmas.Bool.Decides.{nat_tests}
use Rattle.wire.specs.Reading.{standing}
use Rattle.address.specs.Addresses.{is_address}
use Rattle.address.proofs.Split.{scheme-read, address_read}
use Rattle.address.proofs.check.is_address.Goals as goal

pub returns-then-left-gt0 : goal.returns-then-left-gt0
unfolding is_address
returns-then-left-gt0 c =
    let s = scheme-read c.args.bytes.now (standing c.new-reader.result) (standing c.until-scheme.new.self) c.new-reader.ensures c.until-scheme.ensures.place in
    let e = address_read c.args.bytes.now (standing c.new-reader.result) (standing c.until-scheme.new.self) c.new-reader.ensures c.until-scheme.ensures.place in
    grind (arith, nat_tests)

pub returns-else-left-gt0 : goal.returns-else-left-gt0
unfolding is_address
returns-else-left-gt0 c =
    let s = scheme-read c.args.bytes.now (standing c.new-reader.result) (standing c.until-scheme.new.self) c.new-reader.ensures c.until-scheme.ensures.place in
    let e = address_read c.args.bytes.now (standing c.new-reader.result) (standing c.until-scheme.new.self) c.new-reader.ensures c.until-scheme.ensures.place in
    grind (arith, nat_tests)
