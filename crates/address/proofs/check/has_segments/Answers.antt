use Rattle.std.proofs.Common.{sym, arith}
use Rattle.std.proofs.lemmas.Bool.Decides.{nat_tests}
use Rattle.wire.specs.Reading.{standing}
use Rattle.address.proofs.Split.{segment-read, rest-shorter}
use Rattle.address.proofs.check.has_segments.Goals as goal

pub returns-then-not-is_segment : goal.returns-then-not-is_segment
returns-then-not-is_segment c =
    let skipped = c.loop-reader-test.ensures in
    let e = segment-read (standing c.loop-reader.reader) (standing c.skip.new.self) (standing c.until.new.self) (sym skipped.value) skipped.place c.until.ensures.place in
    grind (arith, nat_tests)

pub loop-reader-smaller : goal.loop-reader-smaller
loop-reader-smaller c =
    let skipped = c.loop-reader-test.ensures in
    rest-shorter (standing c.loop-reader.reader) (standing c.skip.new.self) (standing c.until.new.self) (sym skipped.value) skipped.place c.until.ensures.place

pub loop-reader-preserved : goal.loop-reader-preserved
loop-reader-preserved c =
    let skipped = c.loop-reader-test.ensures in
    let e = segment-read (standing c.loop-reader.reader) (standing c.skip.new.self) (standing c.until.new.self) (sym skipped.value) skipped.place c.until.ensures.place in
    grind (arith, nat_tests)
