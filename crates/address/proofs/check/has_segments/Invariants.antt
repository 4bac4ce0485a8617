use Rattle.std.proofs.Common.{◌≡◌, length}
use Rattle.wire.specs.Reading.{standing}
use Rattle.address.specs.Addresses.{rest_segments}
use Rattle.address.proofs.check.has_segments.Given as goal

abbrev pub invariant-loop-reader : goal.invariant-loop-reader
invariant-loop-reader l = rest_segments (standing l.reader).rest ≡ rest_segments (standing l.initial.reader).rest

abbrev pub decreases-loop-reader : goal.decreases-loop-reader
decreases-loop-reader l = length (standing l.reader).rest
