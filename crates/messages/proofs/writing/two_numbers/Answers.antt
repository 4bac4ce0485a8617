use Rattle.std.proofs.Common.{refl, arith, rules}
use Rattle.wire.proofs.Written.{wrote_then, wrote_as, written_over}
use Rattle.packet.specs.Encoding.{amount_bytes}
use Rattle.messages.proofs.writing.two_numbers.Goals as goal

pub returns : goal.returns
unfolding amount_bytes
returns c =
    let first = wrote_as c.to_be_bytes.ensures c.put.ensures.wrote in
    let second = wrote_as c.to_be_bytes-2.ensures c.put-2.ensures.wrote in
    let both = wrote_then (omega arith) first second in
    (written_over c.new-writer.ensures.buffer c.new-writer.ensures.place refl refl both (search rules)).is
