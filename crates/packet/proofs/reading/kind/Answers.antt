use Rattle.std.proofs.Common.{sym, subst, ◌∙◌}
use Rattle.wire.specs.Reading.{standing, Reads}
use Rattle.packet.specs.Readers.{read_kind}
use Rattle.packet.proofs.TypeByte.{byte_read, kind_read}
use Rattle.packet.proofs.reading.kind.Goals as goal

pub returns : goal.returns
returns c =
    let b = byte_read _ c.array.result _ (standing c.args.reader.now) (standing c.array.new.self) c.in_ok-byte.field-0 c.array.ensures (sym c.or.ensures ∙ c.in_ok-byte.was) in
    let k = kind_read (standing c.args.reader.now) (standing c.array.new.self) _ _ c.try_from.result b.0 b.2 b.1 c.fault-wrong.ensures c.try_from.ensures in
    subst (λ r. Reads (λ k. k) r (read_kind (standing c.args.reader.now)) (standing c.array.new.self)) (sym c.or-2.ensures) k
