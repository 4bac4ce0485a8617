-- What is written is read again. Assumes nothing.
use Rattle.std.proofs.Common.{◌≡◌, ℕ, Bool, true, List, take, IfOk, Ok, Err, Result, sym, ap, ◌∙◌}
use Rattle.std.proofs.lemmas.List.{take_at}
use Rattle.packet.specs.declared.kind.Kind.{Kind}
use Rattle.packet.specs.Values.{PacketValue, kind_of}
use Rattle.packet.specs.Encoding.{packet_bytes}
use Rattle.packet.specs.Readers.{read_as}
use Rattle.packet.proofs.Packets.{one-encoding}
use Rattle.packet_writer.specs.declared.unwritten.Unwritten.{Unwritten}
use Rattle.packet_writer.specs.Writers.{Writes}

pub write-back : (wanted : Kind → Bool) (v : PacketValue) (before after : List ℕ) (r : Result ℕ Unwritten) → wanted (kind_of v) ≡ true → Writes v before after r → IfOk r (λ n. read_as wanted (take n after) ≡ Ok v)
write-back wanted v before after (Ok n) asks w =
    ap (read_as wanted) (ap (take n) w.2.is ∙ take_at (packet_bytes v) _ n (sym w.2.end)) ∙ one-encoding.forth wanted v w.1 asks
write-back wanted v before after (Err e) asks w = tt
