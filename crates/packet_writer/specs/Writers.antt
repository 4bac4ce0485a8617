-- What a call that writes a packet does. Assumes nothing.
use Rattle.std.specs.Prelude.{◌≡◌, ℕ, ◌<◌, ◌≤◌, List, length, Ok, Err, Result}
use Rattle.wire.specs.Writing.{Written}
use Rattle.packet_writer.specs.declared.unwritten.Unwritten.{Unwritten}
use Rattle.packet_writer.specs.declared.unwritten.Unwritten.TheVariants.{ShortBuffer, NoEncoding}
use Rattle.packet.specs.Values.{PacketValue}
use Rattle.packet.specs.Encoding.{packet_bytes, WellFormed}

-- the longest packet, a Reject: 1 + 3 bytes before the content, and 3 + (3 + 1,023) + (3 + 8,191) + (3 + 32,767) of it
abbrev pub longest : ℕ
longest = 41997

-- the encoding stands in front of the buffer, the rest of which is as it was; or the buffer is too short for some packet,
-- or else the packet has no encoding, and the buffer is as it was
abbrev pub Writes : PacketValue → List ℕ → List ℕ → Result ℕ Unwritten → Type 0
Writes v before after (Ok n) = (longest ≤ length before) × WellFormed v × Written before (packet_bytes v) after n
Writes v before after (Err ShortBuffer) = (after ≡ before) × (length before < longest)
Writes v before after (Err NoEncoding) = (after ≡ before) × (longest ≤ length before) × (WellFormed v → ⊥)
