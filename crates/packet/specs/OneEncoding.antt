-- One encoding to a packet. Assumes nothing.
use Rattle.std.specs.Prelude.{◌≡◌, ℕ, ◌<◌, Bool, true, List, Ok, slice_index}
use Rattle.packet.specs.declared.kind.Kind.{Kind}
use Rattle.packet.specs.Values.{PacketValue, kind_of}
use Rattle.packet.specs.Encoding.{packet_bytes, WellFormed}
use Rattle.packet.specs.Readers.{read_as}

-- a list of bytes, as every slice of the program is one
abbrev pub Bytes : List ℕ → Type 0
Bytes xs = (i : ℕ) → slice_index xs i < 256

-- Bytes that are read as a packet are its encoding, and the packet is well formed and of a kind that was asked for;
-- the encoding of every well-formed packet of such a kind is read as that packet.
pub record OneEncoding : Type 0 where
  pub back : (wanted : Kind → Bool) (bytes : List ℕ) (v : PacketValue) → Bytes bytes → read_as wanted bytes ≡ Ok v → (bytes ≡ packet_bytes v) × WellFormed v × (wanted (kind_of v) ≡ true)
  pub forth : (wanted : Kind → Bool) (v : PacketValue) → WellFormed v → wanted (kind_of v) ≡ true → read_as wanted (packet_bytes v) ≡ Ok v
