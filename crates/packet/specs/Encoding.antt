-- The encoding of a packet, and which packets have one. Assumes nothing.
use Rattle.std.specs.Prelude.{◌≡◌, ◌≢◌, Ok, Err, Result, ℕ, ◌/◌, ◌%◌, ◌^◌, ◌<◌, ◌≤◌, Bool, true, ◌||◌, List, [], ◌∷◌, ◌++◌, length, ◌==◌}
use Rattle.wire.specs.Codes.{is_code}
use Rattle.wire.specs.Writing.{field_bytes}
use Rattle.calendar.specs.Calendar.{digits_of, last_instant}
use Rattle.address.specs.Addresses.{is_address}
use Rattle.packet.specs.declared.kind.Kind.{Kind}
use Rattle.packet.specs.declared.kind.Kind.TheVariants as kind
use Rattle.packet.specs.Values.{PrepareValue, FulfillValue, RejectValue, PacketValue, prepare, fulfill, reject, kind_of}

-- the first byte of a packet
abbrev pub type_byte : Kind → ℕ
type_byte kind.Prepare = 0x0C
type_byte kind.Fulfill = 0x0D
type_byte kind.Reject = 0x0E

-- a byte says the kind whose type byte it is, and no kind if it is none's
abbrev pub SaysKind : {E : Type 0} → ℕ → Result Kind E → Type 0
SaysKind b (Ok k) = type_byte k ≡ b
SaysKind b (Err e) = (k : Kind) → type_byte k ≢ b

-- a number in eight bytes, the high one first
unfoldable pub amount_bytes : ℕ → List ℕ
amount_bytes n = n / 72057594037927936 % 256 ∷ n / 281474976710656 % 256 ∷ n / 1099511627776 % 256 ∷ n / 4294967296 % 256 ∷ n / 16777216 % 256 ∷ n / 65536 % 256 ∷ n / 256 % 256 ∷ n % 256 ∷ []

-- the fields of each kind, in their order
abbrev pub prepare_bytes : PrepareValue → List ℕ
prepare_bytes v = amount_bytes v.amount ++ (digits_of v.expiry ++ (v.condition ++ (field_bytes v.destination ++ field_bytes v.payload)))

abbrev pub fulfill_bytes : FulfillValue → List ℕ
fulfill_bytes v = v.fulfilment ++ field_bytes v.payload

abbrev pub reject_bytes : RejectValue → List ℕ
reject_bytes v = v.code ++ (field_bytes v.triggered_by ++ (field_bytes v.message ++ field_bytes v.payload))

abbrev pub content_bytes : PacketValue → List ℕ
content_bytes (prepare v) = prepare_bytes v
content_bytes (fulfill v) = fulfill_bytes v
content_bytes (reject v) = reject_bytes v

-- the type byte, and the content behind its determinant
unfoldable pub packet_bytes : PacketValue → List ℕ
packet_bytes v = type_byte (kind_of v) ∷ field_bytes (content_bytes v)

-- an address, or nothing
abbrev pub is_trigger : List ℕ → Bool
is_trigger s = length s == 0 || is_address s

pub record PrepareFits (v : PrepareValue) : Type 0 where
  pub amount : v.amount < 2 ^ 64
  pub expiry : v.expiry ≤ last_instant
  pub condition : length v.condition ≡ 32
  pub destination : is_address v.destination ≡ true
  pub payload : length v.payload ≤ 32767

pub record FulfillFits (v : FulfillValue) : Type 0 where
  pub fulfilment : length v.fulfilment ≡ 32
  pub payload : length v.payload ≤ 32767

pub record RejectFits (v : RejectValue) : Type 0 where
  pub code : is_code v.code ≡ true
  pub triggered_by : is_trigger v.triggered_by ≡ true
  pub message : length v.message ≤ 8191
  pub payload : length v.payload ≤ 32767

-- a well-formed packet: it has an encoding
abbrev pub WellFormed : PacketValue → Type 0
WellFormed (prepare v) = PrepareFits v
WellFormed (fulfill v) = FulfillFits v
WellFormed (reject v) = RejectFits v
