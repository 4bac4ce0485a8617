-- What the packets of the program stand for: numbers and lists of bytes, with no place in memory. Assumes nothing.
use Rattle.std.specs.Prelude.{ℕ, List}
use Rattle.packet.specs.declared.value.Prepare.{Prepare}
use Rattle.packet.specs.declared.value.Fulfill.{Fulfill}
use Rattle.packet.specs.declared.value.Reject.{Reject}
use Rattle.packet.specs.declared.value.Packet.{Packet}
use Rattle.packet.specs.declared.value.Packet.TheVariants as packet
use Rattle.packet.specs.declared.value.Answer.{Answer}
use Rattle.packet.specs.declared.value.Answer.TheVariants as answer
use Rattle.packet.specs.declared.kind.Kind.{Kind}
use Rattle.packet.specs.declared.kind.Kind.TheVariants as kind

-- `payload` is the field that the format calls data
pub record PrepareValue : Type 0 where
  pub amount : ℕ
  pub expiry : ℕ
  pub condition : List ℕ
  pub destination : List ℕ
  pub payload : List ℕ

pub record FulfillValue : Type 0 where
  pub fulfilment : List ℕ
  pub payload : List ℕ

pub record RejectValue : Type 0 where
  pub code : List ℕ
  pub triggered_by : List ℕ
  pub message : List ℕ
  pub payload : List ℕ

pub data PacketValue : Type 0 where
  prepare : PrepareValue → PacketValue
  fulfill : FulfillValue → PacketValue
  reject : RejectValue → PacketValue

abbrev pub kind_of : PacketValue → Kind
kind_of (prepare v) = kind.Prepare
kind_of (fulfill v) = kind.Fulfill
kind_of (reject v) = kind.Reject

abbrev pub prepare_of : Prepare → PrepareValue
prepare_of p = record { amount = p.amount; expiry = p.expiry; condition = p.condition.now; destination = p.destination.now; payload = p.«data».now }

abbrev pub fulfill_of : Fulfill → FulfillValue
fulfill_of f = record { fulfilment = f.fulfilment.now; payload = f.«data».now }

abbrev pub reject_of : Reject → RejectValue
reject_of r = record { code = r.code.now; triggered_by = r.triggered_by.now; message = r.message.now; payload = r.«data».now }

abbrev pub packet_of : Packet → PacketValue
packet_of (packet.Prepare p) = prepare (prepare_of p)
packet_of (packet.Fulfill f) = fulfill (fulfill_of f)
packet_of (packet.Reject r) = reject (reject_of r)

abbrev pub answer_of : Answer → PacketValue
answer_of (answer.Fulfill f) = fulfill (fulfill_of f)
answer_of (answer.Reject r) = reject (reject_of r)
