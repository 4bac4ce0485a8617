-- The packets that a connector's calls read and write. Assumes nothing.
use Rattle.std.specs.Prelude.{ℕ, cond, List, [], ◌++◌, Ok, Err, codes, Result}
use Rattle.std.specs.Str.{bytes_eq}
use Rattle.wire.specs.declared.fault.Fault.{Fault}
use Rattle.wire.specs.declared.fault.Layer.TheVariants.{Wrapper}
use Rattle.wire.specs.declared.fault.Cause.TheVariants.{WrongType}
use Rattle.wire.specs.declared.code.RejectCode.{RejectCode}
use Rattle.wire.specs.Codes.{code_bytes}
use Rattle.packet.specs.Values.{PrepareValue, FulfillValue, RejectValue, PacketValue, prepare, fulfill, reject}
use Rattle.packet.specs.Encoding.{amount_bytes, packet_bytes}
use Rattle.packet.specs.Readers.{read_as, prepare_kind, answer_kind}

-- a packet of another kind
abbrev pub wrong_type : Fault
wrong_type = record { layer = Wrapper; cause = WrongType; offset = 0 }

abbrev pub only_prepare : Result PacketValue Fault → Result PrepareValue Fault
only_prepare (Err f) = Err f
only_prepare (Ok (prepare p)) = Ok p
only_prepare (Ok (fulfill f)) = Err wrong_type
only_prepare (Ok (reject r)) = Err wrong_type

-- bytes, as a Prepare
unfoldable pub prepare_in : List ℕ → Result PrepareValue Fault
prepare_in bytes = only_prepare (read_as prepare_kind bytes)

-- what a peer may answer
pub data Answered : Type 0 where
  fulfilled : FulfillValue → Answered
  declined : RejectValue → Answered

abbrev pub only_answer : Result PacketValue Fault → Result Answered Fault
only_answer (Err f) = Err f
only_answer (Ok (prepare p)) = Err wrong_type
only_answer (Ok (fulfill f)) = Ok (fulfilled f)
only_answer (Ok (reject r)) = Ok (declined r)

-- bytes, as a Fulfill or a Reject
unfoldable pub answer_in : List ℕ → Result Answered Fault
answer_in bytes = only_answer (read_as answer_kind bytes)

-- a Prepare as it goes on: with another amount and another expiry
abbrev pub onward : PrepareValue → ℕ → ℕ → PrepareValue
onward p amount expiry = record { amount = amount; expiry = expiry; condition = p.condition; destination = p.destination; payload = p.payload }

unfoldable pub forwarded_bytes : PrepareValue → List ℕ
forwarded_bytes p = packet_bytes (prepare p)

-- a Reject of our own: our address, no message, and no data but the two numbers of F08
abbrev pub our_reject : List ℕ → RejectCode → ℕ → ℕ → RejectValue
our_reject own c first second =
    record {
      code = code_bytes c;
      triggered_by = own;
      message = [];
      payload = cond (bytes_eq (code_bytes c) (codes "F08")) (amount_bytes first ++ amount_bytes second) [];
    }

unfoldable pub our_bytes : List ℕ → RejectCode → ℕ → ℕ → List ℕ
our_bytes own c first second = packet_bytes (reject (our_reject own c first second))
