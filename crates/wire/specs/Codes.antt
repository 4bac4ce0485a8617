-- The reject codes. Assumes nothing.
use Rattle.std.specs.Prelude.{◌≡◌, ◌≢◌, ℕ, Ok, Err, Result, Bool, ◌&&◌, ◌||◌, List, length, codes, ◌==◌, nat_le, slice_index}
use Rattle.wire.specs.declared.code.RejectCode.{RejectCode}
use Rattle.wire.specs.declared.code.RejectCode.TheVariants.{BadRequest, InvalidPacket, Unreachable, InvalidAmount, InsufficientDestinationAmount, WrongCondition, UnexpectedPayment, CannotReceive, AmountTooLarge, FinalApplicationError, InternalError, PeerUnreachable, PeerBusy, ConnectorBusy, InsufficientLiquidity, RateLimited, TemporaryApplicationError, TransferTimedOut, InsufficientSourceAmount, InsufficientTimeout, RelativeApplicationError}

-- the three bytes of a code
abbrev pub code_bytes : RejectCode → List ℕ
code_bytes BadRequest = codes "F00"
code_bytes InvalidPacket = codes "F01"
code_bytes Unreachable = codes "F02"
code_bytes InvalidAmount = codes "F03"
code_bytes InsufficientDestinationAmount = codes "F04"
code_bytes WrongCondition = codes "F05"
code_bytes UnexpectedPayment = codes "F06"
code_bytes CannotReceive = codes "F07"
code_bytes AmountTooLarge = codes "F08"
code_bytes FinalApplicationError = codes "F99"
code_bytes InternalError = codes "T00"
code_bytes PeerUnreachable = codes "T01"
code_bytes PeerBusy = codes "T02"
code_bytes ConnectorBusy = codes "T03"
code_bytes InsufficientLiquidity = codes "T04"
code_bytes RateLimited = codes "T05"
code_bytes TemporaryApplicationError = codes "T99"
code_bytes TransferTimedOut = codes "R00"
code_bytes InsufficientSourceAmount = codes "R01"
code_bytes InsufficientTimeout = codes "R02"
code_bytes RelativeApplicationError = codes "R99"

-- bytes name the code that has them, and none if no code has
abbrev pub NamesCode : {E : Type 0} → List ℕ → Result RejectCode E → Type 0
NamesCode s (Ok c) = code_bytes c ≡ s
NamesCode s (Err e) = (c : RejectCode) → code_bytes c ≢ s

abbrev pub is_digit : ℕ → Bool
is_digit b = nat_le 48 b && nat_le b 57

-- a code that may be read: F, T or R and two digits, of which the 21 above are some
abbrev pub is_code : List ℕ → Bool
is_code s =
    (length s == 3) && (slice_index s 0 == 70 || slice_index s 0 == 84 || slice_index s 0 == 82) && is_digit (slice_index s 1) && is_digit (slice_index s 2)
