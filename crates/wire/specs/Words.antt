-- What faults and codes are called. Assumes nothing.
use Rattle.std.specs.Prelude.{List, ℕ, ◌++◌, codes, decimal}
use Rattle.wire.specs.declared.code.RejectCode.{RejectCode}
use Rattle.wire.specs.declared.code.RejectCode.TheVariants.{BadRequest, InvalidPacket, Unreachable, InvalidAmount, InsufficientDestinationAmount, WrongCondition, UnexpectedPayment, CannotReceive, AmountTooLarge, FinalApplicationError, InternalError, PeerUnreachable, PeerBusy, ConnectorBusy, InsufficientLiquidity, RateLimited, TemporaryApplicationError, TransferTimedOut, InsufficientSourceAmount, InsufficientTimeout, RelativeApplicationError}
use Rattle.wire.specs.declared.fault.Layer.{Layer}
use Rattle.wire.specs.declared.fault.Layer.TheVariants as layer
use Rattle.wire.specs.declared.fault.Cause.{Cause}
use Rattle.wire.specs.declared.fault.Cause.TheVariants as cause
use Rattle.wire.specs.declared.fault.Fault.{Fault}

abbrev pub layer_words : Layer → List ℕ
layer_words layer.Wrapper = codes "wrapper"
layer_words layer.Field = codes "field"
layer_words layer.Address = codes "address"
layer_words layer.Calendar = codes "calendar"

abbrev pub cause_words : Cause → List ℕ
cause_words cause.NoBytes = codes "there are no bytes"
cause_words cause.WrongType = codes "the type byte is not 0C, 0D or 0E"
cause_words cause.BadDeterminant = codes "the length determinant is bad"
cause_words cause.CutDeterminant = codes "the length determinant is cut short"
cause_words cause.WrongLength = codes "the content is not as long as its determinant says"
cause_words cause.TooLong = codes "the field is longer than it may be"
cause_words cause.CutShort = codes "the field is cut short"
cause_words cause.BadCode = codes "the code is not F, T or R and two digits"
cause_words cause.LeftOver = codes "there are bytes after the last field"
cause_words cause.InvalidAddress = codes "the address is not valid"
cause_words cause.InvalidInstant = codes "the expiry is no date and time"

abbrev pub fault_words : Fault → List ℕ
fault_words f = layer_words f.layer ++ (codes " fault at byte " ++ (decimal f.offset ++ (codes ": " ++ cause_words f.cause)))

-- what Interledger calls a code
abbrev pub code_words : RejectCode → List ℕ
code_words BadRequest = codes "bad request"
code_words InvalidPacket = codes "invalid packet"
code_words Unreachable = codes "unreachable"
code_words InvalidAmount = codes "invalid amount"
code_words InsufficientDestinationAmount = codes "insufficient destination amount"
code_words WrongCondition = codes "wrong condition"
code_words UnexpectedPayment = codes "unexpected payment"
code_words CannotReceive = codes "cannot receive"
code_words AmountTooLarge = codes "amount too large"
code_words FinalApplicationError = codes "application error, final"
code_words InternalError = codes "internal error"
code_words PeerUnreachable = codes "peer unreachable"
code_words PeerBusy = codes "peer busy"
code_words ConnectorBusy = codes "connector busy"
code_words InsufficientLiquidity = codes "insufficient liquidity"
code_words RateLimited = codes "rate limited"
code_words TemporaryApplicationError = codes "application error, temporary"
code_words TransferTimedOut = codes "transfer timed out"
code_words InsufficientSourceAmount = codes "insufficient source amount"
code_words InsufficientTimeout = codes "insufficient timeout"
code_words RelativeApplicationError = codes "application error, relative"
