-- What a connector writes is read again as what it wrote.
use Rattle.std.proofs.Common.{◌≡◌, ℕ, ◌^◌, ◌<◌, ◌≤◌, Bool, true, false, cond, eqb, List, [], ◌++◌, length, Ok, Err, codes, Result, refl, ap, arith}
use Rattle.std.specs.Str.{bytes_eq}
use Rattle.std.proofs.lemmas.List.{length-append}
use Rattle.std.proofs.lemmas.Bool.{or_right}
use Rattle.wire.specs.declared.fault.Fault.{Fault}
use Rattle.wire.specs.declared.code.RejectCode.{RejectCode}
use Rattle.wire.specs.declared.code.RejectCode.TheVariants as code
use Rattle.wire.specs.Codes.{code_bytes, is_code}
use Rattle.address.specs.Addresses.{is_address}
use Rattle.packet.specs.Values.{PrepareValue, PacketValue, prepare, fulfill, reject}
use Rattle.packet.specs.Encoding.{amount_bytes, PrepareFits, RejectFits}
use Rattle.packet.specs.Readers.{read_as, prepare_kind, answer_kind}
use Rattle.packet.specs.OneEncoding.{Bytes}
use Rattle.packet.proofs.Packets.{one-encoding}
use Rattle.protocol.specs.Messages.{only_prepare, prepare_in, declined, only_answer, answer_in, onward, forwarded_bytes, our_reject, our_bytes}

was-prepare : (x : Result PacketValue Fault) (p : PrepareValue) → only_prepare x ≡ Ok p → x ≡ Ok (prepare p)
was-prepare (Ok (prepare q)) p e = let g : q ≡ p = cc in ap (λ v. Ok (prepare v)) g
was-prepare (Ok (fulfill f)) p e = absurd cc
was-prepare (Ok (reject r)) p e = absurd cc
was-prepare (Err f) p e = absurd cc

-- a Prepare that was read is well formed
read_fits : (bytes : List ℕ) (p : PrepareValue) → Bytes bytes → prepare_in bytes ≡ Ok p → PrepareFits p
unfolding prepare_in
read_fits bytes p b e = (one-encoding.back prepare_kind bytes (prepare p) b (was-prepare (read_as prepare_kind bytes) p e)).1

pub onward-again : (bytes : List ℕ) (p : PrepareValue) (amount expiry : ℕ) → Bytes bytes → prepare_in bytes ≡ Ok p → amount < 2 ^ 64 → expiry ≤ p.expiry → prepare_in (forwarded_bytes (onward p amount expiry)) ≡ Ok (onward p amount expiry)
unfolding prepare_in forwarded_bytes
onward-again bytes p amount expiry b e small l =
    let f = read_fits bytes p b e in
    ap only_prepare
    (one-encoding.forth prepare_kind (prepare (onward p amount expiry))
    (record { amount = small; expiry = omega (arith, f.expiry); condition = f.condition; destination = f.destination; payload = f.payload })
    refl)

code-bytes : (c : RejectCode) → is_code (code_bytes c) ≡ true
code-bytes code.BadRequest = refl
code-bytes code.InvalidPacket = refl
code-bytes code.Unreachable = refl
code-bytes code.InvalidAmount = refl
code-bytes code.InsufficientDestinationAmount = refl
code-bytes code.WrongCondition = refl
code-bytes code.UnexpectedPayment = refl
code-bytes code.CannotReceive = refl
code-bytes code.AmountTooLarge = refl
code-bytes code.FinalApplicationError = refl
code-bytes code.InternalError = refl
code-bytes code.PeerUnreachable = refl
code-bytes code.PeerBusy = refl
code-bytes code.ConnectorBusy = refl
code-bytes code.InsufficientLiquidity = refl
code-bytes code.RateLimited = refl
code-bytes code.TemporaryApplicationError = refl
code-bytes code.TransferTimedOut = refl
code-bytes code.InsufficientSourceAmount = refl
code-bytes code.InsufficientTimeout = refl
code-bytes code.RelativeApplicationError = refl

eight : (n : ℕ) → length (amount_bytes n) ≡ 8
unfolding amount_bytes
eight n = refl

short-data : (x : Bool) (first second : ℕ) → length (cond x (amount_bytes first ++ amount_bytes second) []) ≤ 32767
short-data true first second = omega (arith, length-append (amount_bytes first) (amount_bytes second), eight first, eight second)
short-data false first second = omega arith

-- our own Reject has an encoding, and is read as that Reject
pub our-fits : (own : List ℕ) (c : RejectCode) (first second : ℕ) → is_address own ≡ true → RejectFits (our_reject own c first second)
our-fits own c first second valid =
    record {
      code = code-bytes c;
      triggered_by = or_right (eqb (length own) 0) (is_address own) valid;
      message = omega arith;
      payload = short-data (bytes_eq (code_bytes c) (codes "F08")) first second;
    }

pub ours-again : (own : List ℕ) (c : RejectCode) (first second : ℕ) → is_address own ≡ true → answer_in (our_bytes own c first second) ≡ Ok (declined (our_reject own c first second))
unfolding answer_in our_bytes
ours-again own c first second valid =
    ap only_answer (one-encoding.forth answer_kind (reject (our_reject own c first second)) (our-fits own c first second valid) refl)
