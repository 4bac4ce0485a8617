-- What the fields and the contents of a packet are read as. Assumes nothing.
use Rattle.std.specs.Prelude.{ℕ, ◌+◌, ◌*◌, Bool, cond, List, Some, None, Ok, Err, Option, slice_index}
use Rattle.wire.specs.declared.fault.Fault.{Fault}
use Rattle.wire.specs.declared.fault.Layer.TheVariants.{Field, Address, Calendar}
use Rattle.wire.specs.declared.fault.Cause.TheVariants.{BadCode, InvalidAddress, InvalidInstant}
use Rattle.wire.specs.Codes.{is_code}
use Rattle.wire.specs.Reading.{At, Read, and_then, fault_at, fixed, field}
use Rattle.calendar.specs.Calendar.{instant_of}
use Rattle.address.specs.Addresses.{is_address}
use Rattle.packet.specs.Values.{PrepareValue, FulfillValue, RejectValue}
use Rattle.packet.specs.Encoding.{is_trigger}

-- a field's bytes, unless a test of them fails: its fault is told at the field's first byte, its determinant if it has one
abbrev pub tested : (List ℕ → Bool) → Fault → List ℕ → At → Read (List ℕ)
tested test fault s b = cond (test s) (Ok (s, b)) (Err fault)

-- eight bytes say a number, the high one first
abbrev pub number : List ℕ → ℕ
number s = slice_index s 0 * 72057594037927936 + slice_index s 1 * 281474976710656 + slice_index s 2 * 1099511627776 + slice_index s 3 * 4294967296 + slice_index s 4 * 16777216 + slice_index s 5 * 65536 + slice_index s 6 * 256 + slice_index s 7

unfoldable pub read_amount : At → Read ℕ
read_amount a = and_then (fixed 8 a) (λ s b. Ok (number s, b))

-- the instant that the digits say
abbrev pub instant_or : Fault → At → Option ℕ → Read ℕ
instant_or fault b (Some i) = Ok (i, b)
instant_or fault b None = Err fault

unfoldable pub read_expiry : At → Read ℕ
read_expiry a = and_then (fixed 17 a) (λ s b. instant_or (fault_at Calendar InvalidInstant a) b (instant_of s))

unfoldable pub read_code : At → Read (List ℕ)
read_code a = and_then (fixed 3 a) (λ s b. tested is_code (fault_at Field BadCode a) s b)

unfoldable pub read_destination : At → Read (List ℕ)
read_destination a = and_then (field 1023 a) (λ s b. tested is_address (fault_at Address InvalidAddress a) s b)

unfoldable pub read_trigger : At → Read (List ℕ)
read_trigger a = and_then (field 1023 a) (λ s b. tested is_trigger (fault_at Address InvalidAddress a) s b)

-- the contents, field by field
abbrev pub read_prepare : At → Read PrepareValue
read_prepare a =
    and_then (read_amount a) (λ n b.
    and_then (read_expiry b) (λ t c.
    and_then (fixed 32 c) (λ h d.
    and_then (read_destination d) (λ s e.
    and_then (field 32767 e) (λ x f.
    Ok (record { amount = n; expiry = t; condition = h; destination = s; payload = x }, f))))))

abbrev pub read_fulfill : At → Read FulfillValue
read_fulfill a =
    and_then (fixed 32 a) (λ s b.
    and_then (field 32767 b) (λ x c.
    Ok (record { fulfilment = s; payload = x }, c)))

abbrev pub read_reject : At → Read RejectValue
read_reject a =
    and_then (read_code a) (λ k b.
    and_then (read_trigger b) (λ t c.
    and_then (field 8191 c) (λ m d.
    and_then (field 32767 d) (λ x e.
    Ok (record { code = k; triggered_by = t; message = m; payload = x }, e)))))
