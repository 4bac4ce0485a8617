-- What a whole packet is read as. Assumes nothing.
use Rattle.std.specs.Prelude.{ℕ, Bool, true, false, cond, List, length, Ok, Err, Result, ◌==◌}
use Rattle.wire.specs.declared.fault.Fault.{Fault}
use Rattle.wire.specs.declared.fault.Layer.TheVariants.{Field, Wrapper}
use Rattle.wire.specs.declared.fault.Cause.TheVariants.{NoBytes, WrongType, CutDeterminant, WrongLength, LeftOver}
use Rattle.wire.specs.Reading.{At, Read, at, forward, and_then, fails, has, byte, determinant}
use Rattle.packet.specs.declared.kind.Kind.{Kind}
use Rattle.packet.specs.declared.kind.Kind.TheVariants as kind
use Rattle.packet.specs.declared.value.Prepare.{Prepare}
use Rattle.packet.specs.Values.{PacketValue, prepare, fulfill, reject, prepare_of}
use Rattle.packet.specs.Fields.{read_prepare, read_fulfill, read_reject}

-- the kind that the type byte says
abbrev pub read_kind : At → Read Kind
read_kind a =
    cond (has 1 a)
    (cond (byte 0 a == 0x0C) (Ok (kind.Prepare, forward 1 a))
    (cond (byte 0 a == 0x0D) (Ok (kind.Fulfill, forward 1 a))
    (cond (byte 0 a == 0x0E) (Ok (kind.Reject, forward 1 a)) (fails Wrapper WrongType a))))
    (fails Wrapper NoBytes a)

-- the determinant of the content, which is to be as long as all that is left
unfoldable pub read_length : At → Read (Unit {0})
read_length a =
    and_then (determinant Wrapper CutDeterminant a) (λ n b.
    cond (n == length b.rest) (Ok (tt, b)) (fails Wrapper WrongLength a))

-- nothing is left over
abbrev pub read_end : At → Read (Unit {0})
read_end a = cond (has 1 a) (fails Field LeftOver a) (Ok (tt, a))

-- a content behind its determinant, whole
abbrev pub wholly : {X : Type 0} → (At → Read X) → At → Read X
wholly content a =
    and_then (read_length a) (λ _ b.
    and_then (content b) (λ x c.
    and_then (read_end c) (λ _ d. Ok (x, d))))

abbrev pub read_content : Kind → At → Read PacketValue
read_content kind.Prepare a = and_then (wholly read_prepare a) (λ p b. Ok (prepare p, b))
read_content kind.Fulfill a = and_then (wholly read_fulfill a) (λ f b. Ok (fulfill f, b))
read_content kind.Reject a = and_then (wholly read_reject a) (λ r b. Ok (reject r, b))

-- a reading's value or its fault, with no word of where the reading stands
abbrev pub read_result : {X : Type 0} → Read X → Result X Fault
read_result (Ok x) = Ok x.0
read_result (Err e) = Err e

-- a packet of one of the kinds that are asked for; another kind is a wrong type, whatever else is broken in it
abbrev pub asked : (Kind → Bool) → At → Read PacketValue
asked wanted a = and_then (read_kind a) (λ k b. cond (wanted k) (read_content k b) (fails Wrapper WrongType a))

unfoldable pub read_as : (Kind → Bool) → List ℕ → Result PacketValue Fault
read_as wanted bytes = read_result (asked wanted (at 0 bytes))

-- the kinds that each reader asks for
abbrev pub any_kind : Kind → Bool
any_kind k = true

abbrev pub prepare_kind : Kind → Bool
prepare_kind kind.Prepare = true
prepare_kind kind.Fulfill = false
prepare_kind kind.Reject = false

abbrev pub answer_kind : Kind → Bool
answer_kind kind.Prepare = false
answer_kind kind.Fulfill = true
answer_kind kind.Reject = true

-- what a reader's result stands for
abbrev pub valued : {X : Type 0} → (X → PacketValue) → Result X Fault → Result PacketValue Fault
valued mean (Ok x) = Ok (mean x)
valued mean (Err e) = Err e

abbrev pub prepare_value : Prepare → PacketValue
prepare_value p = prepare (prepare_of p)
