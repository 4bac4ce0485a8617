-- What is read, as definitions on lists of bytes. Assumes nothing.
use Rattle.std.specs.Prelude.{◌≡◌, ℕ, suc, ◌+◌, ◌*◌, Bool, false, cond, List, [], ◌∷◌, length, take, drop, Ok, Err, Result, ◌==◌, nat_le, nat_lt, slice_index}
use Rattle.wire.specs.declared.fault.Layer.{Layer}
use Rattle.wire.specs.declared.fault.Layer.TheVariants.{Field}
use Rattle.wire.specs.declared.fault.Cause.{Cause}
use Rattle.wire.specs.declared.fault.Cause.TheVariants.{BadDeterminant, TooLong, CutShort}
use Rattle.wire.specs.declared.fault.Fault.{Fault}
use Rattle.wire.specs.declared.reader.Reader.{Reader}

-- where a reading stands: a place in the packet, counted from its first byte, and the bytes from there on
pub record At : Type 0 where
  pub place : ℕ
  pub rest : List ℕ

-- at a place of a packet
abbrev pub at : ℕ → List ℕ → At
at p bytes = record { place = p; rest = drop p bytes }

abbrev pub standing : Reader → At
standing r = at r.place r.bytes.now

-- n bytes further on
unfoldable pub forward : ℕ → At → At
forward n a = record { place = a.place + n; rest = drop n a.rest }

-- what a reading gives: a value and where it then stands, or the first fault
abbrev pub Read : Type 0 → Type 0
Read X = Result (X × At) Fault

-- a call gave what a definition reads: `mean` says what the call's value stands for, and `after` where the reader is
-- at the return. After a fault the reader's place means nothing.
abbrev pub Reads : {X A : Type 0} → (X → A) → Result X Fault → Read A → At → Type 0
Reads mean (Ok x) spec after = spec ≡ Ok (mean x, after)
Reads mean (Err e) spec after = spec ≡ Err e

-- one reading, and then another from where it came to; the first fault ends it
abbrev pub and_then : {X Y : Type 0} → Read X → (X → At → Read Y) → Read Y
and_then (Ok x) next = next x.0 x.1
and_then (Err e) next = Err e

abbrev pub fault_at : Layer → Cause → At → Fault
fault_at l c a = record { layer = l; cause = c; offset = a.place }

abbrev pub fails : {X : Type 0} → Layer → Cause → At → Read X
fails l c a = Err (fault_at l c a)

-- there are n bytes more, at least
abbrev pub has : ℕ → At → Bool
has n a = nat_le n (length a.rest)

abbrev pub byte : ℕ → At → ℕ
byte k a = slice_index a.rest k

-- the next n bytes, or the fault `cut` where there are fewer
abbrev pub next_bytes : Fault → ℕ → At → Read (List ℕ)
next_bytes cut n a = cond (has n a) (Ok (take n a.rest, forward n a)) (Err cut)

-- a field of n bytes and no determinant
abbrev pub fixed : ℕ → At → Read (List ℕ)
fixed n a = next_bytes (fault_at Field CutShort a) n a

-- The length that a determinant says. A first byte of 0 to 127 is the length; after 129 it stands in one byte more, and
-- after 130 in two, the high one first. Any other first byte is bad, and so is a length that a shorter determinant could
-- say. A determinant is judged once all its bytes are there: `cut` is what the layer calls one that is not.
abbrev pub in_one_more : Layer → Cause → At → Read ℕ
in_one_more l cut a =
    cond (has 2 a) (cond (nat_lt (byte 1 a) 128) (fails l BadDeterminant a) (Ok (byte 1 a, forward 2 a))) (fails l cut a)

abbrev pub in_two_more : Layer → Cause → At → Read ℕ
in_two_more l cut a =
    cond (has 3 a)
    (cond (nat_lt (byte 1 a * 256 + byte 2 a) 256) (fails l BadDeterminant a) (Ok (byte 1 a * 256 + byte 2 a, forward 3 a)))
    (fails l cut a)

unfoldable pub determinant : Layer → Cause → At → Read ℕ
determinant l cut a =
    cond (has 1 a)
    (cond (nat_lt (byte 0 a) 128) (Ok (byte 0 a, forward 1 a))
    (cond (byte 0 a == 129) (in_one_more l cut a)
    (cond (byte 0 a == 130) (in_two_more l cut a) (fails l BadDeterminant a))))
    (fails l cut a)

-- a field with a determinant, of at most max bytes; each of its faults is told at the determinant
unfoldable pub field : ℕ → At → Read (List ℕ)
field max a = and_then (determinant Field CutShort a) (λ n b. cond (nat_lt max n) (fails Field TooLong a) (next_bytes (fault_at Field CutShort a) n b))

-- how many bytes stand before the first b, or all
abbrev pub before : ℕ → List ℕ → ℕ
before b [] = 0
before b (x ∷ xs) = cond (x == b) 0 (suc (before b xs))

abbrev pub begins_with : ℕ → List ℕ → Bool
begins_with b [] = false
begins_with b (x ∷ xs) = x == b
