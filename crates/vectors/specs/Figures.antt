-- What the rules give at their edges, each as one line: times, lengths, one fault of each, and conversions. The definitions are those
-- that the contracts of the crates below name. Assumes nothing.
use Rattle.std.specs.Prelude.{◌≡◌, ℕ, List, [], ◌∷◌, Some, None, Ok, codes}
use Rattle.wire.specs.declared.fault.Layer.TheVariants.{Wrapper, Field, Calendar}
use Rattle.wire.specs.declared.fault.Cause.TheVariants.{BadDeterminant, CutDeterminant, CutShort, InvalidInstant}
use Rattle.wire.specs.Reading.{at, fails, determinant}
use Rattle.wire.specs.Writing.{determinant_of}
use Rattle.calendar.specs.Calendar.{instant_of, digits_of}
use Rattle.packet.specs.Fields.{read_expiry}
use Rattle.wire.specs.declared.code.RejectCode.TheVariants.{InsufficientSourceAmount}
use Rattle.stage.specs.declared.transfer.Transfer.{Transfer}
use Rattle.stage.specs.Verdicts.{rejects}
use Rattle.layers.specs.Layers.{with_amount, rate_own}

-- a determinant of these bytes is read as the length n, by the wrapper and by a field, and nothing is left after it
pub record ReadAs (bytes : List ℕ) (n : ℕ) (end : ℕ) : Type 0 where
  pub wrapper : determinant Wrapper CutDeterminant (at 0 bytes) ≡ Ok (n, record { place = end; rest = [] })
  pub in_field : determinant Field CutShort (at 0 bytes) ≡ Ok (n, record { place = end; rest = [] })

-- a transfer from account 0 to account 1
abbrev pub Between0And1 : Transfer → Type 0
Between0And1 t = (t.accounts.incoming ≡ 0) × (t.accounts.outgoing ≡ 1)

pub record EdgeFigures : Type 0 where
  -- 1970-01-01 00:00:00.000 is instant 0, and is written for it
  pub first_read : instant_of (codes "19700101000000000") ≡ Some 0
  pub first_written : digits_of 0 ≡ codes "19700101000000000"
  -- 2000 is a leap year: its first of March is 951,868,800,000
  pub march_2000_read : instant_of (codes "20000301000000000") ≡ Some 951_868_800_000
  pub march_2000_written : digits_of 951_868_800_000 ≡ codes "20000301000000000"
  -- 2001 is none: it has no 29th of February
  pub no_leap_day_2001 : instant_of (codes "20010229000000000") ≡ None
  -- and in a Prepare, whose expiry stands behind the amount, that is a fault of the calendar at the expiry's first byte
  pub no_leap_day_expiry : (p : ℕ) → read_expiry (record { place = p; rest = codes "20010229000000000" }) ≡ fails Calendar InvalidInstant (record { place = p; rest = codes "20010229000000000" })
  -- 9999-12-31 23:59:59.999, the last instant
  pub last_read : instant_of (codes "99991231235959999") ≡ Some 253_402_300_799_999
  pub last_written : digits_of 253_402_300_799_999 ≡ codes "99991231235959999"
  -- the longest length in one byte
  pub length_127_written : determinant_of 127 ≡ 0x7F ∷ []
  pub length_127_read : ReadAs (0x7F ∷ []) 127 1
  -- the shortest length in two
  pub length_128_written : determinant_of 128 ≡ 0x81 ∷ 0x80 ∷ []
  pub length_128_read : ReadAs (0x81 ∷ 0x80 ∷ []) 128 2
  -- the longest length in two
  pub length_255_written : determinant_of 255 ≡ 0x81 ∷ 0xFF ∷ []
  pub length_255_read : ReadAs (0x81 ∷ 0xFF ∷ []) 255 2
  -- the shortest length in three
  pub length_256_written : determinant_of 256 ≡ 0x82 ∷ 0x01 ∷ 0x00 ∷ []
  pub length_256_read : ReadAs (0x82 ∷ 0x01 ∷ 0x00 ∷ []) 256 3
  -- 127 in two bytes: a shorter determinant says it
  pub not_shortest_wrapper : determinant Wrapper CutDeterminant (at 0 (0x81 ∷ 0x7F ∷ [])) ≡ fails Wrapper BadDeterminant (at 0 (0x81 ∷ 0x7F ∷ []))
  pub not_shortest_field : determinant Field CutShort (at 0 (0x81 ∷ 0x7F ∷ [])) ≡ fails Field BadDeterminant (at 0 (0x81 ∷ 0x7F ∷ []))
  -- amount 10 at prices 3 to 7 becomes 4, amount 2 at prices 1 to 3 becomes nothing and gets R01, and amount 0 passes as 0
  pub ten_at_3_to_7 : (t : Transfer) → Between0And1 t → t.amount ≡ 10 → rate_own (3 ∷ 7 ∷ []) t ≡ Ok (with_amount t 4)
  pub two_at_1_to_3 : (t : Transfer) → Between0And1 t → t.amount ≡ 2 → rate_own (1 ∷ 3 ∷ []) t ≡ rejects InsufficientSourceAmount 0 0
  pub nothing_at_1_to_3 : (t : Transfer) → Between0And1 t → t.amount ≡ 0 → rate_own (1 ∷ 3 ∷ []) t ≡ Ok (with_amount t 0)
