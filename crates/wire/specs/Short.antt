-- The bytes that a value owns. Assumes nothing.
use Rattle.std.specs.Prelude.{ℕ, List, take, Option, Some, None}
use Rattle.wire.specs.declared.short.ShortBytes.{ShortBytes}

abbrev pub short_bytes : {N : ℕ} → ShortBytes N → List ℕ
short_bytes s = take s.length s.bytes

abbrev pub shown_short : {N : ℕ} → Option (ShortBytes N) → Option (List ℕ)
shown_short (Some s) = Some (short_bytes s)
shown_short None = None
