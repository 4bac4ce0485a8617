-- What the first tests of a call come to. Assumes nothing.
use Rattle.std.specs.Prelude.{◌≡◌, true, Some, None, Option}
use Rattle.pending.specs.declared.row.Pending.{Pending}

-- no row, or one that was sent
abbrev pub NoneUnsent : Option Pending → Type 0
NoneUnsent None = Unit {0}
NoneUnsent (Some r) = r.sent ≡ true
