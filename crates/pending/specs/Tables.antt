-- What the calls of a table do. Assumes nothing.
use Rattle.std.specs.Prelude.{◌≡◌, ℕ, ◌<◌, Bool, true, false, cond, List, [], length, take, Some, None, Option, ◌==◌, nat_lt, slice_index_or}
use Rattle.std.specs.List.{position}
use Rattle.pending.specs.declared.row.Pending.{Pending}
use Rattle.pending.specs.declared.table.PendingTable.{PendingTable}
use Rattle.pending.specs.Rows.{vacant, earliest, due}

-- the most that can be pending
abbrev pub most_pending : ℕ
most_pending = 64

-- no row more can be added
abbrev pub is_full : List Pending → Bool
is_full rs = length rs == most_pending

-- the rows in use
abbrev pub rows_of : PendingTable → List Pending
rows_of t = take t.len t.places

-- the place of the first row with a number
abbrev pub place : ℕ → List Pending → Option ℕ
place n rs = position (λ r. r.number == n) rs

-- the row at a place
abbrev pub row_at : List Pending → ℕ → Option Pending
row_at rs i = cond (nat_lt i (length rs)) (Some (slice_index_or rs i vacant)) None

-- a place of the row that ends first
abbrev pub EarliestAt : List Pending → Option ℕ → Type 0
EarliestAt rs (Some i) = (i < length rs) × (earliest rs ≡ Some (slice_index_or rs i vacant))
EarliestAt rs None = rs ≡ []

-- a place of the row that is due, or none where none is
abbrev pub DueAt : List Pending → ℕ → Option ℕ → Type 0
DueAt rs time (Some i) = (i < length rs) × (due time rs ≡ Some (slice_index_or rs i vacant))
DueAt rs time None = due time rs ≡ None

-- where nothing was done, the whole value is as it was
abbrev pub SameUnless : Bool → PendingTable → PendingTable → Type 0
SameUnless true before after = Unit {0}
SameUnless false before after = after ≡ before
