use Rattle.std.proofs.Common.{◌≡◌, ◌<◌, get_or, drop}
use Rattle.pending.specs.Rows.{vacant, earliest_from}
use Rattle.pending.specs.Tables.{rows_of}
use Rattle.pending.proofs.table.PendingTable.earliest.Given as goal

abbrev pub invariant-loop-i : goal.invariant-loop-i
invariant-loop-i l =
    (l.best < l.i)
    × (earliest_from (get_or l.self.places l.best vacant) (drop l.i (rows_of l.self)) ≡ earliest_from (get_or l.self.places 0 vacant) (drop 1 (rows_of l.self)))
