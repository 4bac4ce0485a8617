use Rattle.pending.specs.Tables.{rows_of}
use Rattle.pending.proofs.Soonest.{reached, not-reached}
use Rattle.pending.proofs.table.PendingTable.first_expired.Goals as goal

pub returns-then-rows-place-clause-soonest : goal.returns-then-rows-place-clause-soonest
returns-then-rows-place-clause-soonest c = (not-reached (rows_of c.args.self.now) c.args.time c.in_ok-place.place c.in_ok-place.ensures (rw c.rows.ensures at c.if-rows-place.true)).1

pub returns-clause-soonest : goal.returns-clause-soonest
returns-clause-soonest c = (reached (rows_of c.args.self.now) c.args.time c.in_ok-place.place c.in_ok-place.ensures (rw c.rows.ensures at c.if-rows-place.false)).1
