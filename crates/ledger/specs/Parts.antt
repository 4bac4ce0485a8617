-- The model of a ledger, from its parts. Assumes nothing.
use Rattle.std.specs.Prelude.{ℕ}
use Rattle.pending.specs.declared.table.PendingTable.{PendingTable}
use Rattle.pending.specs.Tables.{rows_of}
use Rattle.accounts.specs.declared.table.Accounts.{Accounts}
use Rattle.accounts.specs.Views.{figures_list}
use Rattle.ledger.specs.Books.{Books}

abbrev pub books : ℕ → ℕ → Accounts → PendingTable → Books
books time last accounts pending = record { time = time; last = last; rows = rows_of pending; accounts = figures_list accounts }
