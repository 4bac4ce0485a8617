-- The figures that accounts and tables of them show. Assumes nothing.
use Rattle.std.specs.Prelude.{List, take, Option}
use Rattle.std.specs.Option.{option_map}
use Rattle.accounts.specs.declared.figures.Figures.{Figures}
use Rattle.accounts.specs.declared.account.Account.{Account}
use Rattle.accounts.specs.declared.table.Accounts.{Accounts}

abbrev pub figures_of : Account → Figures
figures_of a = a.figures

abbrev pub shown : Option Account → Option Figures
shown = option_map figures_of

-- the accounts that are set up, in order
abbrev pub figures_list : Accounts → List Figures
figures_list t = take t.count t.rows

abbrev pub table_shown : Option Accounts → Option (List Figures)
table_shown = option_map figures_list
