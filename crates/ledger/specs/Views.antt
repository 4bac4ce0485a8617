-- What a ledger shows. Assumes nothing.
use Rattle.std.specs.Prelude.{◌≡◌, Bool, true, false, Option}
use Rattle.std.specs.Option.{option_map}
use Rattle.ledger.specs.declared.ledger.Ledger.{Ledger}
use Rattle.ledger.specs.Books.{Books}
use Rattle.ledger.specs.Parts.{books}

abbrev pub view : Ledger → Books
view l = books l.time l.last l.accounts l.pending

abbrev pub shown_books : Option Ledger → Option Books
shown_books = option_map view

-- where nothing was done, the whole value is as it was
abbrev pub SameUnless : Bool → Ledger → Ledger → Type 0
SameUnless true before after = Unit {0}
SameUnless false before after = after ≡ before
