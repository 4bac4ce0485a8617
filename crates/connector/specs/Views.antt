-- What a connector shows. Assumes nothing.
use Rattle.std.specs.Prelude.{◌≡◌, Bool, true, false}
use Rattle.ledger.specs.Books.{Books}
use Rattle.ledger.specs.Views.{view}
use Rattle.messages.specs.Own.{own_bytes}
use Rattle.routing.specs.Tables.{listed}
use Rattle.protocol.specs.Outcomes.{SetUp}
use Rattle.connector.specs.declared.connector.Connector.{Connector}

module _ {S H : Type 0} where
  abbrev pub books_of : Connector S H → Books
  books_of c = view c.ledger

  abbrev pub set_up_of : Connector S H → SetUp
  set_up_of c = record { own = own_bytes c.own; routes = listed c.routes }

  -- what no call changes
  pub record SetUpStays (before after : Connector S H) : Type 0 where
    pub routes : after.routes ≡ before.routes
    pub own : after.own ≡ before.own
    pub hash : after.hash ≡ before.hash

  -- where a call refuses, the whole value is as it was
  abbrev pub SameUnless : Bool → Connector S H → Connector S H → Type 0
  SameUnless true before after = Unit {0}
  SameUnless false before after = after ≡ before
