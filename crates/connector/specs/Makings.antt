-- When a connector is made, and what it then is. Assumes nothing.
use Rattle.std.specs.Prelude.{◌≡◌, ℕ, Bool, true, false, ◌&&◌, List, length, Ok, Err, Result}
use Rattle.accounts.specs.SetUps.{set_up_fits}
use Rattle.stage.specs.Numbers.{is_empty}
use Rattle.ledger.specs.Books.{new_books}
use Rattle.messages.specs.Own.{own_fits, own_bytes}
use Rattle.routing.specs.declared.refusal.NotMade.TheVariants.{Refused, NoMemory}
use Rattle.routing.specs.declared.refusal.NotMade.{NotMade}
use Rattle.routing.specs.Entries.{given_list}
use Rattle.routing.specs.Routes.{routes_fit}
use Rattle.ledger.specs.declared.ledger.Ledger.{Ledger}
use Rattle.ledger.specs.Views.{view}
use Rattle.routing.specs.declared.table.Routes.{Routes}
use Rattle.routing.specs.Tables.{listed}
use Rattle.messages.specs.declared.own.OwnAddress.{OwnAddress}
use Rattle.connector.specs.declared.connector.Connector.{Connector}
use Rattle.connector.specs.declared.set_up.SetUp.{SetUp}
use Rattle.connector.specs.declared.set_up.Unmade.{Unmade}
use Rattle.connector.specs.Views.{books_of, set_up_of}

-- accounts, routes and address in bounds, and a stack that holds nothing open
abbrev pub all_fits : SetUp → List ℕ → Bool
all_fits s open-now =
    set_up_fits s.accounts.now && own_fits s.address.now && is_empty open-now && routes_fit (length s.accounts.now) (given_list s.routes.now)

-- the same but for the stack
abbrev pub parts_fit : SetUp → Bool
parts_fit s = set_up_fits s.accounts.now && own_fits s.address.now && routes_fit (length s.accounts.now) (given_list s.routes.now)

-- refused where something does not fit; else there was no memory
abbrev pub because : NotMade → Bool
because Refused = false
because NoMemory = true

-- the ledger, the routes and the address of a set-up that fits
pub record Parts (s : SetUp) (l : Ledger) (r : Routes) (o : OwnAddress) : Type 0 where
  pub fits : parts_fit s ≡ true
  pub books : view l ≡ new_books s.accounts.now
  pub own : own_bytes o ≡ s.address.now
  pub routes : listed r ≡ given_list s.routes.now

abbrev pub PartsMade : SetUp → Result (Ledger × Routes × OwnAddress) NotMade → Type 0
PartsMade s (Ok p) = Parts s p.0 p.1 p.2
PartsMade s (Err why) = parts_fit s ≡ because why

module _ {S H : Type 0} (held : S → List ℕ) where
  -- a new connector: its time and its last number are 0, its accounts new, and nothing is pending
  pub record New (s : SetUp) (stages : S) (hash : H) (c : Connector S H) : Type 0 where
    pub fits : all_fits s (held stages) ≡ true
    pub books : books_of c ≡ new_books s.accounts.now
    pub own : (set_up_of c).own ≡ s.address.now
    pub routes : (set_up_of c).routes ≡ given_list s.routes.now
    pub same_stages : c.stages ≡ stages
    pub same_hash : c.hash ≡ hash

  abbrev pub Made : SetUp → S → H → Result (Connector S H) (Unmade S H) → Type 0
  Made s stages hash (Ok c) = New s stages hash c
  Made s stages hash (Err e) = (e.stages ≡ stages) × (e.hash ≡ hash) × (all_fits s (held stages) ≡ because e.why)
