-- What the host's functions do to the connector, by the relations of its calls. Assumes nothing.
use Rattle.std.specs.Prelude.{◌≡◌, ℕ, Bool, true, false, ◌⊎◌, List, Some, None, Ok, Err, Option, Result}
use Rattle.protocol.specs.declared.ended.Ended.{Ended}
use Rattle.protocol.specs.declared.refusal.Refusal.{Refusal}
use Rattle.protocol.specs.Outcomes.{Reply, refused, ended, noted}
use Rattle.protocol.specs.Turns.{SentDoes, UnsentDoes, TickDoes}
use Rattle.connector.specs.declared.connector.Connector.{Connector}
use Rattle.connector.specs.declared.duty.SendDuty.{SendDuty}
use Rattle.connector.specs.Replies.{tick_reply}
use Rattle.connector.specs.Views.{books_of, set_up_of}

module _ {S H : Type 0} (held : S → List ℕ) where
  -- the calls, from one connector to the next
  abbrev pub Sends : Connector S H → ℕ → Reply → Connector S H → Type 0
  Sends c n r c' = SentDoes held (set_up_of c) (books_of c) c.stages n r (books_of c') c'.stages

  abbrev pub Unsends : Connector S H → ℕ → (buffer : List ℕ) → Reply → Connector S H → (buffer' : List ℕ) → Type 0
  Unsends c n buffer r c' buffer' = UnsentDoes held (set_up_of c) (books_of c) c.stages n buffer r (books_of c') c'.stages buffer'

  abbrev pub Ticks : Connector S H → (time : ℕ) (buffer : List ℕ) → Reply → Connector S H → (buffer' : List ℕ) → Type 0
  Ticks c t buffer r c' buffer' = TickDoes held (set_up_of c) (books_of c) c.stages t buffer r (books_of c') c'.stages buffer'

  -- where the link is full nothing is done, and the duty is the one that was handed in; else the call is made
  abbrev pub Offered : Bool → Connector S H → SendDuty → Result (Option SendDuty) Refusal → Connector S H → Type 0
  Offered taken c duty (Ok (Some back)) c' = (taken ≡ false) × (back ≡ duty) × (c' ≡ c)
  Offered taken c duty (Ok None) c' = (taken ≡ true) × Sends c duty.number noted c'
  Offered taken c duty (Err e) c' = (taken ≡ true) × Sends c duty.number (refused e) c' × (c' ≡ c)

  -- the packet was sent, or ended as not sent; or one of these calls was refused, and nothing has changed
  abbrev pub Delivered : Connector S H → ℕ → (buffer : List ℕ) → Result (Option Ended) Refusal → Connector S H → (buffer' : List ℕ) → Type 0
  Delivered c n buffer (Ok None) c' buffer' = Sends c n noted c' × (buffer' ≡ buffer)
  Delivered c n buffer (Ok (Some e)) c' buffer' = Unsends c n buffer (ended e) c' buffer'
  Delivered c n buffer (Err e) c' buffer' = (Sends c n (refused e) c' ⊎ Unsends c n buffer (refused e) c' buffer') × (c' ≡ c) × (buffer' ≡ buffer)

  -- both calls were made, one after the other; or the first was refused, and nothing has changed
  abbrev pub SentAndTicked : Connector S H → (n time : ℕ) (buffer : List ℕ) → Result (Option Ended) Refusal → Connector S H → (buffer' : List ℕ) → Type 0
  SentAndTicked c n t buffer r c' buffer' =
      ((between : Connector S H) × Sends c n noted between × Ticks between t buffer (tick_reply r) c' buffer')
      ⊎ ((e : Refusal) × Sends c n (refused e) c' × (r ≡ Err e) × (c' ≡ c) × (buffer' ≡ buffer))
