-- Runs of a connector, and what every run keeps. Assumes nothing.
use Rattle.std.specs.Prelude.{◌≡◌, ℕ, ◌<◌, ◌≤◌, true, cond, ◌⊎◌, List, [], ◌∷◌, ◌++◌, map, length, ℤ, Some, None, Ok, Err, Result, nat_lt}
use Rattle.wire.specs.declared.fault.Fault.{Fault}
use Rattle.wire.specs.declared.code.RejectCode.TheVariants as code
use Rattle.address.specs.Addresses.{is_address}
use Rattle.packet.specs.Values.{PrepareValue, FulfillValue}
use Rattle.packet.specs.OneEncoding.{Bytes}
use Rattle.stage.specs.declared.transfer.Transfer.{Transfer}
use Rattle.stage.specs.declared.transfer.Passed.{Passed}
use Rattle.stage.specs.declared.transfer.Rejected.{Rejected}
use Rattle.accounts.specs.declared.figures.Figures.{Figures}
use Rattle.accounts.specs.declared.limits.Limits.{Limits}
use Rattle.accounts.specs.Figures.{Keeps}
use Rattle.accounts.specs.SetUps.{set_up_fits}
use Rattle.pending.specs.declared.row.Pending.{Pending}
use Rattle.pending.specs.Rows.{lookup}
use Rattle.ledger.specs.Sums.{sum_in, sum_out}
use Rattle.ledger.specs.Books.{Books, figures_at, new_books}
use Rattle.routing.specs.Routes.{routes_fit}
use Rattle.protocol.specs.Messages.{prepare_in, Answered, fulfilled, declined, answer_in, our_bytes}
use Rattle.protocol.specs.Outcomes.{SetUp, Reply, forwarded}
use Rattle.protocol.specs.Turns.{PrepareDoes, SentDoes, UnsentDoes, AnswerDoes, TickDoes, SettleDoes}
use Rattle.protocol.specs.Sheet.{Call, prepare, sent, unsent, answer, tick, settle, Event, event, Sheet, sheet, packet_in, decided, times_ended, time_of}

-- what a connector starts from: one to eight new accounts, nothing pending, our own address and the routes
pub record NewConnector (s : SetUp) (first : Books) : Type 0 where
  pub limits : List Limits
  pub fits : set_up_fits limits ≡ true
  pub books : first ≡ new_books limits
  pub address : is_address s.own ≡ true
  pub short : length s.own ≤ 64
  pub routes : routes_fit (length limits) s.routes ≡ true

-- one of the events
abbrev pub Among : Event → List Event → Type 0
Among e [] = ⊥
Among e (f ∷ fs) = (f ≡ e) ⊎ Among e fs

-- RECORDS MATCH THE SHEET
abbrev pub numbers_of : List Pending → List ℕ
numbers_of = map (λ (r : Pending). r.number)

module _ {St : Type 0} (held : St → List ℕ) where
  pub record RecordsMatch (s : Sheet) (b : Books) (p : St) : Type 0 where
    -- the pending records are, in all that a row has, the rows of the sheet
    pub rows : b.rows ≡ s.rows
    -- the open numbers of the stack are the pending numbers
    pub open_numbers : held p ≡ numbers_of s.rows
    pub time : b.time ≡ s.time
    pub last : b.last ≡ s.forwarded

-- PENDING UNTIL ITS DECISIVE CALL
-- a call that forwarded a packet under a number: what it read, and what it wrote
pub record Forwarding (n : ℕ) (e : Event) : Type 0 where
  pub sender : ℕ
  pub request : ℕ
  pub time : ℕ
  pub bytes : List ℕ
  pub outgoing : ℕ
  pub packet : List ℕ
  pub asked : PrepareValue
  pub went : PrepareValue
  pub is : e ≡ event (prepare sender request time bytes) (forwarded n outgoing (length packet) n) packet
  pub reads : prepare_in bytes ≡ Ok asked
  pub wrote : prepare_in packet ≡ Ok went

-- the row that stands for it; its mark may be either
pub record StandsFor (n : ℕ) (e : Event) (f : Forwarding n e) (r : Pending) : Type 0 where
  pub number : r.number ≡ n
  pub sender : r.sender ≡ f.sender
  pub request : r.request ≡ f.request
  pub outgoing : r.outgoing ≡ f.outgoing
  pub amount_in : r.amount_in ≡ f.asked.amount
  pub condition : r.condition ≡ f.asked.condition
  pub amount_out : r.amount_out ≡ f.went.amount
  pub expiry : r.expiry ≡ f.went.expiry

-- whatever was forwarded: no call was decisive for it and its record stands, or one call was and no record has its number
abbrev pub PendingUntilDecided : (List ℕ → List ℕ) → List Event → Books → Type 0
PendingUntilDecided digest es b =
    (n : ℕ) (e : Event) → Among e es → (f : Forwarding n e)
    → ((times_ended digest n es ≡ 0) × (r : Pending) × (lookup n b.rows ≡ Some r) × StandsFor n e f r)
    ⊎ ((times_ended digest n es ≡ 1) × (lookup n b.rows ≡ None))

-- BALANCES MATCH THE SHEET
-- an account: its balance and held sums are those of the sheet, its limits are as they were set up, and both hold
pub record AccountMatches (limits : Figures) (balance-due : ℤ) (in-due out-due : ℕ) (f : Figures) : Type 0 where
  pub balance : f.balance ≡ balance-due
  pub held_in : f.held_in ≡ in-due
  pub held_out : f.held_out ≡ out-due
  pub same_ceiling : f.ceiling ≡ limits.ceiling
  pub same_floor : f.floor ≡ limits.floor
  pub keeps : Keeps f

pub record BalancesMatch (first : Books) (s : Sheet) (b : Books) : Type 0 where
  pub same_accounts : length b.accounts ≡ length first.accounts
  pub each : (a : ℕ) → a < length first.accounts → AccountMatches (figures_at first a) (s.balance a) (sum_in a s.rows) (sum_out a s.rows) (figures_at b a)

-- A FULFILMENT NEEDS THE SECRET IN TIME
-- an answer that brings, before the outgoing expiry, a fulfilment whose hash is the condition
pub record Fulfilling (digest : List ℕ → List ℕ) (now : ℕ) (c : Call) (r : Pending) : Type 0 where
  pub account : ℕ
  pub time : ℕ
  pub bytes : List ℕ
  pub brought : FulfillValue
  pub is_answer : c ≡ answer account r.number time bytes
  pub brings : answer_in bytes ≡ Ok (fulfilled brought)
  pub matching : digest brought.fulfilment ≡ r.condition
  pub before : now < r.expiry

-- the Reject that the rules want, where a decisive call does not fulfil
abbrev pub answer_reject : List ℕ → (now : ℕ) (bytes : List ℕ) → Pending → Result Answered Fault → List ℕ
answer_reject own now bytes r (Err f) = []
answer_reject own now bytes r (Ok (declined x)) = cond (nat_lt now r.expiry) bytes (our_bytes own code.TransferTimedOut 0 0)
answer_reject own now bytes r (Ok (fulfilled f)) = cond (nat_lt now r.expiry) (our_bytes own code.WrongCondition 0 0) (our_bytes own code.TransferTimedOut 0 0)

abbrev pub due_reject : List ℕ → (now : ℕ) → Call → Pending → List ℕ
due_reject own now (prepare a q t bytes) r = []
due_reject own now (sent n) r = []
due_reject own now (unsent n) r = our_bytes own code.PeerUnreachable 0 0
due_reject own now (answer a n t bytes) r = answer_reject own now bytes r (answer_in bytes)
due_reject own now (tick t) r = our_bytes own code.TransferTimedOut 0 0
due_reject own now (settle a w m) r = []

-- the Prepare that a row stands for came before, and its own expiry is not before the row's
pub record Origin (es : List Event) (r : Pending) : Type 0 where
  pub origin : Event
  pub came_before : Among origin es
  pub forwarding : Forwarding r.number origin
  pub stands : StandsFor r.number origin forwarding r
  pub not_later : r.expiry ≤ forwarding.asked.expiry

module _ (digest : List ℕ → List ℕ) where
  -- what a call writes that is decisive for a row, at a connector time now
  pub record DecidedRight (own : List ℕ) (now : ℕ) (es : List Event) (e : Event) (r : Pending) : Type 0 where
    -- where it fulfils, it writes the peer's Fulfill
    pub fulfills : (f : Fulfilling digest now e.call r) → e.packet ≡ f.bytes
    -- before the expiry that was read in the forwarded Prepare, too
    pub in_time : Fulfilling digest now e.call r → (o : Origin es r) × (now < o.forwarding.asked.expiry)
    -- otherwise it writes the Reject that the rules want
    pub rejects : (Fulfilling digest now e.call r → ⊥) → e.packet ≡ due_reject own now e.call r
    -- and so it writes a Fulfill only where it fulfils
    pub only_then : (f : FulfillValue) → answer_in e.packet ≡ Ok (fulfilled f) → Fulfilling digest now e.call r

  abbrev pub AFulfilmentNeedsTheSecretInTime : List ℕ → List Event → Type 0
  AFulfilmentNeedsTheSecretInTime own [] = Unit {0}
  AFulfilmentNeedsTheSecretInTime own (e ∷ es) =
      ((r : Pending) → decided e (sheet digest es) ≡ Some r → DecidedRight own (time_of (sheet digest es).time e.call) es e r)
      × AFulfilmentNeedsTheSecretInTime own es

  module _ {St : Type 0} (held : St → List ℕ) where
    -- all of it, of the events so far and what they came to
    pub record Promise (s : SetUp) (first : Books) (es : List Event) (b : Books) (p : St) : Type 0 where
      pub records_match_the_sheet : RecordsMatch held (sheet digest es) b p
      pub pending_until_its_decisive_call : PendingUntilDecided digest es b
      pub balances_match_the_sheet : BalancesMatch first (sheet digest es) b
      pub a_fulfilment_needs_the_secret_in_time : AFulfilmentNeedsTheSecretInTime s.own es

    module _ (rule : St → Transfer → Result Passed Rejected) where
      -- A run: its events, the latest first, and the books and the stack that they came to. Any call may come at any
      -- time, sent and unsent with any number; each turns out by its relation.
      pub data Run (s : SetUp) (first : Books) : List Event → Books → St → Type 0 where
        begun : (p : St) → NewConnector s first → held p ≡ [] → Run s first [] first p
        prepared : {es : List Event} {b b' : Books} {p p' : St} (a q t : ℕ) (bytes buffer buffer' : List ℕ) (r : Reply) → Bytes bytes →
            Run s first es b p → PrepareDoes held rule s b p a q t bytes buffer r b' p' buffer' → Run s first (event (prepare a q t bytes) r (packet_in r buffer') ∷ es) b' p'
        sent-on : {es : List Event} {b b' : Books} {p p' : St} (n : ℕ) (r : Reply) →
            Run s first es b p → SentDoes held s b p n r b' p' → Run s first (event (sent n) r [] ∷ es) b' p'
        not-sent : {es : List Event} {b b' : Books} {p p' : St} (n : ℕ) (buffer buffer' : List ℕ) (r : Reply) →
            Run s first es b p → UnsentDoes held s b p n buffer r b' p' buffer' → Run s first (event (unsent n) r (packet_in r buffer') ∷ es) b' p'
        answered : {es : List Event} {b b' : Books} {p p' : St} (a n t : ℕ) (bytes buffer buffer' : List ℕ) (r : Reply) →
            Run s first es b p → AnswerDoes held digest s b p a n t bytes buffer r b' p' buffer' → Run s first (event (answer a n t bytes) r (packet_in r buffer') ∷ es) b' p'
        ticked : {es : List Event} {b b' : Books} {p p' : St} (t : ℕ) (buffer buffer' : List ℕ) (r : Reply) →
            Run s first es b p → TickDoes held s b p t buffer r b' p' buffer' → Run s first (event (tick t) r (packet_in r buffer') ∷ es) b' p'
        settled : {es : List Event} {b b' : Books} {p p' : St} (a way amount : ℕ) (r : Reply) →
            Run s first es b p → SettleDoes held s b p a way amount r b' p' → Run s first (event (settle a way amount) r [] ∷ es) b' p'

      -- the promise after every prefix of a run: each prefix is a run itself
      abbrev pub AfterEveryPrefix : SetUp → Books → List Event → Type 0
      AfterEveryPrefix s first es =
          (later earlier : List Event) → es ≡ later ++ earlier → (b : Books) × (p : St) × Run s first earlier b p × Promise s first earlier b p

-- for every set-up, every run and every prefix of it
abbrev pub EveryRun : {St : Type 0} → (St → List ℕ) → (St → Transfer → Result Passed Rejected) → (List ℕ → List ℕ) → Type 0
EveryRun {St} held rule digest =
    (s : SetUp) (first b : Books) (es : List Event) (p : St) → Run digest held rule s first es b p
    → Promise digest held s first es b p × AfterEveryPrefix digest held rule s first es
