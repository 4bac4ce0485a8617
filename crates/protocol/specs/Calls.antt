-- How each call turns out: what is refused first, what a Prepare is rejected for, and what happens else. Each is a chain of
-- tests in the order of the rules. Assumes nothing.
use Rattle.std.specs.Prelude.{ℕ, ◌+◌, max, cond, ◌&&◌, List, ℤ, Some, None, Ok, Err, Option, Result, ◌==◌, nat_le, nat_lt}
use Rattle.std.specs.Str.{bytes_eq}
use Rattle.wire.specs.declared.fault.Fault.{Fault}
use Rattle.wire.specs.declared.code.RejectCode.TheVariants as code
use Rattle.calendar.specs.Calendar.{last_instant}
use Rattle.packet.specs.Values.{PrepareValue}
use Rattle.stage.specs.declared.accounts.AccountPair.{AccountPair}
use Rattle.stage.specs.declared.transfer.Transfer.{Transfer}
use Rattle.stage.specs.declared.transfer.Passed.{Passed}
use Rattle.stage.specs.declared.transfer.Rejected.{Rejected}
use Rattle.accounts.specs.Figures.{is_set_up, can_hold_in, can_hold_out}
use Rattle.pending.specs.declared.row.Pending.{Pending}
use Rattle.pending.specs.Rows.{lookup, due}
use Rattle.pending.specs.Tables.{is_full}
use Rattle.ledger.specs.declared.refusal.NotSettled.{NotSettled}
use Rattle.ledger.specs.declared.reservation.Reservation.{Reservation}
use Rattle.ledger.specs.Books.{Books, next_row, has_number}
use Rattle.ledger.specs.Settling.{settlement}
use Rattle.routing.specs.Routes.{route_for}
use Rattle.protocol.specs.declared.refusal.Refusal.TheVariants as refusal
use Rattle.protocol.specs.Refusals.{settling_refusal}
use Rattle.protocol.specs.Pairs.{pair_of}
use Rattle.protocol.specs.Messages.{prepare_in, Answered, fulfilled, declined, answer_in, onward}
use Rattle.protocol.specs.Outcomes.{SetUp, Ending, paid, passed_on, ours, Outcome, refuses, rejects, forwards, marks, ends, ends_none, settles}

-- a buffer that every packet fits
abbrev pub room_needed : ℕ
room_needed = 41_997

-- the connector time, a call at the time t counted
abbrev pub time_at : Books → ℕ → ℕ
time_at b t = max b.time t

-- the first three refusals: the buffer, the account, the time
abbrev pub if_roomy : ℕ → Outcome → Outcome
if_roomy room o = cond (nat_lt room room_needed) (refuses refusal.ShortBuffer) o

abbrev pub if_set_up : Books → ℕ → Outcome → Outcome
if_set_up b a o = cond (is_set_up b.accounts a) o (refuses refusal.NoAccount)

abbrev pub if_timely : ℕ → Outcome → Outcome
if_timely t o = cond (nat_lt last_instant t) (refuses refusal.TimeOutOfRange) o

-- PREPARE: the transfer that is put to the stack, and what is reserved where it passes
abbrev pub offered : Books → (now : ℕ) → PrepareValue → AccountPair → Transfer
offered b now p accounts = record { number = b.last + 1; accounts = accounts; amount = p.amount; expiry = p.expiry; time = now }

abbrev pub reservation_for : (a q : ℕ) → PrepareValue → (to : ℕ) → Passed → Reservation
reservation_for a q p to v =
    record {
      hold = record { sender = a; outgoing = to; amount_in = p.amount; amount_out = v.amount };
      request = q;
      expiry = v.expiry;
      condition = p.condition;
    }

abbrev pub plain_reject : (now a q : ℕ) → Rattle.wire.specs.declared.code.RejectCode.RejectCode → Outcome
plain_reject now a q c = rejects now a q c 0 0 None

-- the stack's verdict, and then whether the passed amount can be held out
abbrev pub by_verdict : Books → (a q now : ℕ) → PrepareValue → (to : ℕ) → Result Passed Rejected → Outcome
by_verdict b a q now p to (Err r) = rejects now a q r.code r.first r.second None
by_verdict b a q now p to (Ok v) =
    cond (can_hold_out b.accounts to v.amount)
    (forwards now (next_row b (reservation_for a q p to v)) (onward p v.amount v.expiry))
    (plain_reject now a q code.InsufficientLiquidity)

-- the amount can be held in, and the stack looks at the transfer
abbrev pub by_pair : (Transfer → Result Passed Rejected) → Books → (a q now : ℕ) → PrepareValue → (to : ℕ) → Option AccountPair → Outcome
by_pair look b a q now p to None = plain_reject now a q code.Unreachable
by_pair look b a q now p to (Some accounts) =
    cond (can_hold_in b.accounts a p.amount) (by_verdict b a q now p to (look (offered b now p accounts))) (plain_reject now a q code.InsufficientLiquidity)

-- no route, or one to the account that the packet came from
abbrev pub by_route : (Transfer → Result Passed Rejected) → Books → (a q now : ℕ) → PrepareValue → Option ℕ → Outcome
by_route look b a q now p None = plain_reject now a q code.Unreachable
by_route look b a q now p (Some to) = by_pair look b a q now p to (pair_of a to)

abbrev pub by_prepare : (Transfer → Result Passed Rejected) → SetUp → Books → (a q now : ℕ) → Result PrepareValue Fault → Outcome
by_prepare look s b a q now (Err f) = rejects now a q code.InvalidPacket 0 0 (Some f)
by_prepare look s b a q now (Ok p) =
    cond (has_number b)
    (cond (is_full b.rows) (plain_reject now a q code.ConnectorBusy)
    (cond (nat_le p.expiry now) (plain_reject now a q code.TransferTimedOut)
    (by_route look b a q now p (route_for s.routes p.destination))))
    (plain_reject now a q code.InternalError)

unfoldable pub prepare_outcome : (Transfer → Result Passed Rejected) → SetUp → Books → (room a q t : ℕ) → List ℕ → Outcome
prepare_outcome look s b room a q t bytes = if_roomy room (if_set_up b a (if_timely t (by_prepare look s b a q (time_at b t) (prepare_in bytes))))

-- SENT and UNSENT: of a packet that is pending and not marked as sent
abbrev pub if_unsent : Option Pending → (Pending → Outcome) → Outcome
if_unsent None then = refuses refusal.NotPending
if_unsent (Some r) then = cond r.sent (refuses refusal.NotPending) (then r)

unfoldable pub sent_outcome : Books → (n : ℕ) → Outcome
sent_outcome b n = if_unsent (lookup n b.rows) (λ r. marks n)

unfoldable pub unsent_outcome : Books → (room n : ℕ) → Outcome
unsent_outcome b room n = if_roomy room (if_unsent (lookup n b.rows) (λ r. ends b.time r (ours code.PeerUnreachable)))

-- ANSWER: whether it comes too late, and then what it brings
module _ (digest : List ℕ → List ℕ) where
  abbrev pub in_time : (bytes : List ℕ) → Pending → Answered → Ending
  in_time bytes r (declined x) = passed_on bytes
  in_time bytes r (fulfilled f) = cond (bytes_eq (digest f.fulfilment) r.condition) (paid bytes) (ours code.WrongCondition)

  abbrev pub ending_by : (now : ℕ) (bytes : List ℕ) → Pending → Answered → Ending
  ending_by now bytes r x = cond (nat_lt now r.expiry) (in_time bytes r x) (ours code.TransferTimedOut)

  abbrev pub by_answer : (now : ℕ) (bytes : List ℕ) → Pending → Result Answered Fault → Outcome
  by_answer now bytes r (Err f) = refuses (refusal.UnreadableAnswer f)
  by_answer now bytes r (Ok x) = ends now r (ending_by now bytes r x)

  -- of a packet that was sent, and to the account that answers
  abbrev pub by_record : (a now : ℕ) (bytes : List ℕ) → Option Pending → Outcome
  by_record a now bytes None = refuses refusal.NotPending
  by_record a now bytes (Some r) = cond (r.outgoing == a && r.sent) (by_answer now bytes r (answer_in bytes)) (refuses refusal.NotPending)

  unfoldable pub answer_outcome : Books → (room a n t : ℕ) → List ℕ → Outcome
  answer_outcome b room a n t bytes = if_roomy room (if_set_up b a (if_timely t (by_record a (time_at b t) bytes (lookup n b.rows))))

-- TICK: the packet that is due first
abbrev pub by_due : (now : ℕ) → Option Pending → Outcome
by_due now None = ends_none now
by_due now (Some r) = ends now r (ours code.TransferTimedOut)

unfoldable pub tick_outcome : Books → (room t : ℕ) → Outcome
tick_outcome b room t = if_roomy room (if_timely t (by_due (time_at b t) (due (time_at b t) b.rows)))

-- SETTLE: as the ledger settles
abbrev pub by_settlement : (a : ℕ) → Result ℤ NotSettled → Outcome
by_settlement a (Ok z) = settles a z
by_settlement a (Err e) = refuses (settling_refusal e)

unfoldable pub settle_outcome : Books → (a way amount : ℕ) → Outcome
settle_outcome b a way amount = by_settlement a (settlement b a way amount)
