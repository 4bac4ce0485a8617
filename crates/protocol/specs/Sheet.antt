-- The sheet of a run: what its calls, their answers and the packets that were forwarded come to. It is kept from the events
-- alone and never sees the books. A row of it is what a pending packet should be; the call that removes a row is the
-- packet's decisive call. Assumes nothing.
use Rattle.std.specs.Prelude.{ℕ, ◌+◌, max, Bool, true, false, cond, ◌&&◌, List, [], ◌∷◌, ◌++◌, take, ℤ, pos, ◌+ℤ◌, ◌-ℤ◌, Some, None, Ok, Err, Option, Result, ◌==◌, nat_lt}
use Rattle.std.specs.Str.{bytes_eq}
use Rattle.wire.specs.declared.fault.Fault.{Fault}
use Rattle.packet.specs.Values.{PrepareValue}
use Rattle.pending.specs.declared.row.Pending.{Pending}
use Rattle.pending.specs.Rows.{lookup, dropped, marked, due}
use Rattle.protocol.specs.Messages.{prepare_in, Answered, fulfilled, declined, answer_in}
use Rattle.protocol.specs.Outcomes.{Reply, refused, rejected, forwarded, noted, ended, none_due, balance}

-- a call with its arguments; sent and unsent come with the number of a duty
pub data Call : Type 0 where
  prepare : (account request time : ℕ) → (bytes : List ℕ) → Call
  sent : (duty : ℕ) → Call
  unsent : (duty : ℕ) → Call
  answer : (account number time : ℕ) → (bytes : List ℕ) → Call
  tick : (time : ℕ) → Call
  settle : (account way amount : ℕ) → Call

-- a call with what it answered and the bytes that it wrote
pub record Event : Type 0 where
  pub call : Call
  pub reply : Reply
  pub packet : List ℕ

abbrev pub event : Call → Reply → List ℕ → Event
event c r w = record { call = c; reply = r; packet = w }

pub record Sheet : Type 0 where
  pub time : ℕ
  pub forwarded : ℕ
  pub rows : List Pending
  pub balance : ℕ → ℤ

abbrev pub blank : Sheet
blank = record { time = 0; forwarded = 0; rows = []; balance = λ a. pos 0 }

abbrev pub is_refused : Reply → Bool
is_refused (refused r) = true
is_refused (rejected x) = false
is_refused (forwarded n a l d) = false
is_refused noted = false
is_refused (ended e) = false
is_refused none_due = false
is_refused (balance z) = false

-- the account that a forwarded Prepare goes to
abbrev pub sent_to : Reply → Option ℕ
sent_to (refused r) = None
sent_to (rejected x) = None
sent_to (forwarded n a l d) = Some a
sent_to noted = None
sent_to (ended e) = None
sent_to none_due = None
sent_to (balance z) = None

-- the length that was answered, and the bytes of the buffer that it measures
abbrev pub told : Reply → ℕ
told (refused r) = 0
told (rejected x) = x.ended.length
told (forwarded n a l d) = l
told noted = 0
told (ended e) = e.length
told none_due = 0
told (balance z) = 0

abbrev pub packet_in : Reply → List ℕ → List ℕ
packet_in r buffer = take (told r) buffer

-- the connector time after a call that was not refused
abbrev pub time_of : ℕ → Call → ℕ
time_of now (prepare a q t bytes) = max now t
time_of now (sent n) = now
time_of now (unsent n) = now
time_of now (answer a n t bytes) = max now t
time_of now (tick t) = max now t
time_of now (settle a w m) = now

abbrev pub with_time : ℕ → Sheet → Sheet
with_time t s = record { time = t; forwarded = s.forwarded; rows = s.rows; balance = s.balance }

abbrev pub with_rows : (List Pending → List Pending) → Sheet → Sheet
with_rows f s = record { time = s.time; forwarded = s.forwarded; rows = f s.rows; balance = s.balance }

abbrev pub with_balances : ((ℕ → ℤ) → ℕ → ℤ) → Sheet → Sheet
with_balances f s = record { time = s.time; forwarded = s.forwarded; rows = s.rows; balance = f s.balance }

abbrev pub changed : ℕ → (ℤ → ℤ) → (ℕ → ℤ) → ℕ → ℤ
changed a f z k = cond (a == k) (f (z k)) (z k)

-- the sender's balance gains the incoming amount, and the other's loses the outgoing amount
abbrev pub pays : Pending → (ℕ → ℤ) → ℕ → ℤ
pays r z = changed r.outgoing (λ x. x -ℤ pos r.amount_out) (changed r.sender (λ x. x +ℤ pos r.amount_in) z)

-- a settlement: the way 0 lowers the balance, and any other that is not refused raises it
abbrev pub moved : (way amount : ℕ) → ℤ → ℤ
moved way amount z = cond (way == 0) (z -ℤ pos amount) (z +ℤ pos amount)

-- a forwarded Prepare: the incoming amount and the condition as read, the outgoing amount and expiry as written
abbrev pub add_row : (a q : ℕ) → Option ℕ → Result PrepareValue Fault → Result PrepareValue Fault → Sheet → Sheet
add_row a q None x y s = s
add_row a q (Some to) (Err f) y s = s
add_row a q (Some to) (Ok p) (Err f) s = s
add_row a q (Some to) (Ok p) (Ok w) s =
    record {
      time = s.time;
      forwarded = s.forwarded + 1;
      rows = s.rows ++ record {
        number = s.forwarded + 1;
        sender = a;
        request = q;
        outgoing = to;
        amount_in = p.amount;
        amount_out = w.amount;
        expiry = w.expiry;
        condition = p.condition;
        sent = false;
      } ∷ [];
      balance = s.balance;
    }

abbrev pub remove : Option Pending → Sheet → Sheet
remove None s = s
remove (Some r) s = with_rows (dropped r.number) s

module _ (digest : List ℕ → List ℕ) where
  -- a Fulfill whose hash is the condition, before the outgoing expiry
  abbrev pub fulfils : (now : ℕ) → Pending → Answered → Bool
  fulfils now r (declined x) = false
  fulfils now r (fulfilled f) = nat_lt now r.expiry && bytes_eq (digest f.fulfilment) r.condition

  abbrev pub pay_if : Option Pending → Result Answered Fault → Sheet → Sheet
  pay_if None x s = s
  pay_if (Some r) (Err f) s = s
  pay_if (Some r) (Ok x) s = cond (fulfils s.time r x) (with_balances (pays r) s) s

  -- a call that is not refused, the sheet's time set
  abbrev pub by_call : Call → Reply → List ℕ → Sheet → Sheet
  by_call (prepare a q t bytes) reply packet s = add_row a q (sent_to reply) (prepare_in bytes) (prepare_in packet) s
  by_call (sent n) reply packet s = with_rows (marked n) s
  by_call (unsent n) reply packet s = with_rows (dropped n) s
  by_call (answer a n t bytes) reply packet s = with_rows (dropped n) (pay_if (lookup n s.rows) (answer_in bytes) s)
  by_call (tick t) reply packet s = remove (due s.time s.rows) s
  by_call (settle a way m) reply packet s = with_balances (changed a (moved way m)) s

  abbrev pub with-event : Event → Sheet → Sheet
  with-event e s = cond (is_refused e.reply) s (by_call e.call e.reply e.packet (with_time (time_of s.time e.call) s))

  -- of the events of a run, the latest first
  abbrev pub sheet : List Event → Sheet
  sheet [] = blank
  sheet (e ∷ es) = with-event e (sheet es)

-- the row that a call removes: the call is decisive for it
abbrev pub ended_by : Call → Sheet → Option Pending
ended_by (prepare a q t bytes) s = None
ended_by (sent n) s = None
ended_by (unsent n) s = lookup n s.rows
ended_by (answer a n t bytes) s = lookup n s.rows
ended_by (tick t) s = due (max s.time t) s.rows
ended_by (settle a w m) s = None

abbrev pub decided : Event → Sheet → Option Pending
decided e s = cond (is_refused e.reply) None (ended_by e.call s)

abbrev pub hits : ℕ → Option Pending → ℕ
hits n None = 0
hits n (Some r) = cond (r.number == n) 1 0

module _ (digest : List ℕ → List ℕ) where
  -- how many calls were decisive for the packet of a number
  abbrev pub times_ended : ℕ → List Event → ℕ
  times_ended n [] = 0
  times_ended n (e ∷ es) = hits n (decided e (sheet digest es)) + times_ended n es
