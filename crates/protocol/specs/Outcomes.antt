-- What a connector is set up with, what its calls answer, and the ways in which a call can turn out. Assumes nothing.
use Rattle.std.specs.Prelude.{ℕ, Bool, true, false, List, ℤ, Option}
use Rattle.wire.specs.declared.fault.Fault.{Fault}
use Rattle.wire.specs.declared.code.RejectCode.{RejectCode}
use Rattle.packet.specs.Values.{PrepareValue}
use Rattle.pending.specs.declared.row.Pending.{Pending}
use Rattle.routing.specs.Routes.{RouteValue}
use Rattle.protocol.specs.declared.refusal.Refusal.{Refusal}
use Rattle.protocol.specs.declared.ended.Ended.{Ended}
use Rattle.protocol.specs.declared.ended.Rejected.{Rejected}

-- what stays as it was set up: our own address, and the routes
pub record SetUp : Type 0 where
  pub own : List ℕ
  pub routes : List RouteValue

-- what a call answers
pub data Reply : Type 0 where
  refused : Refusal → Reply
  rejected : Rejected → Reply
  -- the packet's number, the account that it goes to, its length, and the number of the duty to send it
  forwarded : (number account length duty : ℕ) → Reply
  noted : Reply
  ended : Ended → Reply
  none_due : Reply
  balance : ℤ → Reply

-- how a pending packet ends: by the peer's Fulfill, by the peer's Reject, or by a Reject of ours
pub data Ending : Type 0 where
  paid : (bytes : List ℕ) → Ending
  passed_on : (bytes : List ℕ) → Ending
  ours : RejectCode → Ending

abbrev pub is_paid : Ending → Bool
is_paid (paid bytes) = true
is_paid (passed_on bytes) = false
is_paid (ours c) = false

-- how a call turns out
pub data Outcome : Type 0 where
  refuses : Refusal → Outcome
  rejects : (time account request : ℕ) → RejectCode → (first second : ℕ) → Option Fault → Outcome
  forwards : (time : ℕ) → Pending → PrepareValue → Outcome
  marks : (number : ℕ) → Outcome
  ends : (time : ℕ) → Pending → Ending → Outcome
  ends_none : (time : ℕ) → Outcome
  settles : (account : ℕ) → ℤ → Outcome
