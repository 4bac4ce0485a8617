-- What is decided of a Prepare, as an outcome, and what a decision to forward it rests on. Assumes nothing.
use Rattle.std.specs.Prelude.{◌≡◌, ℕ, ◌+◌, true, None, Ok, Err, Result}
use Rattle.stage.specs.declared.transfer.Transfer.{Transfer}
use Rattle.stage.specs.declared.transfer.Rejected.{Rejected}
use Rattle.stage.specs.declared.transfer.Passed.{Passed}
use Rattle.packet.specs.Values.{PrepareValue}
use Rattle.ledger.specs.Books.{Books, next_row, can_reserve}
use Rattle.protocol.specs.Messages.{onward}
use Rattle.protocol.specs.Calls.{reservation_for}
use Rattle.protocol.specs.Outcomes.{Outcome, rejects, forwards}
use Rattle.connector.specs.declared.prepared.Onward.{Onward}

abbrev pub goes_to : Onward → ℕ
goes_to o = o.transfer.accounts.outgoing

-- the Prepare as it goes on
abbrev pub going : PrepareValue → Onward → PrepareValue
going p o = onward p o.passed.amount o.passed.expiry

abbrev pub decided : Books → (a q : ℕ) → PrepareValue → Result Onward Rejected → Outcome
decided b a q p (Err r) = rejects b.time a q r.code r.first r.second None
decided b a q p (Ok o) = forwards b.time (next_row b (reservation_for a q p (goes_to o) o.passed)) (going p o)

-- the stack passes the transfer so, under the next number, and it can be reserved
abbrev pub Ready : (Transfer → Result Passed Rejected) → Books → (a : ℕ) → PrepareValue → Result Onward Rejected → Type 0
Ready look b a p (Err r) = Unit {0}
Ready look b a p (Ok o) =
    (look o.transfer ≡ Ok o.passed)
    × (o.transfer.number ≡ b.last + 1)
    × (o.transfer.expiry ≡ p.expiry)
    × ((q : ℕ) → can_reserve b (reservation_for a q p (goes_to o) o.passed) ≡ true)
