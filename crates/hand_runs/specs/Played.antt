-- Calls played one after the other by the definitions of their outcomes, over a plain stack: a list of numbers that passes
-- every transfer at half its amount, one second before its expiry. Assumes nothing.
use Rattle.std.specs.Prelude.{ℕ, ◌-◌, ◌/◌, List, [], ◌∷◌, ◌++◌, ℤ, Ok, Err, Result}
use Rattle.wire.specs.declared.fault.Fault.{Fault}
use Rattle.condition.specs.Practice.{practice}
use Rattle.stage.specs.declared.transfer.Transfer.{Transfer}
use Rattle.stage.specs.declared.transfer.Passed.{Passed}
use Rattle.stage.specs.declared.transfer.Rejected.{Rejected}
use Rattle.stage.specs.Numbers.{without}
use Rattle.ledger.specs.Books.{Books}
use Rattle.protocol.specs.Refusals.{refusal_number}
use Rattle.protocol.specs.Messages.{Answered, fulfilled, declined, answer_in}
use Rattle.protocol.specs.Outcomes.{SetUp, Reply, refused, rejected, forwarded, noted, ended, none_due, balance, Outcome, refuses, rejects, forwards, marks, ends, ends_none, settles}
use Rattle.protocol.specs.Calls.{prepare_outcome, sent_outcome, unsent_outcome, answer_outcome, tick_outcome, settle_outcome, room_needed}
use Rattle.protocol.specs.Turns.{books_after, written, reply_of}
use Rattle.protocol.specs.Sheet.{Call, prepare, sent, unsent, answer, tick, settle, Event, event}

abbrev pub passes : Transfer → Result Passed Rejected
passes t = Ok (record { amount = t.amount / 2; expiry = t.expiry - 1000 })

pub record State : Type 0 where
  pub books : Books
  pub numbers : List ℕ
  pub events : List Event

abbrev pub outcome : SetUp → Books → Call → Outcome
outcome s b (prepare a q t bytes) = prepare_outcome passes s b room_needed a q t bytes
outcome s b (sent n) = sent_outcome b n
outcome s b (unsent n) = unsent_outcome b room_needed n
outcome s b (answer a n t bytes) = answer_outcome practice b room_needed a n t bytes
outcome s b (tick t) = tick_outcome b room_needed t
outcome s b (settle a w m) = settle_outcome b a w m

abbrev pub numbers_after : List ℕ → Outcome → List ℕ
numbers_after xs (refuses r) = xs
numbers_after xs (rejects now a q c x y f) = xs
numbers_after xs (forwards now r p) = xs ++ r.number ∷ []
numbers_after xs (marks n) = xs
numbers_after xs (ends now r e) = without xs r.number
numbers_after xs (ends_none now) = xs
numbers_after xs (settles a z) = xs

abbrev pub turned : SetUp → State → Call → Outcome → State
turned s x c o = record { books = books_after x.books o; numbers = numbers_after x.numbers o; events = event c (reply_of s o) (written s o) ∷ x.events }

abbrev pub play : SetUp → State → List Call → State
play s x [] = x
play s x (c ∷ cs) = play s (turned s x c (outcome s x.books c)) cs

-- an event in short: a refusal's number, the code of a Reject, or what else was answered
pub data Short : Type 0 where
  no : ℕ → Short
  code : List ℕ → Short
  paid : Short
  went : (number account : ℕ) → Short
  done : Short
  none : Short
  owes : ℤ → Short

abbrev pub code_in : Result Answered Fault → Short
code_in (Err f) = none
code_in (Ok (fulfilled f)) = paid
code_in (Ok (declined r)) = code r.code

abbrev pub shortly : Reply → List ℕ → Short
shortly (refused r) packet = no (refusal_number r)
shortly (rejected x) packet = code_in (answer_in packet)
shortly (forwarded n a l d) packet = went n a
shortly noted packet = done
shortly (ended e) packet = code_in (answer_in packet)
shortly none_due packet = none
shortly (balance z) packet = owes z

-- the events in short, the first first
abbrev pub told : List Event → List Short → List Short
told [] xs = xs
told (e ∷ es) xs = told es (shortly e.reply e.packet ∷ xs)
