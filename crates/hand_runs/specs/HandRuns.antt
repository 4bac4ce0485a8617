-- Runs written down by hand: the calls, what each answers in short, and the two balances that they come to. The numbers are
-- those of the manual's rules, worked out on paper. Assumes nothing.
use Rattle.std.specs.Prelude.{◌≡◌, ℕ, List, [], ◌∷◌, ◌++◌, map, replicate, ℤ, pos, neg_ℤ, codes}
use Rattle.accounts.specs.declared.figures.Figures.{Figures}
use Rattle.condition.specs.Practice.{practice}
use Rattle.ledger.specs.Books.{new_books}
use Rattle.protocol.specs.Outcomes.{SetUp}
use Rattle.protocol.specs.Sheet.{Call, prepare, sent, unsent, answer, tick, settle, sheet}
use Rattle.hand_runs.specs.Played.{State, play, Short, no, code, paid, went, done, none, owes, told}

-- two peers: what begins with g.a goes to account 0, which may owe us 1,000, and what begins with g.b to account 1, which we
-- may owe 1,000
abbrev pub set_up : SetUp
set_up = record { own = codes "g.us"; routes = record { prefix = codes "g.a"; account = 0 } ∷ record { prefix = codes "g.b"; account = 1 } ∷ [] }

abbrev pub begun : State
begun = record { books = new_books (record { ceiling = 1000; floor = 0 } ∷ record { ceiling = 0; floor = 1000 } ∷ []); numbers = []; events = [] }

-- 2030-01-01, and one second before it
abbrev pub new_year : ℕ
new_year = 1_893_456_000_000

abbrev pub a_second_before : ℕ
a_second_before = 1_893_455_999_000

-- a Prepare without data that expires as 2030 begins: its amount's last two bytes, and its destination of five bytes. Its
-- condition is the practice hash of 32 zeros
abbrev pub asking : ℕ → ℕ → List ℕ → List ℕ
asking high low destination =
    0x0C ∷ 64 ∷ 0 ∷ 0 ∷ 0 ∷ 0 ∷ 0 ∷ 0 ∷ high ∷ low ∷ codes "20300101000000000" ++ (replicate 32 0x5A ++ (5 ∷ destination ++ 0 ∷ []))

-- 100 for g.b.x
abbrev pub hundred : List ℕ
hundred = asking 0 100 (codes "g.b.x")

-- a Fulfill with those zeros, one with another first byte, a peer's Reject by F99, and no packet at all
abbrev pub secret : List ℕ
secret = 0x0D ∷ 33 ∷ replicate 33 0

abbrev pub wrong : List ℕ
wrong = 0x0D ∷ 33 ∷ 1 ∷ replicate 32 0

abbrev pub refusing : List ℕ
refusing = 0x0E ∷ 6 ∷ codes "F99" ++ 0 ∷ 0 ∷ 0 ∷ []

abbrev pub junk : List ℕ
junk = 0x0D ∷ 33 ∷ []

abbrev pub after : List Call → State
after cs = play set_up begun cs

-- what each call answers, and the balances of the two accounts, in the books and on the sheet
pub record Turns (cs : List Call) (answers : List Short) (left right : ℤ) : Type 0 where
  pub answered : told (after cs).events [] ≡ answers
  pub booked : map (λ (f : Figures). f.balance) (after cs).books.accounts ≡ left ∷ right ∷ []
  pub left_on_the_sheet : (sheet practice (after cs).events).balance 0 ≡ left
  pub right_on_the_sheet : (sheet practice (after cs).events).balance 1 ≡ right

pub record HandWrittenRuns : Type 0 where
  -- forwarded at half the amount, sent, and fulfilled
  pub fulfilled : Turns (prepare 0 7 5 hundred ∷ sent 1 ∷ answer 1 1 6 secret ∷ []) (went 1 1 ∷ done ∷ paid ∷ []) (pos 100) (neg_ℤ (pos 50))
  -- in the last millisecond, and one too late
  pub just_in_time : Turns (prepare 0 7 5 hundred ∷ sent 1 ∷ answer 1 1 1_893_455_998_999 secret ∷ []) (went 1 1 ∷ done ∷ paid ∷ []) (pos 100) (neg_ℤ (pos 50))
  pub too_late : Turns (prepare 0 7 5 hundred ∷ sent 1 ∷ answer 1 1 a_second_before secret ∷ []) (went 1 1 ∷ done ∷ code (codes "R00") ∷ []) (pos 0) (pos 0)
  -- too late goes before a wrong secret and before the peer's Reject
  pub late_and_wrong : Turns (prepare 0 7 5 hundred ∷ sent 1 ∷ answer 1 1 new_year wrong ∷ []) (went 1 1 ∷ done ∷ code (codes "R00") ∷ []) (pos 0) (pos 0)
  pub wrong_secret : Turns (prepare 0 7 5 hundred ∷ sent 1 ∷ answer 1 1 6 wrong ∷ []) (went 1 1 ∷ done ∷ code (codes "F05") ∷ []) (pos 0) (pos 0)
  pub peer_refuses : Turns (prepare 0 7 5 hundred ∷ sent 1 ∷ answer 1 1 6 refusing ∷ []) (went 1 1 ∷ done ∷ code (codes "F99") ∷ []) (pos 0) (pos 0)
  -- junk is refused and ends nothing
  pub junk_answer : Turns (prepare 0 7 5 hundred ∷ sent 1 ∷ answer 1 1 6 junk ∷ answer 1 1 6 secret ∷ []) (went 1 1 ∷ done ∷ no 5 ∷ paid ∷ []) (pos 100) (neg_ℤ (pos 50))
  -- an answer before sent, of another account, of an account that is not set up, of another number, and after the end
  pub answers_refused : Turns (prepare 0 7 5 hundred ∷ answer 1 1 6 secret ∷ sent 1 ∷ answer 0 1 6 secret ∷ answer 2 1 6 secret ∷ answer 1 2 6 secret ∷ answer 1 1 6 secret ∷ answer 1 1 6 secret ∷ []) (went 1 1 ∷ no 4 ∷ done ∷ no 4 ∷ no 2 ∷ no 4 ∷ paid ∷ no 4 ∷ []) (pos 100) (neg_ℤ (pos 50))
  -- a duty is done once
  pub sent_or_unsent : Turns (prepare 0 7 5 hundred ∷ unsent 1 ∷ sent 1 ∷ prepare 0 8 5 hundred ∷ sent 2 ∷ unsent 2 ∷ sent 2 ∷ sent 9 ∷ []) (went 1 1 ∷ code (codes "T01") ∷ no 4 ∷ went 2 1 ∷ done ∷ no 4 ∷ no 4 ∷ no 4 ∷ []) (pos 0) (pos 0)
  -- tick ends what is due, one at a time, the lowest number first, and keeps its time
  pub swept : Turns (prepare 0 7 5 hundred ∷ prepare 0 8 5 hundred ∷ tick 1_893_455_998_999 ∷ tick a_second_before ∷ unsent 1 ∷ tick 0 ∷ tick 0 ∷ []) (went 1 1 ∷ went 2 1 ∷ none ∷ code (codes "R00") ∷ no 4 ∷ code (codes "R00") ∷ none ∷ []) (pos 0) (pos 0)
  -- what a Prepare is rejected for: no Prepare, no route, a route back, more than the ceiling allows, its expiry reached
  pub rejected : Turns (prepare 0 1 5 secret ∷ prepare 0 2 5 (asking 0 100 (codes "g.c.x")) ∷ prepare 1 3 5 hundred ∷ prepare 0 4 5 (asking 3 233 (codes "g.b.x")) ∷ prepare 0 5 new_year hundred ∷ []) (code (codes "F01") ∷ code (codes "F02") ∷ code (codes "F02") ∷ code (codes "T04") ∷ code (codes "R00") ∷ []) (pos 0) (pos 0)
  -- exactly the ceiling, and then nothing more until it is freed
  pub full_line : Turns (prepare 0 1 5 (asking 3 232 (codes "g.b.x")) ∷ prepare 0 2 5 (asking 0 1 (codes "g.b.x")) ∷ unsent 1 ∷ prepare 0 3 5 (asking 0 1 (codes "g.b.x")) ∷ []) (went 1 1 ∷ code (codes "T04") ∷ code (codes "T01") ∷ went 2 1 ∷ []) (pos 0) (pos 0)
  -- a call that is refused does not count its time; one that rejects does
  pub times : Turns (prepare 0 1 253_402_300_800_000 hundred ∷ tick 253_402_300_800_000 ∷ prepare 0 2 5 hundred ∷ prepare 0 3 new_year hundred ∷ prepare 0 4 5 hundred ∷ []) (no 3 ∷ no 3 ∷ went 1 1 ∷ code (codes "R00") ∷ code (codes "R00") ∷ []) (pos 0) (pos 0)
  -- settlements: the account, the way, the limit, and both ways up to a limit
  pub settlements : Turns (settle 2 0 1 ∷ settle 0 2 1 ∷ settle 0 0 1 ∷ settle 0 1 1001 ∷ settle 0 1 1000 ∷ prepare 0 1 5 (asking 0 1 (codes "g.b.x")) ∷ settle 1 0 1000 ∷ settle 0 0 400 ∷ []) (no 2 ∷ no 6 ∷ no 7 ∷ no 7 ∷ owes (pos 1000) ∷ code (codes "T04") ∷ owes (neg_ℤ (pos 1000)) ∷ owes (pos 600) ∷ []) (pos 600) (neg_ℤ (pos 1000))
