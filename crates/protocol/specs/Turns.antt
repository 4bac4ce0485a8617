-- What an outcome answers, writes and leaves, said once for all calls; and the six calls, each by its relation. Assumes nothing.
use Rattle.std.specs.Prelude.{◌≡◌, ℕ, false, List, [], ◌∷◌, ◌++◌, length, drop, Result}
use Rattle.stage.specs.declared.transfer.Transfer.{Transfer}
use Rattle.stage.specs.declared.transfer.Passed.{Passed}
use Rattle.stage.specs.declared.transfer.Rejected.{Rejected}
use Rattle.stage.specs.Numbers.{among, without}
use Rattle.ledger.specs.Books.{Books, admitted, marked_at, closed, rebalanced}
use Rattle.protocol.specs.declared.ended.Ended.{Ended}
use Rattle.protocol.specs.Messages.{forwarded_bytes, our_bytes}
use Rattle.protocol.specs.Outcomes.{SetUp, Reply, refused, rejected, forwarded, noted, ended, none_due, balance, Ending, paid, passed_on, ours, is_paid, Outcome, refuses, rejects, forwards, marks, ends, ends_none, settles}
use Rattle.protocol.specs.Calls.{prepare_outcome, sent_outcome, unsent_outcome, answer_outcome, tick_outcome, settle_outcome}

abbrev pub at_time : ℕ → Books → Books
at_time t b = record { time = t; last = b.last; rows = b.rows; accounts = b.accounts }

-- the books after it
abbrev pub books_after : Books → Outcome → Books
books_after b (refuses r) = b
books_after b (rejects now a q c x y f) = at_time now b
books_after b (forwards now r p) = admitted r (at_time now b)
books_after b (marks n) = marked_at n b
books_after b (ends now r e) = closed (is_paid e) r (at_time now b)
books_after b (ends_none now) = at_time now b
books_after b (settles a z) = rebalanced a z b

-- the packet that it writes; none where it is empty
abbrev pub ending_bytes : List ℕ → Ending → List ℕ
ending_bytes own (paid bytes) = bytes
ending_bytes own (passed_on bytes) = bytes
ending_bytes own (ours c) = our_bytes own c 0 0

abbrev pub written : SetUp → Outcome → List ℕ
written s (refuses r) = []
written s (rejects now a q c x y f) = our_bytes s.own c x y
written s (forwards now r p) = forwarded_bytes p
written s (marks n) = []
written s (ends now r e) = ending_bytes s.own e
written s (ends_none now) = []
written s (settles a z) = []

-- what it answers: the sender's account, the sender's number of the request, and the length of what was written
abbrev pub ended_as : ℕ → ℕ → List ℕ → Ended
ended_as a q bytes = record { sender = a; request = q; length = length bytes }

abbrev pub reply_of : SetUp → Outcome → Reply
reply_of s (refuses r) = refused r
reply_of s (rejects now a q c x y f) = rejected (record { ended = ended_as a q (our_bytes s.own c x y); fault = f })
reply_of s (forwards now r p) = forwarded r.number r.outgoing (length (forwarded_bytes p)) r.number
reply_of s (marks n) = noted
reply_of s (ends now r e) = ended (ended_as r.sender r.request (ending_bytes s.own e))
reply_of s (ends_none now) = none_due
reply_of s (settles a z) = balance z

module _ {St : Type 0} (held : St → List ℕ) where
  -- What is left free: how the stack looks inside after it took a number or closed one. Of its open numbers nothing is
  -- free: it takes what is forwarded, closes what is ended, and is asked for no other change.
  abbrev pub StackAfter : St → Outcome → St → Type 0
  StackAfter p (refuses r) p' = p' ≡ p
  StackAfter p (rejects now a q c x y f) p' = p' ≡ p
  StackAfter p (forwards now r w) p' = held p' ≡ held p ++ r.number ∷ []
  StackAfter p (marks n) p' = p' ≡ p
  StackAfter p (ends now r e) p' = (held p' ≡ without (held p) r.number) × (among (held p) r.number ≡ false → p' ≡ p)
  StackAfter p (ends_none now) p' = p' ≡ p
  StackAfter p (settles a z) p' = p' ≡ p

  -- a call turned out so: its answer, the books, the stack, and every byte of the buffer
  pub record TurnsOut (s : SetUp) (b : Books) (p : St) (o : Outcome) (buffer : List ℕ) (reply : Reply) (b' : Books) (p' : St) (buffer' : List ℕ) : Type 0 where
    pub answer : reply ≡ reply_of s o
    pub books : b' ≡ books_after b o
    pub stack : StackAfter p o p'
    pub buffer_now : buffer' ≡ written s o ++ drop (length (written s o)) buffer

  -- the calls that write nothing have no buffer
  abbrev pub SentDoes : SetUp → Books → St → (n : ℕ) → Reply → Books → St → Type 0
  SentDoes s b p n reply b' p' = TurnsOut s b p (sent_outcome b n) [] reply b' p' []

  abbrev pub UnsentDoes : SetUp → Books → St → (n : ℕ) → (buffer : List ℕ) → Reply → Books → St → List ℕ → Type 0
  UnsentDoes s b p n buffer = TurnsOut s b p (unsent_outcome b (length buffer) n) buffer

  abbrev pub TickDoes : SetUp → Books → St → (t : ℕ) → (buffer : List ℕ) → Reply → Books → St → List ℕ → Type 0
  TickDoes s b p t buffer = TurnsOut s b p (tick_outcome b (length buffer) t) buffer

  abbrev pub SettleDoes : SetUp → Books → St → (a way amount : ℕ) → Reply → Books → St → Type 0
  SettleDoes s b p a way amount reply b' p' = TurnsOut s b p (settle_outcome b a way amount) [] reply b' p' []

  abbrev pub PrepareDoes : (St → Transfer → Result Passed Rejected) → SetUp → Books → St → (a q t : ℕ) → (bytes buffer : List ℕ) → Reply → Books → St → List ℕ → Type 0
  PrepareDoes rule s b p a q t bytes buffer = TurnsOut s b p (prepare_outcome (rule p) s b (length buffer) a q t bytes) buffer

  abbrev pub AnswerDoes : (List ℕ → List ℕ) → SetUp → Books → St → (a n t : ℕ) → (bytes buffer : List ℕ) → Reply → Books → St → List ℕ → Type 0
  AnswerDoes digest s b p a n t bytes buffer = TurnsOut s b p (answer_outcome digest b (length buffer) a n t bytes) buffer
