-- How a call turns out, by the tests that its code makes.
use Rattle.std.proofs.Common.{◌≡◌, ℕ, ◌<◌, ◌≤◌, true, false, cond, ◌&&◌, eqb, ltb, List, Some, None, Option, Result, sym, refl, ap, ◌∙◌, subst}
use Rattle.std.proofs.lemmas.Bool.{lt-ltb, le-ltb}
use Rattle.wire.specs.declared.code.RejectCode.TheVariants as code
use Rattle.calendar.specs.Calendar.{last_instant}
use Rattle.pending.specs.declared.row.Pending.{Pending}
use Rattle.pending.specs.Rows.{lookup, due}
use Rattle.accounts.specs.Figures.{is_set_up}
use Rattle.ledger.specs.Books.{Books}
use Rattle.wire.specs.declared.fault.Fault.{Fault}
use Rattle.protocol.specs.Messages.{Answered, answer_in, prepare_in}
use Rattle.packet.specs.Values.{PrepareValue}
use Rattle.stage.specs.declared.transfer.Transfer.{Transfer}
use Rattle.stage.specs.declared.transfer.Passed.{Passed}
use Rattle.stage.specs.declared.transfer.Rejected.{Rejected}
use Rattle.protocol.specs.declared.refusal.Refusal.{Refusal}
use Rattle.protocol.specs.declared.refusal.Refusal.TheVariants as refusal
use Rattle.protocol.specs.Outcomes.{SetUp, Reply, refused, Outcome, refuses, marks, ends, ours}
use Rattle.protocol.specs.Calls
use Rattle.protocol.specs.Calls.{room_needed, time_at, by_prepare, prepare_outcome, sent_outcome, unsent_outcome, answer_outcome, tick_outcome}
use Rattle.protocol.specs.Turns.{TurnsOut}
use Rattle.connector.specs.Checks.{NoneUnsent}

module _ {St : Type 0} (held : St → List ℕ) where
  -- a call that turns out so turns out as what it comes to
  pub turned_so : {s : SetUp} {b b' : Books} {p p' : St} {o q : Outcome} {buffer buffer' : List ℕ} {reply : Reply} → o ≡ q → TurnsOut held s b p q buffer reply b' p' buffer' → TurnsOut held s b p o buffer reply b' p' buffer'
  turned_so {s} {b} {b'} {p} {p'} {o} {q} {buffer} {buffer'} {reply} e t = subst (λ x. TurnsOut held s b p x buffer reply b' p' buffer') (sym e) t

  -- a refused call leaves all as it was
  pub refused-so : (s : SetUp) (b : Books) (p : St) (o : Outcome) (x : Refusal) (buffer : List ℕ) → o ≡ refuses x → TurnsOut held s b p o buffer (refused x) b p buffer
  refused-so s b p o x buffer e =
      subst (λ q. TurnsOut held s b p q buffer (refused x) b p buffer) (sym e)
      (record { answer = refl; books = refl; stack = refl; buffer_now = refl })

  pub refused_as : {s : SetUp} {b : Books} {p : St} {o : Outcome} {x : Refusal} {buffer : List ℕ} {reply : Reply} → reply ≡ refused x → o ≡ refuses x → TurnsOut held s b p o buffer reply b p buffer
  refused_as {s} {b} {p} {o} {x} {buffer} {reply} told e = subst (λ r. TurnsOut held s b p o buffer r b p buffer) (sym told) (refused-so s b p o x buffer e)

-- SENT
pub sent-none : (b : Books) (n : ℕ) → None ≡ lookup n b.rows → sent_outcome b n ≡ refuses refusal.NotPending
unfolding sent_outcome
sent-none b n e = ap (λ o. Calls.if_unsent o (λ r. marks n)) (sym e)

pub sent-again : (b : Books) (n : ℕ) (r : Pending) → Some r ≡ lookup n b.rows → r.sent ≡ true → sent_outcome b n ≡ refuses refusal.NotPending
unfolding sent_outcome
sent-again b n r e t = ap (λ o. Calls.if_unsent o (λ r. marks n)) (sym e) ∙ ap (λ x. cond x (refuses refusal.NotPending) (marks n)) t

pub sent-not : (b : Books) (n : ℕ) (o : Option Pending) → o ≡ lookup n b.rows → NoneUnsent o → sent_outcome b n ≡ refuses refusal.NotPending
sent-not b n None e h = sent-none b n e
sent-not b n (Some r) e h = sent-again b n r e h

pub sent-marks : (b : Books) (n : ℕ) (r : Pending) → Some r ≡ lookup n b.rows → r.sent ≡ false → sent_outcome b n ≡ marks n
unfolding sent_outcome
sent-marks b n r e t = ap (λ o. Calls.if_unsent o (λ r. marks n)) (sym e) ∙ ap (λ x. cond x (refuses refusal.NotPending) (marks n)) t

-- UNSENT
abbrev unsent-of : Books → Option Pending → Outcome
unsent-of b o = Calls.if_unsent o (λ r. ends b.time r (ours code.PeerUnreachable))

roomy : (room : ℕ) (x y : Outcome) → room_needed ≤ room → cond (ltb room room_needed) x y ≡ y
roomy room x y l = ap (λ t. cond t x y) (le-ltb room room_needed l)

pub unsent-short : (b : Books) (room n : ℕ) → room < room_needed → unsent_outcome b room n ≡ refuses refusal.ShortBuffer
unfolding unsent_outcome
unsent-short b room n l = ap (λ t. cond t (refuses refusal.ShortBuffer) (unsent-of b (lookup n b.rows))) (lt-ltb room room_needed l)

pub unsent-none : (b : Books) (room n : ℕ) → room_needed ≤ room → None ≡ lookup n b.rows → unsent_outcome b room n ≡ refuses refusal.NotPending
unfolding unsent_outcome
unsent-none b room n l e = roomy room _ (unsent-of b (lookup n b.rows)) l ∙ ap (unsent-of b) (sym e)

pub unsent-again : (b : Books) (room n : ℕ) (r : Pending) → room_needed ≤ room → Some r ≡ lookup n b.rows → r.sent ≡ true → unsent_outcome b room n ≡ refuses refusal.NotPending
unfolding unsent_outcome
unsent-again b room n r l e t =
    roomy room _ (unsent-of b (lookup n b.rows)) l ∙ ap (unsent-of b) (sym e) ∙ ap (λ x. cond x (refuses refusal.NotPending) (ends b.time r (ours code.PeerUnreachable))) t

pub unsent-not : (b : Books) (room n : ℕ) (o : Option Pending) → room_needed ≤ room → o ≡ lookup n b.rows → NoneUnsent o → unsent_outcome b room n ≡ refuses refusal.NotPending
unsent-not b room n None l e h = unsent-none b room n l e
unsent-not b room n (Some r) l e h = unsent-again b room n r l e h

pub unsent-ends : (b : Books) (room n : ℕ) (r : Pending) → room_needed ≤ room → Some r ≡ lookup n b.rows → r.sent ≡ false → unsent_outcome b room n ≡ ends b.time r (ours code.PeerUnreachable)
unfolding unsent_outcome
unsent-ends b room n r l e t =
    roomy room _ (unsent-of b (lookup n b.rows)) l ∙ ap (unsent-of b) (sym e) ∙ ap (λ x. cond x (refuses refusal.NotPending) (ends b.time r (ours code.PeerUnreachable))) t

-- TICK
abbrev tick-of : Books → ℕ → Outcome
tick-of b t = Calls.by_due (time_at b t) (due (time_at b t) b.rows)

pub tick-short : (b : Books) (room t : ℕ) → room < room_needed → tick_outcome b room t ≡ refuses refusal.ShortBuffer
unfolding tick_outcome
tick-short b room t l = ap (λ x. cond x (refuses refusal.ShortBuffer) (Calls.if_timely t (tick-of b t))) (lt-ltb room room_needed l)

pub tick-never : (b : Books) (room t : ℕ) → room_needed ≤ room → last_instant < t → tick_outcome b room t ≡ refuses refusal.TimeOutOfRange
unfolding tick_outcome
tick-never b room t l h = roomy room _ (Calls.if_timely t (tick-of b t)) l ∙ ap (λ x. cond x (refuses refusal.TimeOutOfRange) (tick-of b t)) (lt-ltb last_instant t h)

pub tick-by : (b : Books) (room t : ℕ) (o : Option Pending) → room_needed ≤ room → t ≤ last_instant → o ≡ due (time_at b t) b.rows → tick_outcome b room t ≡ Calls.by_due (time_at b t) o
unfolding tick_outcome
tick-by b room t o l h e =
    roomy room _ (Calls.if_timely t (tick-of b t)) l ∙ ap (λ x. cond x (refuses refusal.TimeOutOfRange) (tick-of b t)) (le-ltb last_instant t h) ∙ ap (Calls.by_due (time_at b t)) (sym e)

-- ANSWER
module _ (digest : List ℕ → List ℕ) (b : Books) (room a n t : ℕ) (bytes : List ℕ) where
  abbrev recorded : Option Pending → Outcome
  recorded = Calls.by_record digest a (time_at b t) bytes

  pub answer-short : room < room_needed → answer_outcome digest b room a n t bytes ≡ refuses refusal.ShortBuffer
  unfolding answer_outcome
  answer-short l = ap (λ x. cond x (refuses refusal.ShortBuffer) (Calls.if_set_up b a (Calls.if_timely t (recorded (lookup n b.rows))))) (lt-ltb room room_needed l)

  pub answer-nobody : room_needed ≤ room → false ≡ is_set_up b.accounts a → answer_outcome digest b room a n t bytes ≡ refuses refusal.NoAccount
  unfolding answer_outcome
  answer-nobody l e =
      roomy room _ (Calls.if_set_up b a (Calls.if_timely t (recorded (lookup n b.rows)))) l
      ∙ ap (λ x. cond x (Calls.if_timely t (recorded (lookup n b.rows))) (refuses refusal.NoAccount)) (sym e)

  pub answer-never : room_needed ≤ room → true ≡ is_set_up b.accounts a → last_instant < t → answer_outcome digest b room a n t bytes ≡ refuses refusal.TimeOutOfRange
  unfolding answer_outcome
  answer-never l e h =
      roomy room _ (Calls.if_set_up b a (Calls.if_timely t (recorded (lookup n b.rows)))) l
      ∙ ap (λ x. cond x (Calls.if_timely t (recorded (lookup n b.rows))) (refuses refusal.NoAccount)) (sym e)
      ∙ ap (λ x. cond x (refuses refusal.TimeOutOfRange) (recorded (lookup n b.rows))) (lt-ltb last_instant t h)

  pub answer-by : (o : Option Pending) → room_needed ≤ room → true ≡ is_set_up b.accounts a → t ≤ last_instant → o ≡ lookup n b.rows → answer_outcome digest b room a n t bytes ≡ recorded o
  unfolding answer_outcome
  answer-by o l e h q =
      roomy room _ (Calls.if_set_up b a (Calls.if_timely t (recorded (lookup n b.rows)))) l
      ∙ ap (λ x. cond x (Calls.if_timely t (recorded (lookup n b.rows))) (refuses refusal.NoAccount)) (sym e)
      ∙ ap (λ x. cond x (refuses refusal.TimeOutOfRange) (recorded (lookup n b.rows))) (le-ltb last_instant t h)
      ∙ ap recorded (sym q)

  -- a row that is not the account's to answer
  pub not-theirs : (r : Pending) → (eqb r.outgoing a && r.sent) ≡ false → recorded (Some r) ≡ refuses refusal.NotPending
  not-theirs r e = ap (λ x. cond x (Calls.by_answer digest (time_at b t) bytes r (answer_in bytes)) (refuses refusal.NotPending)) e

  pub theirs : (r : Pending) (x : Result Answered Fault) → (eqb r.outgoing a && r.sent) ≡ true → answer_in bytes ≡ x → recorded (Some r) ≡ Calls.by_answer digest (time_at b t) bytes r x
  theirs r x e q =
      ap (λ y. cond y (Calls.by_answer digest (time_at b t) bytes r (answer_in bytes)) (refuses refusal.NotPending)) e
      ∙ ap (Calls.by_answer digest (time_at b t) bytes r) q

-- PREPARE
module _ (look : Transfer → Result Passed Rejected) (s : SetUp) (b : Books) (room a q t : ℕ) (bytes : List ℕ) where
  abbrev read_of : Outcome
  read_of = by_prepare look s b a q (time_at b t) (prepare_in bytes)

  pub prepare-short : room < room_needed → prepare_outcome look s b room a q t bytes ≡ refuses refusal.ShortBuffer
  unfolding prepare_outcome
  prepare-short l = ap (λ x. cond x (refuses refusal.ShortBuffer) (Calls.if_set_up b a (Calls.if_timely t read_of))) (lt-ltb room room_needed l)

  pub prepare-nobody : room_needed ≤ room → false ≡ is_set_up b.accounts a → prepare_outcome look s b room a q t bytes ≡ refuses refusal.NoAccount
  unfolding prepare_outcome
  prepare-nobody l e = roomy room _ (Calls.if_set_up b a (Calls.if_timely t read_of)) l ∙ ap (λ x. cond x (Calls.if_timely t read_of) (refuses refusal.NoAccount)) (sym e)

  pub prepare-never : room_needed ≤ room → true ≡ is_set_up b.accounts a → last_instant < t → prepare_outcome look s b room a q t bytes ≡ refuses refusal.TimeOutOfRange
  unfolding prepare_outcome
  prepare-never l e h =
      roomy room _ (Calls.if_set_up b a (Calls.if_timely t read_of)) l
      ∙ ap (λ x. cond x (Calls.if_timely t read_of) (refuses refusal.NoAccount)) (sym e)
      ∙ ap (λ x. cond x (refuses refusal.TimeOutOfRange) read_of) (lt-ltb last_instant t h)

  pub prepare-by : (x : Result PrepareValue Fault) → room_needed ≤ room → true ≡ is_set_up b.accounts a → t ≤ last_instant → prepare_in bytes ≡ x → prepare_outcome look s b room a q t bytes ≡ by_prepare look s b a q (time_at b t) x
  unfolding prepare_outcome
  prepare-by x l e h r =
      roomy room _ (Calls.if_set_up b a (Calls.if_timely t read_of)) l
      ∙ ap (λ y. cond y (Calls.if_timely t read_of) (refuses refusal.NoAccount)) (sym e)
      ∙ ap (λ y. cond y (refuses refusal.TimeOutOfRange) read_of) (le-ltb last_instant t h)
      ∙ ap (by_prepare look s b a q (time_at b t)) r
