-- Every run of a connector keeps the promise.
use Rattle.std.proofs.Common.{◌≡◌, ℕ, zero, suc, ◌<◌, ◌≤◌, Bool, true, false, cond, ◌&&◌, eqb, ltb, leb, List, [], ◌∷◌, ◌++◌, length, get_or, take, drop, pos, Some, None, Ok, Err, Option, Result, sym, refl, ap, ◌∙◌, subst, arith}
use lib.Seq.{take-append_seam}
use Rattle.std.proofs.lemmas.Int.{ints}
use Rattle.std.proofs.lemmas.Bool.Decides.{nat_tests}
use Rattle.std.proofs.lemmas.Bool.{and_parts}
use Rattle.wire.specs.declared.fault.Fault.{Fault}
use Rattle.wire.specs.declared.code.RejectCode.{RejectCode}
use Rattle.wire.specs.declared.code.RejectCode.TheVariants as code
use Rattle.address.specs.Addresses.{is_address}
use Rattle.calendar.specs.Calendar.{last_instant}
use Rattle.packet.specs.Values.{PrepareValue}
use Rattle.packet.specs.OneEncoding.{Bytes}
use Rattle.stage.specs.declared.accounts.AccountPair.{AccountPair}
use Rattle.stage.specs.declared.transfer.Transfer.{Transfer}
use Rattle.stage.specs.declared.transfer.Passed.{Passed}
use Rattle.stage.specs.declared.transfer.Rejected.{Rejected}
use Rattle.stage.specs.Numbers.{none_twice}
use Rattle.stage.specs.Verdicts.{NotLater}
use Rattle.accounts.specs.declared.figures.Figures.{Figures}
use Rattle.accounts.specs.declared.limits.Limits.{Limits}
use Rattle.accounts.specs.Figures.{unset, most_limit, limits_fit, is_set_up, can_hold_in, can_hold_out, can_settle, settled_balance}
use Rattle.accounts.specs.SetUps.{all_fit, set_up_fits, opening, new_accounts}
use Rattle.pending.specs.declared.row.Pending.{Pending}
use Rattle.pending.specs.Rows.{lookup, due}
use Rattle.pending.specs.Tables.{is_full}
use Rattle.ledger.specs.declared.refusal.NotSettled.TheVariants.{NoAccount, UnknownWay, LimitWouldBreak}
use Rattle.ledger.specs.Books.{Books, figures_at, new_books, next_row, has_number}
use Rattle.routing.specs.Routes.{route_for}
use Rattle.protocol.specs.declared.refusal.Refusal.{Refusal}
use Rattle.protocol.specs.declared.refusal.Refusal.TheVariants as refusal
use Rattle.protocol.specs.Pairs.{pair_of}
use Rattle.protocol.specs.Messages.{prepare_in, Answered, answer_in, onward}
use Rattle.protocol.specs.Outcomes.{SetUp, Reply, Outcome, refuses, rejects, forwards, marks, ends, ends_none, settles, ours}
use Rattle.protocol.specs.Calls
use Rattle.protocol.specs.Calls.{time_at, room_needed, offered, reservation_for, plain_reject, prepare_outcome, sent_outcome, unsent_outcome, answer_outcome, tick_outcome, settle_outcome}
use Rattle.protocol.specs.Turns.{books_after, written, reply_of, StackAfter, TurnsOut}
use Rattle.protocol.specs.Sheet.{Call, prepare, sent, unsent, answer, tick, settle, Event, event, told, packet_in}
use Rattle.protocol.specs.Runs.{AccountMatches, NewConnector, Promise, Run, begun, prepared, sent-on, not-sent, answered, ticked, settled, EveryRun}
use Rattle.protocol.proofs.RowFacts.{given-none}
use Rattle.protocol.proofs.Kept.{Kept, promised}
use Rattle.protocol.proofs.Leaves.{by-refusal, by-reject, by-none, by-settling, by-mark, by-unsent, by-tick, by_answer, by-forward}

-- by the test of a cond
by-test : (Q : Outcome → Type 0) (c : Bool) (x y : Outcome) → (c ≡ true → Q x) → (c ≡ false → Q y) → Q (cond c x y)
by-test Q true x y f g = f refl
by-test Q false x y f g = g refl

-- a new account matches a blank sheet
new-matches : (l : Limits) → limits_fit l.ceiling l.floor ≡ true → AccountMatches (opening l) (pos 0) 0 0 (opening l)
new-matches l fits =
    let two = and_parts (leb l.ceiling most_limit) (leb l.floor most_limit) fits in
    let high : l.ceiling ≤ most_limit = let t = two.0 in grind (arith, nat_tests) in
    let low : l.floor ≤ most_limit = let t = two.1 in grind (arith, nat_tests) in
    record { balance = refl; held_in = refl; held_out = refl; same_ceiling = refl; same_floor = refl; keeps = (omega (arith, ints), omega (arith, ints), high, low) }

all-match : (ls : List Limits) → all_fit ls ≡ true → (a : ℕ) → a < length (new_accounts ls) → AccountMatches (get_or (new_accounts ls) a unset) (pos 0) 0 0 (get_or (new_accounts ls) a unset)
all-match [] fits a l = absurd (omega arith)
all-match (x ∷ ls) fits zero l = new-matches x (and_parts (limits_fit x.ceiling x.floor) (all_fit ls) fits).0
all-match (x ∷ ls) fits (suc a) l = all-match ls (and_parts (limits_fit x.ceiling x.floor) (all_fit ls) fits).1 a (omega arith)

module _ (digest : List ℕ → List ℕ) {St : Type 0} (held : St → List ℕ) (s : SetUp) where
  -- the packet that was written is as long as the answer says
  told_is : (o : Outcome) → told (reply_of s o) ≡ length (written s o)
  told_is (refuses r) = refl
  told_is (rejects now a q c x y f) = refl
  told_is (forwards now r w) = refl
  told_is (marks n) = refl
  told_is (ends now r e) = refl
  told_is (ends_none now) = refl
  told_is (settles a z) = refl

  module _ (first : Books) where
    -- so the event is determined by how the call turned out
    turned : (c : Call) (es : List Event) (b b' : Books) (p p' : St) (o : Outcome) (buffer buffer' : List ℕ) (reply : Reply) → TurnsOut held s b p o buffer reply b' p' buffer' →
        (StackAfter held p o p' → Kept digest held s first (event c (reply_of s o) (written s o) ∷ es) (books_after b o) p') →
        Kept digest held s first (event c reply (packet_in reply buffer') ∷ es) b' p'
    turned c es b b' p p' o buffer buffer' reply t f =
        let packet : packet_in reply buffer' ≡ written s o =
        ap (λ x. take (told x) buffer') t.answer ∙ ap (λ n. take n buffer') (told_is o) ∙ ap (take (length (written s o))) t.buffer_now ∙ take-append_seam (written s o) (drop (length (written s o)) buffer) in
        subst (λ w. Kept digest held s first (event c reply w ∷ es) b' p') (sym packet)
        (subst (λ x. Kept digest held s first (event c x (written s o) ∷ es) b' p') (sym t.answer)
        (subst (λ x. Kept digest held s first (event c (reply_of s o) (written s o) ∷ es) x p') (sym t.books) (f t.stack)))

    -- and where there is no buffer
    turned_plain : (c : Call) (es : List Event) (b b' : Books) (p p' : St) (o : Outcome) (reply : Reply) → TurnsOut held s b p o [] reply b' p' [] →
        (StackAfter held p o p' → Kept digest held s first (event c (reply_of s o) [] ∷ es) (books_after b o) p') →
        Kept digest held s first (event c reply [] ∷ es) b' p'
    turned_plain c es b b' p p' o reply t f =
        subst (λ x. Kept digest held s first (event c x [] ∷ es) b' p') (sym t.answer)
        (subst (λ x. Kept digest held s first (event c (reply_of s o) [] ∷ es) x p') (sym t.books) (f t.stack))

  start : (limits : List Limits) → set_up_fits limits ≡ true → (p : St) → held p ≡ [] → Kept digest held s (new_books limits) [] (new_books limits) p
  start limits fits p h =
      record {
        bal = λ a. pos 0;
        is = refl;
        opened = h;
        once = λ n. omega (arith, given-none n);
        numbers = record { low = λ n e x f. absurd x; one = λ n e d x y f g. absurd x };
        origins = tt;
        accounts = (refl, λ a l. all-match limits (and_parts (leb 1 (length limits) && leb (length limits) 8) (all_fit limits) fits).1 a l);
        decisive = tt;
      }

  module _ (first : Books) (valid : is_address s.own ≡ true) (rule : St → Transfer → Result Passed Rejected) (later : (x : St) (t : Transfer) → NotLater t (rule x t)) (once : (x : St) → none_twice (held x) ≡ true) where
    -- what is kept, if a call turned out so
    abbrev So : Call → List Event → Books → St → St → Outcome → Type 0
    So c es b p p' o = StackAfter held p o p' → Kept digest held s first (event c (reply_of s o) (written s o) ∷ es) (books_after b o) p'

    no_way : (c : Call) (x : Refusal) (es : List Event) (b : Books) (p p' : St) → Kept digest held s first es b p → So c es b p p' (refuses x)
    no_way c x es b p p' k pp = by-refusal digest held s first c x [] es b p p' k pp

    prepare-so : (room a q t : ℕ) (bytes : List ℕ) (es : List Event) (b : Books) (p p' : St) → Bytes bytes → Kept digest held s first es b p →
        So (prepare a q t bytes) es b p p' (prepare_outcome (rule p) s b room a q t bytes)
    unfolding prepare_outcome
    prepare-so room a q t bytes es b p p' these k =
        by-test Q (ltb room room_needed) (refuses refusal.ShortBuffer) (Calls.if_set_up b a (Calls.if_timely t (read (prepare_in bytes)))) (λ _. no_way c refusal.ShortBuffer es b p p' k) (λ _.
        by-test Q (is_set_up b.accounts a) (Calls.if_timely t (read (prepare_in bytes))) (refuses refusal.NoAccount) (λ _.
        by-test Q (ltb last_instant t) (refuses refusal.TimeOutOfRange) (read (prepare_in bytes)) (λ _. no_way c refusal.TimeOutOfRange es b p p' k) (λ _. by_read (prepare_in bytes) refl))
        (λ _. no_way c refusal.NoAccount es b p p' k))
      where
        c : Call
        c = prepare a q t bytes

        Q : Outcome → Type 0
        Q = So (prepare a q t bytes) es b p p'

        read : Result PrepareValue Fault → Outcome
        read = Calls.by_prepare (rule p) s b a q (time_at b t)

        no-go : (x : RejectCode) (m n : ℕ) (f : Option Fault) → Q (rejects (time_at b t) a q x m n f)
        no-go x m n f pp = by-reject digest held s first a q t bytes x m n f es b p p' k pp

        by-verdict : (asked : PrepareValue) (to : ℕ) (accounts : AccountPair) (v : Result Passed Rejected) → prepare_in bytes ≡ Ok asked → can_hold_in b.accounts a asked.amount ≡ true → rule p (offered b (time_at b t) asked accounts) ≡ v →
            Q (Calls.by_verdict b a q (time_at b t) asked to v)
        by-verdict asked to accounts (Err r) e fits says = no-go r.code r.first r.second None
        by-verdict asked to accounts (Ok v) e fits says =
            by-test Q (can_hold_out b.accounts to v.amount) (forwards (time_at b t) (next_row b (reservation_for a q asked to v)) (onward asked v.amount v.expiry)) (plain_reject (time_at b t) a q code.InsufficientLiquidity)
            (λ out hh. by-forward digest held s first once valid rule later a q t bytes asked to accounts v es b p p' k these e fits says out hh)
            (λ _. no-go code.InsufficientLiquidity 0 0 None)

        by-pair : (asked : PrepareValue) (to : ℕ) (x : Option AccountPair) → prepare_in bytes ≡ Ok asked → Q (Calls.by_pair (rule p) b a q (time_at b t) asked to x)
        by-pair asked to None e = no-go code.Unreachable 0 0 None
        by-pair asked to (Some accounts) e =
            by-test Q (can_hold_in b.accounts a asked.amount) (Calls.by_verdict b a q (time_at b t) asked to (rule p (offered b (time_at b t) asked accounts))) (plain_reject (time_at b t) a q code.InsufficientLiquidity)
            (λ fits. by-verdict asked to accounts (rule p (offered b (time_at b t) asked accounts)) e fits refl)
            (λ _. no-go code.InsufficientLiquidity 0 0 None)

        by-route : (asked : PrepareValue) (x : Option ℕ) → prepare_in bytes ≡ Ok asked → Q (Calls.by_route (rule p) b a q (time_at b t) asked x)
        by-route asked None e = no-go code.Unreachable 0 0 None
        by-route asked (Some to) e = by-pair asked to (pair_of a to) e

        by_read : (x : Result PrepareValue Fault) → prepare_in bytes ≡ x → Q (read x)
        by_read (Err f) e = no-go code.InvalidPacket 0 0 (Some f)
        by_read (Ok asked) e =
            let routed = Calls.by_route (rule p) b a q (time_at b t) asked (route_for s.routes asked.destination) in
            let timely = cond (leb asked.expiry (time_at b t)) (plain_reject (time_at b t) a q code.TransferTimedOut) routed in
            let roomy = cond (is_full b.rows) (plain_reject (time_at b t) a q code.ConnectorBusy) timely in
            by-test Q (has_number b) roomy (plain_reject (time_at b t) a q code.InternalError) (λ _.
            by-test Q (is_full b.rows) (plain_reject (time_at b t) a q code.ConnectorBusy) timely (λ _. no-go code.ConnectorBusy 0 0 None) (λ _.
            by-test Q (leb asked.expiry (time_at b t)) (plain_reject (time_at b t) a q code.TransferTimedOut) routed (λ _. no-go code.TransferTimedOut 0 0 None) (λ _.
            by-route asked (route_for s.routes asked.destination) e)))
            (λ _. no-go code.InternalError 0 0 None)

    sent-so : (n : ℕ) (es : List Event) (b : Books) (p p' : St) → Kept digest held s first es b p →
        StackAfter held p (sent_outcome b n) p' →
        Kept digest held s first (event (sent n) (reply_of s (sent_outcome b n)) [] ∷ es) (books_after b (sent_outcome b n)) p'
    unfolding sent_outcome
    sent-so n es b p p' k = by_row (lookup n b.rows)
      where
        Q : Outcome → Type 0
        Q o = StackAfter held p o p' → Kept digest held s first (event (sent n) (reply_of s o) [] ∷ es) (books_after b o) p'

        by_row : (x : Option Pending) → Q (Calls.if_unsent x (λ r. marks n))
        by_row None = λ pp. by-refusal digest held s first (sent n) refusal.NotPending [] es b p p' k pp
        by_row (Some r) =
            by-test Q r.sent (refuses refusal.NotPending) (marks n) (λ _ pp. by-refusal digest held s first (sent n) refusal.NotPending [] es b p p' k pp) (λ _ pp. by-mark digest held s first n [] es b p p' k pp)

    unsent-so : (room n : ℕ) (es : List Event) (b : Books) (p p' : St) → Kept digest held s first es b p → So (unsent n) es b p p' (unsent_outcome b room n)
    unfolding unsent_outcome
    unsent-so room n es b p p' k =
        by-test Q (ltb room room_needed) (refuses refusal.ShortBuffer) (Calls.if_unsent (lookup n b.rows) (λ r. ends b.time r (ours code.PeerUnreachable))) (λ _. no_way (unsent n) refusal.ShortBuffer es b p p' k) (λ _. by_row (lookup n b.rows) refl)
      where
        Q : Outcome → Type 0
        Q = So (unsent n) es b p p'

        by_row : (x : Option Pending) → lookup n b.rows ≡ x → Q (Calls.if_unsent x (λ r. ends b.time r (ours code.PeerUnreachable)))
        by_row None e = no_way (unsent n) refusal.NotPending es b p p' k
        by_row (Some r) e =
            by-test Q r.sent (refuses refusal.NotPending) (ends b.time r (ours code.PeerUnreachable)) (λ _. no_way (unsent n) refusal.NotPending es b p p' k)
            (λ _ hh. by-unsent digest held s first once valid n r es b p p' k e hh.0)

    answer-so : (room a n t : ℕ) (bytes : List ℕ) (es : List Event) (b : Books) (p p' : St) → Kept digest held s first es b p → So (answer a n t bytes) es b p p' (answer_outcome digest b room a n t bytes)
    unfolding answer_outcome
    answer-so room a n t bytes es b p p' k =
        by-test Q (ltb room room_needed) (refuses refusal.ShortBuffer) (Calls.if_set_up b a (Calls.if_timely t (recorded (lookup n b.rows)))) (λ _. no_way c refusal.ShortBuffer es b p p' k) (λ _.
        by-test Q (is_set_up b.accounts a) (Calls.if_timely t (recorded (lookup n b.rows))) (refuses refusal.NoAccount) (λ _.
        by-test Q (ltb last_instant t) (refuses refusal.TimeOutOfRange) (recorded (lookup n b.rows)) (λ _. no_way c refusal.TimeOutOfRange es b p p' k) (λ _. by_row (lookup n b.rows) refl))
        (λ _. no_way c refusal.NoAccount es b p p' k))
      where
        c : Call
        c = answer a n t bytes

        Q : Outcome → Type 0
        Q = So (answer a n t bytes) es b p p'

        recorded : Option Pending → Outcome
        recorded = Calls.by_record digest a (time_at b t) bytes

        by_read : (r : Pending) (x : Result Answered Fault) → lookup n b.rows ≡ Some r → answer_in bytes ≡ x → Q (Calls.by_answer digest (time_at b t) bytes r x)
        by_read r (Err f) e q = no_way c (refusal.UnreadableAnswer f) es b p p' k
        by_read r (Ok x) e q = λ hh. by_answer digest held s first once valid a n t bytes r x es b p p' k e q hh.0

        by_row : (x : Option Pending) → lookup n b.rows ≡ x → Q (recorded x)
        by_row None e = no_way c refusal.NotPending es b p p' k
        by_row (Some r) e =
            by-test Q (eqb r.outgoing a && r.sent) (Calls.by_answer digest (time_at b t) bytes r (answer_in bytes)) (refuses refusal.NotPending)
            (λ _. by_read r (answer_in bytes) e refl) (λ _. no_way c refusal.NotPending es b p p' k)

    tick-so : (room t : ℕ) (es : List Event) (b : Books) (p p' : St) → Kept digest held s first es b p → So (tick t) es b p p' (tick_outcome b room t)
    unfolding tick_outcome
    tick-so room t es b p p' k =
        by-test Q (ltb room room_needed) (refuses refusal.ShortBuffer) (Calls.if_timely t (Calls.by_due (time_at b t) (due (time_at b t) b.rows))) (λ _. no_way (tick t) refusal.ShortBuffer es b p p' k) (λ _.
        by-test Q (ltb last_instant t) (refuses refusal.TimeOutOfRange) (Calls.by_due (time_at b t) (due (time_at b t) b.rows)) (λ _. no_way (tick t) refusal.TimeOutOfRange es b p p' k) (λ _. by_row (due (time_at b t) b.rows) refl))
      where
        Q : Outcome → Type 0
        Q = So (tick t) es b p p'

        by_row : (x : Option Pending) → due (time_at b t) b.rows ≡ x → Q (Calls.by_due (time_at b t) x)
        by_row None e = λ pp. by-none digest held s first t es b p p' k pp e
        by_row (Some r) e = λ hh. by-tick digest held s first once valid t r es b p p' k e hh.0

    settle-so : (a way m : ℕ) (es : List Event) (b : Books) (p p' : St) → Kept digest held s first es b p →
        StackAfter held p (settle_outcome b a way m) p' →
        Kept digest held s first (event (settle a way m) (reply_of s (settle_outcome b a way m)) [] ∷ es) (books_after b (settle_outcome b a way m)) p'
    unfolding settle_outcome
    settle-so a way m es b p p' k = by-account (is_set_up b.accounts a)
      where
        Q : Outcome → Type 0
        Q o = StackAfter held p o p' → Kept digest held s first (event (settle a way m) (reply_of s o) [] ∷ es) (books_after b o) p'

        f : Figures
        f = figures_at b a

        no-settling : (x : Refusal) → Q (refuses x)
        no-settling x pp = by-refusal digest held s first (settle a way m) x [] es b p p' k pp

        by-limit : (x : Bool) → can_settle way m f ≡ x → Q (Calls.by_settlement a (cond x (Ok (settled_balance way m f)) (Err LimitWouldBreak)))
        by-limit true fits pp = by-settling digest held s first a way m [] es b p p' k pp fits
        by-limit false fits pp = no-settling refusal.LimitWouldBreak pp

        by_way : (x : Bool) → Q (Calls.by_settlement a (cond x (cond (can_settle way m f) (Ok (settled_balance way m f)) (Err LimitWouldBreak)) (Err UnknownWay)))
        by_way true = by-limit (can_settle way m f) refl
        by_way false = no-settling refusal.UnknownWay

        by-account : (x : Bool) → Q (Calls.by_settlement a (cond x (cond (leb way 1) (cond (can_settle way m f) (Ok (settled_balance way m f)) (Err LimitWouldBreak)) (Err UnknownWay)) (Err NoAccount)))
        by-account true = by_way (leb way 1)
        by-account false = no-settling refusal.NoAccount

module _ {St : Type 0} (held : St → List ℕ) (rule : St → Transfer → Result Passed Rejected) (digest : List ℕ → List ℕ) (later : (x : St) (t : Transfer) → NotLater t (rule x t)) (once : (x : St) → none_twice (held x) ≡ true) where
  module _ (s : SetUp) (first : Books) where
    abbrev Runs : List Event → Books → St → Type 0
    Runs es b p = Run digest held rule s first es b p

    new-at : (es : List Event) (b : Books) (p : St) → Runs es b p → NewConnector s first
    new-at _ _ _ (begun p new h) = new
    new-at _ _ _ (prepared {es} {b} {b'} {p} a q t bytes buffer buffer' r these run d) = new-at es b p run
    new-at _ _ _ (sent-on {es} {b} {b'} {p} n r run d) = new-at es b p run
    new-at _ _ _ (not-sent {es} {b} {b'} {p} n buffer buffer' r run d) = new-at es b p run
    new-at _ _ _ (answered {es} {b} {b'} {p} a n t bytes buffer buffer' r run d) = new-at es b p run
    new-at _ _ _ (ticked {es} {b} {b'} {p} t buffer buffer' r run d) = new-at es b p run
    new-at _ _ _ (settled {es} {b} {b'} {p} a way m r run d) = new-at es b p run

    module _ (new : NewConnector s first) where
      kept : (es : List Event) (b : Books) (p : St) → Runs es b p → Kept digest held s first es b p
      kept _ _ _ (begun p _ h) = subst (λ x. Kept digest held s x [] x p) (sym new.books) (start digest held s new.limits new.fits p h)
      kept _ _ _ (prepared {es} {b} {b'} {p} {p'} a q t bytes buffer buffer' r these run d) =
          turned digest held s first (prepare a q t bytes) es b b' p p' (prepare_outcome (rule p) s b (length buffer) a q t bytes) buffer buffer' r d
          (prepare-so digest held s first new.address rule later once (length buffer) a q t bytes es b p p' these (kept es b p run))
      kept _ _ _ (sent-on {es} {b} {b'} {p} {p'} n r run d) =
          turned_plain digest held s first (sent n) es b b' p p' (sent_outcome b n) r d (sent-so digest held s first new.address rule later once n es b p p' (kept es b p run))
      kept _ _ _ (not-sent {es} {b} {b'} {p} {p'} n buffer buffer' r run d) =
          turned digest held s first (unsent n) es b b' p p' (unsent_outcome b (length buffer) n) buffer buffer' r d
          (unsent-so digest held s first new.address rule later once (length buffer) n es b p p' (kept es b p run))
      kept _ _ _ (answered {es} {b} {b'} {p} {p'} a n t bytes buffer buffer' r run d) =
          turned digest held s first (answer a n t bytes) es b b' p p' (answer_outcome digest b (length buffer) a n t bytes) buffer buffer' r d
          (answer-so digest held s first new.address rule later once (length buffer) a n t bytes es b p p' (kept es b p run))
      kept _ _ _ (ticked {es} {b} {b'} {p} {p'} t buffer buffer' r run d) =
          turned digest held s first (tick t) es b b' p p' (tick_outcome b (length buffer) t) buffer buffer' r d
          (tick-so digest held s first new.address rule later once (length buffer) t es b p p' (kept es b p run))
      kept _ _ _ (settled {es} {b} {b'} {p} {p'} a way m r run d) =
          turned_plain digest held s first (settle a way m) es b b' p p' (settle_outcome b a way m) r d (settle-so digest held s first new.address rule later once a way m es b p p' (kept es b p run))

    promise : (es : List Event) (b : Books) (p : St) → Runs es b p → Promise digest held s first es b p
    promise es b p run = promised digest held s first es b p (kept (new-at es b p run) es b p run)

    -- each prefix of a run is a run
    abbrev Shorter : List Event → Type 0
    Shorter [] = Unit {0}
    Shorter (e ∷ es) = (c : Books) × (q : St) × Runs es c q

    shorter : (es : List Event) (b : Books) (p : St) → Runs es b p → Shorter es
    shorter _ _ _ (begun p new h) = tt
    shorter _ _ _ (prepared {es} {b} {b'} {p} a q t bytes buffer buffer' r these run d) = (b, p, run)
    shorter _ _ _ (sent-on {es} {b} {b'} {p} n r run d) = (b, p, run)
    shorter _ _ _ (not-sent {es} {b} {b'} {p} n buffer buffer' r run d) = (b, p, run)
    shorter _ _ _ (answered {es} {b} {b'} {p} a n t bytes buffer buffer' r run d) = (b, p, run)
    shorter _ _ _ (ticked {es} {b} {b'} {p} t buffer buffer' r run d) = (b, p, run)
    shorter _ _ _ (settled {es} {b} {b'} {p} a way m r run d) = (b, p, run)

    before : (late early : List Event) (b : Books) (p : St) → Runs (late ++ early) b p → (c : Books) × (q : St) × Runs early c q × Promise digest held s first early c q
    before [] early b p run = (b, p, run, promise early b p run)
    before (e ∷ late) early b p run = let less = shorter (e ∷ late ++ early) b p run in before late early less.0 less.1 less.2

  pub every-run : EveryRun held rule digest
  every-run s first b es p run = (promise s first es b p run, λ late early e. before s first late early b p (subst (λ xs. Runs s first xs b p) e run))
