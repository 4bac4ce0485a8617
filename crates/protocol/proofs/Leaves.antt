-- What is kept by each way in which a call turns out.
use Rattle.std.proofs.Common.{◌≡◌, ℕ, ◌+◌, ◌^◌, ◌<◌, ◌≤◌, Bool, true, false, cond, ◌&&◌, ltb, List, [], ◌∷◌, ◌++◌, length, ℤ, Some, None, Ok, Option, sym, refl, ap, ◌∙◌, subst, inl, arith, Result}
use Rattle.std.specs.List.{AllByRecursion}
use Rattle.std.specs.Str.{bytes_eq}
use Rattle.std.proofs.lemmas.List.{map_push}
use Rattle.std.proofs.ByRecursion.{All-weaker, All-push}
use Rattle.std.proofs.lemmas.Bool.{ltb-true, lt-ltb, true≢false, and_parts}
use Rattle.std.proofs.lemmas.Slice.Eq.{bytes_eq-Decides}
use Rattle.wire.specs.declared.fault.Fault.{Fault}
use Rattle.wire.specs.declared.code.RejectCode.{RejectCode}
use Rattle.wire.specs.declared.code.RejectCode.TheVariants as code
use Rattle.address.specs.Addresses.{is_address}
use Rattle.packet.specs.Values.{PrepareValue, FulfillValue, RejectValue}
use Rattle.packet.specs.OneEncoding.{Bytes}
use Rattle.stage.specs.declared.accounts.AccountPair.{AccountPair}
use Rattle.stage.specs.declared.transfer.Transfer.{Transfer}
use Rattle.stage.specs.declared.transfer.Passed.{Passed}
use Rattle.stage.specs.declared.transfer.Rejected.{Rejected}
use Rattle.stage.specs.Numbers.{none_twice, without}
use Rattle.stage.specs.Verdicts.{NotLater}
use Rattle.accounts.specs.Figures.{is_set_up, takes_out, can_hold_in, can_hold_out, can_settle, settled_balance}
use Rattle.pending.specs.declared.row.Pending.{Pending}
use Rattle.pending.specs.Rows.{lookup, dropped, marked, due}
use Rattle.ledger.specs.Sums.{total, sum_in, sum_out, in_at, out_at}
use Rattle.ledger.specs.Books.{Books, figures_at, next_row, rebalanced}
use Rattle.ledger.proofs.RowLaws.{lookup-number, total-push, total-dropped, total-marked}
use Rattle.protocol.specs.declared.refusal.Refusal.{Refusal}
use Rattle.protocol.specs.Messages.{prepare_in, Answered, fulfilled, declined, answer_in, onward, forwarded_bytes, our_bytes}
use Rattle.protocol.specs.Outcomes.{SetUp, Reply, refused, noted, none_due, balance, Ending, paid, passed_on, ours, is_paid, rejects, forwards, marks, ends, ends_none}
use Rattle.protocol.specs.Calls.{time_at, offered, reservation_for, ending_by}
use Rattle.protocol.specs.Turns.{books_after, ending_bytes, written, reply_of}
use Rattle.protocol.specs.Sheet.{Call, prepare, sent, unsent, answer, tick, settle, Event, event, Sheet, sent_to, time_of, with-event, decided, changed, moved, pays, fulfils, with_time, with_rows, with_balances, remove, add_row, pay_if}
use Rattle.protocol.specs.Runs.{numbers_of, Forwarding, Origin, AccountMatches, Fulfilling, DecidedRight, answer_reject, due_reject}
use Rattle.protocol.proofs.RowFacts.{numbers-marked, numbers-dropped, due-found, all-dropped, all-marked, all_found, numbered, given, given-more}
use Rattle.protocol.proofs.AccountFacts.{EachMatches, accounts-hold, accounts-end, accounts-settle, small-enough}
use Rattle.protocol.proofs.Again.{onward-again, ours-again}
use Rattle.protocol.proofs.Kept.{shown, Kept, push, origin-more, origin-marked}

never : {X : Type 0} (r : Pending) → ◌≡◌ {A = Option Pending} None (Some r) → X
never r q = absurd cc

-- an event that names no account forwarded nothing
nothing-sent : (e : Event) → sent_to e.reply ≡ None → (n : ℕ) → Forwarding n e → ⊥
nothing-sent e none n f =
    let q : sent_to e.reply ≡ Some f.outgoing = ap (λ (x : Event). sent_to x.reply) f.is in
    absurd cc

module _ (digest : List ℕ → List ℕ) {St : Type 0} (held : St → List ℕ) (s : SetUp) (first : Books) where
  abbrev Held : List Event → Books → St → Type 0
  Held es b p = Kept digest held s first es b p

  -- what is kept with one event more and the rows as they are
  same_rows : (e : Event) (es : List Event) (b b' : Books) (p p' : St) (k : Held es b p) (bal' : ℕ → ℤ) →
      with-event digest e (shown b k.bal) ≡ shown b' bal' →
      decided e (shown b k.bal) ≡ None →
      sent_to e.reply ≡ None →
      b'.rows ≡ b.rows → b'.last ≡ b.last → p' ≡ p →
      EachMatches first.accounts bal' (λ k. sum_in k b.rows) (λ k. sum_out k b.rows) b'.accounts →
      Held (e ∷ es) b' p'
  same_rows e es b b' p p' k bal' n d none rs l pp accounts =
      push digest held s first e es b b' p p' k bal' None n d
      (ap held pp ∙ k.opened ∙ ap numbers_of (sym rs))
      (λ m. omega (arith, ap (total (numbered m)) rs, ap (λ x. given x m) l))
      (λ m f. absurd (nothing-sent e none m f))
      (omega arith)
      (subst (AllByRecursion (Origin (e ∷ es))) (sym rs) (All-weaker (Origin es) (Origin (e ∷ es)) (origin-more e es) b.rows k.origins))
      (subst (λ ys. EachMatches first.accounts bal' (λ k. sum_in k ys) (λ k. sum_out k ys) b'.accounts) (sym rs) accounts)
      (λ r q. never r q)

  pub by-refusal : (c : Call) (x : Refusal) (w : List ℕ) (es : List Event) (b : Books) (p p' : St) → Held es b p → p' ≡ p → Held (event c (refused x) w ∷ es) b p'
  by-refusal c x w es b p p' k pp = same_rows (event c (refused x) w) es b b p p' k k.bal refl refl refl refl refl pp k.accounts

  pub by-reject : (a q t : ℕ) (bytes : List ℕ) (c : RejectCode) (x y : ℕ) (f : Option Fault) (es : List Event) (b : Books) (p p' : St) → Held es b p → p' ≡ p →
      let o = rejects (time_at b t) a q c x y f in
      Held (event (prepare a q t bytes) (reply_of s o) (written s o) ∷ es) (books_after b o) p'
  by-reject a q t bytes c x y f es b p p' k pp =
      let o = rejects (time_at b t) a q c x y f in
      same_rows (event (prepare a q t bytes) (reply_of s o) (written s o)) es b (books_after b o) p p' k k.bal refl refl refl refl refl pp k.accounts

  pub by-none : (t : ℕ) (es : List Event) (b : Books) (p p' : St) → Held es b p → p' ≡ p → due (time_at b t) b.rows ≡ None →
      Held (event (tick t) none_due [] ∷ es) (books_after b (ends_none (time_at b t))) p'
  by-none t es b p p' k pp none =
      same_rows (event (tick t) none_due []) es b (books_after b (ends_none (time_at b t))) p p' k k.bal
      (ap (λ o. remove o (with_time (time_at b t) (shown b k.bal))) none) none refl refl refl pp k.accounts

  pub by-settling : (a way m : ℕ) (w : List ℕ) (es : List Event) (b : Books) (p p' : St) → Held es b p → p' ≡ p →
      can_settle way m (figures_at b a) ≡ true →
      Held (event (settle a way m) (balance (settled_balance way m (figures_at b a))) w ∷ es) (rebalanced a (settled_balance way m (figures_at b a)) b) p'
  by-settling a way m w es b p p' k pp fits =
      same_rows (event (settle a way m) (balance (settled_balance way m (figures_at b a))) w) es b (rebalanced a (settled_balance way m (figures_at b a)) b) p p' k
      (changed a (moved way m) k.bal) refl refl refl refl refl pp
      (accounts-settle first.accounts b.accounts k.bal b.rows a way m fits k.accounts)

  pub by-mark : (n : ℕ) (w : List ℕ) (es : List Event) (b : Books) (p p' : St) → Held es b p → p' ≡ p → Held (event (sent n) noted w ∷ es) (books_after b (marks n)) p'
  by-mark n w es b p p' k pp =
      let e = event (sent n) noted w in
      push digest held s first e es b (books_after b (marks n)) p p' k k.bal None refl refl
      (ap held pp ∙ k.opened ∙ sym (numbers-marked n b.rows))
      (λ m. omega (arith, total-marked (numbered m) (λ r. refl) n b.rows))
      (λ m f. absurd (nothing-sent e refl m f))
      (omega arith)
      (all-marked (Origin (e ∷ es)) (λ r o. origin-marked (e ∷ es) r o) n b.rows (All-weaker (Origin es) (Origin (e ∷ es)) (origin-more e es) b.rows k.origins)) (
        k.accounts.0,
        λ a l. subst (λ v. AccountMatches (figures_at first a) (k.bal a) v (sum_out a (marked n b.rows)) (figures_at b a)) (sym (total-marked (in_at a) (λ r. refl) n b.rows))
            (subst (λ v. AccountMatches (figures_at first a) (k.bal a) (sum_in a b.rows) v (figures_at b a)) (sym (total-marked (out_at a) (λ r. refl) n b.rows)) (k.accounts.1 a l)),
      )
      (λ r q. never r q)

  module _ (once : (x : St) → none_twice (held x) ≡ true) where
    -- a pending packet has ended
    by_end : (e : Event) (now : ℕ) (r : Pending) (en : Ending) (es : List Event) (b : Books) (p p' : St) (k : Held es b p) →
        lookup r.number b.rows ≡ Some r →
        held p' ≡ without (held p) r.number →
        with-event digest e (shown b k.bal) ≡ shown (books_after b (ends now r en)) (cond (is_paid en) (pays r k.bal) k.bal) →
        decided e (shown b k.bal) ≡ Some r →
        sent_to e.reply ≡ None →
        DecidedRight digest s.own (time_of b.time e.call) es e r →
        Held (e ∷ es) (books_after b (ends now r en)) p'
    by_end e now r en es b p p' k found hh n d none right =
        push digest held s first e es b (books_after b (ends now r en)) p p' k (cond (is_paid en) (pays r k.bal) k.bal) (Some r) n d
        (hh ∙ ap (λ xs. without xs r.number) k.opened ∙ numbers-dropped r.number b.rows (sym (ap none_twice k.opened) ∙ once p))
        (λ m. omega (arith, total-dropped (numbered m) r.number b.rows r found))
        (λ m f. absurd (nothing-sent e none m f))
        (omega arith)
        (all-dropped (Origin (e ∷ es)) r.number b.rows (All-weaker (Origin es) (Origin (e ∷ es)) (origin-more e es) b.rows k.origins))
        (accounts-end (is_paid en) first.accounts b.accounts k.bal b.rows r found k.accounts)
        (λ x q. let g : r ≡ x = cc in subst (DecidedRight digest s.own (time_of b.time e.call) es e) g right)

    -- where a call cannot fulfil, it writes the Reject of the rules, and no Fulfill
    not-fulfilling : (now : ℕ) (es : List Event) (e : Event) (r : Pending) →
        (Fulfilling digest now e.call r → ⊥) →
        e.packet ≡ due_reject s.own now e.call r →
        ((f : FulfillValue) → answer_in e.packet ≡ Ok (fulfilled f) → ⊥) →
        DecidedRight digest s.own now es e r
    not-fulfilling now es e r cannot same reads =
        record { fulfills = λ f. absurd (cannot f); in_time = λ f. absurd (cannot f); rejects = λ _. same; only_then = λ f q. absurd (reads f q) }

    module _ (valid : is_address s.own ≡ true) where
      -- a Reject of ours is read as no Fulfill
      ours-no-fulfill : (c : RejectCode) (f : FulfillValue) → answer_in (our_bytes s.own c 0 0) ≡ Ok (fulfilled f) → ⊥
      ours-no-fulfill c f q =
          let w = ours-again s.own c 0 0 valid in
          absurd cc

      pub by-unsent : (n : ℕ) (r : Pending) (es : List Event) (b : Books) (p p' : St) → Held es b p → lookup n b.rows ≡ Some r →
          held p' ≡ without (held p) r.number →
          let o = ends b.time r (ours code.PeerUnreachable) in
          Held (event (unsent n) (reply_of s o) (written s o) ∷ es) (books_after b o) p'
      by-unsent n r es b p p' k found hh =
          let o = ends b.time r (ours code.PeerUnreachable) in
          let e = event (unsent n) (reply_of s o) (written s o) in
          by_end e b.time r (ours code.PeerUnreachable) es b p p' k
          (ap (λ m. lookup m b.rows) (lookup-number n b.rows r found) ∙ found) hh
          (ap (λ m. with_rows (dropped m) (shown b k.bal)) (sym (lookup-number n b.rows r found)))
          found
          refl
          (not-fulfilling b.time es e r (λ f. let q = f.is_answer in absurd cc) refl (ours-no-fulfill code.PeerUnreachable))

      pub by-tick : (t : ℕ) (r : Pending) (es : List Event) (b : Books) (p p' : St) → Held es b p → due (time_at b t) b.rows ≡ Some r →
          held p' ≡ without (held p) r.number →
          let o = ends (time_at b t) r (ours code.TransferTimedOut) in
          Held (event (tick t) (reply_of s o) (written s o) ∷ es) (books_after b o) p'
      by-tick t r es b p p' k found hh =
          let o = ends (time_at b t) r (ours code.TransferTimedOut) in
          let e = event (tick t) (reply_of s o) (written s o) in
          by_end e (time_at b t) r (ours code.TransferTimedOut) es b p p' k
          (due-found (time_at b t) b.rows r (sym (ap none_twice k.opened) ∙ once p) found) hh
          (ap (λ o. remove o (with_time (time_at b t) (shown b k.bal))) found)
          found
          refl
          (not-fulfilling (time_at b t) es e r (λ f. let q = f.is_answer in absurd cc) refl (ours-no-fulfill code.TransferTimedOut))

      -- what a fulfilling answer is read as
      fulfilling-reads : (now a n t : ℕ) (bytes : List ℕ) (r : Pending) (g : Fulfilling digest now (answer a n t bytes) r) → (bytes ≡ g.bytes) × (answer_in bytes ≡ Ok (fulfilled g.brought))
      fulfilling-reads now a n t bytes r g =
          let q = g.is_answer in
          let h : bytes ≡ g.bytes = cc in
          (h, ap answer_in h ∙ g.brings)

      -- too late
      late-reject : (now : ℕ) (bytes : List ℕ) (r : Pending) (x : Answered) → ltb now r.expiry ≡ false → our_bytes s.own code.TransferTimedOut 0 0 ≡ answer_reject s.own now bytes r (Ok x)
      late-reject now bytes r (declined x) e = sym (ap (λ c. cond c bytes (our_bytes s.own code.TransferTimedOut 0 0)) e)
      late-reject now bytes r (fulfilled f) e = sym (ap (λ c. cond c (our_bytes s.own code.WrongCondition 0 0) (our_bytes s.own code.TransferTimedOut 0 0)) e)

      late-right : (now a n t : ℕ) (bytes : List ℕ) (reply : Reply) (r : Pending) (x : Answered) (es : List Event) → answer_in bytes ≡ Ok x → ltb now r.expiry ≡ false →
          DecidedRight digest s.own now es (event (answer a n t bytes) reply (our_bytes s.own code.TransferTimedOut 0 0)) r
      late-right now a n t bytes reply r x es reads e =
          not-fulfilling now es (event (answer a n t bytes) reply (our_bytes s.own code.TransferTimedOut 0 0)) r
          (λ g. true≢false (sym (lt-ltb now r.expiry g.before) ∙ e))
          (late-reject now bytes r x e ∙ ap (answer_reject s.own now bytes r) (sym reads))
          (ours-no-fulfill code.TransferTimedOut)

      -- in time, with the peer's Reject
      theirs-right : (now a n t : ℕ) (bytes : List ℕ) (reply : Reply) (r : Pending) (x : RejectValue) (es : List Event) → answer_in bytes ≡ Ok (declined x) → ltb now r.expiry ≡ true →
          DecidedRight digest s.own now es (event (answer a n t bytes) reply bytes) r
      theirs-right now a n t bytes reply r x es reads e =
          not-fulfilling now es (event (answer a n t bytes) reply bytes) r
          (λ g. let w = fulfilling-reads now a n t bytes r g in let v = w.1 in absurd cc)
          (sym (ap (answer_reject s.own now bytes r) reads ∙ ap (λ c. cond c bytes (our_bytes s.own code.TransferTimedOut 0 0)) e))
          (λ f q. absurd cc)

      -- in time, with another hash
      wrong-right : (now a n t : ℕ) (bytes : List ℕ) (f : FulfillValue) (reply : Reply) (r : Pending) (es : List Event) → answer_in bytes ≡ Ok (fulfilled f) → ltb now r.expiry ≡ true → bytes_eq (digest f.fulfilment) r.condition ≡ false →
          DecidedRight digest s.own now es (event (answer a n t bytes) reply (our_bytes s.own code.WrongCondition 0 0)) r
      wrong-right now a n t bytes f reply r es reads e other =
          not-fulfilling now es (event (answer a n t bytes) reply (our_bytes s.own code.WrongCondition 0 0)) r
          (λ g.
          let w = fulfilling-reads now a n t bytes r g in
          let v = w.1 in
          let h : g.brought ≡ f = cc in
          true≢false (sym ((bytes_eq-Decides (digest f.fulfilment) r.condition).1 (ap (λ (y : FulfillValue). digest y.fulfilment) (sym h) ∙ g.matching)) ∙ other))
          (sym (ap (answer_reject s.own now bytes r) reads ∙ ap (λ c. cond c (our_bytes s.own code.WrongCondition 0 0) (our_bytes s.own code.TransferTimedOut 0 0)) e))
          (ours-no-fulfill code.WrongCondition)

      -- in time, with the fulfilment
      paid-right : (a n t : ℕ) (bytes : List ℕ) (f : FulfillValue) (reply : Reply) (r : Pending) (es : List Event) (b : Books) (p : St) → Held es b p → lookup n b.rows ≡ Some r → answer_in bytes ≡ Ok (fulfilled f) → ltb (time_at b t) r.expiry ≡ true → bytes_eq (digest f.fulfilment) r.condition ≡ true →
          DecidedRight digest s.own (time_at b t) es (event (answer a n t bytes) reply bytes) r
      paid-right a n t bytes f reply r es b p k found reads e same =
          let l : time_at b t < r.expiry = ltb-true (time_at b t) r.expiry e in
          let g : Fulfilling digest (time_at b t) (answer a n t bytes) r =
          record { account = a; time = t; bytes = bytes; brought = f; is_answer = ap (λ m. answer a m t bytes) (sym (lookup-number n b.rows r found)); brings = reads; matching = (bytes_eq-Decides (digest f.fulfilment) r.condition).0 same; before = l } in
          let o = all_found (Origin es) n b.rows r found k.origins in
          record {
            fulfills = λ h. (fulfilling-reads (time_at b t) a n t bytes r h).0;
            in_time = λ h. (o, omega (arith, o.not_later));
            rejects = λ cannot. absurd (cannot g);
            only_then = λ h q. g;
          }

      -- an answer's ending: whether it pays, and that the packet is right
      abbrev EndingRight : (a n t : ℕ) (bytes : List ℕ) (reply : Reply) (r : Pending) (es : List Event) (b : Books) (pay : Bool) (en : Ending) → Type 0
      EndingRight a n t bytes reply r es b pay en =
          (pay ≡ is_paid en) × DecidedRight digest s.own (time_at b t) es (event (answer a n t bytes) reply (ending_bytes s.own en)) r

      answer-right : (a n t : ℕ) (bytes : List ℕ) (reply : Reply) (r : Pending) (x : Answered) (es : List Event) (b : Books) (p : St) → Held es b p → lookup n b.rows ≡ Some r → answer_in bytes ≡ Ok x →
          EndingRight a n t bytes reply r es b (fulfils digest (time_at b t) r x) (ending_by digest (time_at b t) bytes r x)
      answer-right a n t bytes reply r (declined x) es b p k found reads = go (ltb (time_at b t) r.expiry) refl
        where
          go : (c : Bool) → ltb (time_at b t) r.expiry ≡ c → EndingRight a n t bytes reply r es b false (cond c (passed_on bytes) (ours code.TransferTimedOut))
          go true e = (refl, theirs-right (time_at b t) a n t bytes reply r x es reads e)
          go false e = (refl, late-right (time_at b t) a n t bytes reply r (declined x) es reads e)
      answer-right a n t bytes reply r (fulfilled f) es b p k found reads = go (ltb (time_at b t) r.expiry) (bytes_eq (digest f.fulfilment) r.condition) refl refl
        where
          go : (c d : Bool) → ltb (time_at b t) r.expiry ≡ c → bytes_eq (digest f.fulfilment) r.condition ≡ d → EndingRight a n t bytes reply r es b (c && d) (cond c (cond d (paid bytes) (ours code.WrongCondition)) (ours code.TransferTimedOut))
          go true true e same = (refl, paid-right a n t bytes f reply r es b p k found reads e same)
          go true false e same = (refl, wrong-right (time_at b t) a n t bytes f reply r es reads e same)
          go false true e same = (refl, late-right (time_at b t) a n t bytes reply r (fulfilled f) es reads e)
          go false false e same = (refl, late-right (time_at b t) a n t bytes reply r (fulfilled f) es reads e)

      -- the sheet, paid or not
      paid-sheet : (x : Bool) (n : ℕ) (r : Pending) (w : Sheet) → with_rows (dropped n) (cond x (with_balances (pays r) w) w) ≡ record { time = w.time; forwarded = w.forwarded; rows = dropped n w.rows; balance = cond x (pays r w.balance) w.balance }
      paid-sheet true n r w = refl
      paid-sheet false n r w = refl

      pub by_answer : (a n t : ℕ) (bytes : List ℕ) (r : Pending) (x : Answered) (es : List Event) (b : Books) (p p' : St) → Held es b p → lookup n b.rows ≡ Some r → answer_in bytes ≡ Ok x →
          held p' ≡ without (held p) r.number →
          let o = ends (time_at b t) r (ending_by digest (time_at b t) bytes r x) in
          Held (event (answer a n t bytes) (reply_of s o) (written s o) ∷ es) (books_after b o) p'
      by_answer a n t bytes r x es b p p' k found reads hh =
          let en = ending_by digest (time_at b t) bytes r x in
          let o = ends (time_at b t) r en in
          let e = event (answer a n t bytes) (reply_of s o) (written s o) in
          let w = with_time (time_at b t) (shown b k.bal) in
          let right = answer-right a n t bytes (reply_of s o) r x es b p k found reads in
          by_end e (time_at b t) r en es b p p' k
          (ap (λ m. lookup m b.rows) (lookup-number n b.rows r found) ∙ found) hh
          (ap (λ y. with_rows (dropped n) (pay_if digest y (answer_in bytes) w)) found
          ∙ ap (λ y. with_rows (dropped n) (pay_if digest (Some r) y w)) reads
          ∙ ap (λ y. with_rows (dropped n) (cond y (with_balances (pays r) w) w)) right.0
          ∙ paid-sheet (is_paid en) n r w
          ∙ ap (λ m. record { time = time_at b t; forwarded = b.last; rows = dropped m b.rows; balance = cond (is_paid en) (pays r k.bal) k.bal }) (sym (lookup-number n b.rows r found)))
          found
          refl
          right.1

      -- a Prepare that is forwarded
      module _ (rule : St → Transfer → Result Passed Rejected) (later : (x : St) (t : Transfer) → NotLater t (rule x t)) where
        fits-64 : (es : List Event) (b : Books) (p : St) → Held es b p → (to m : ℕ) → can_hold_out b.accounts to m ≡ true → m < 2 ^ 64
        fits-64 es b p k to m t =
            let two = and_parts (is_set_up b.accounts to) (takes_out m (figures_at b to)) t in
            let l : to < length b.accounts = ltb-true to (length b.accounts) two.0 in
            small-enough (figures_at first to) (figures_at b to) (k.bal to) (sum_in to b.rows) (sum_out to b.rows) m (k.accounts.1 to (omega (arith, k.accounts.0))) two.1

        -- the law of every stage on expiries, applied
        not_after : (asked : Transfer) (x : St) (v : Passed) → rule x asked ≡ Ok v → v.expiry ≤ asked.expiry
        not_after asked x v e = subst (NotLater asked) e (later x asked)

        pub by-forward : (a q t : ℕ) (bytes : List ℕ) (asked : PrepareValue) (to : ℕ) (accounts : AccountPair) (v : Passed) (es : List Event) (b : Books) (p p' : St) → Held es b p →
            Bytes bytes →
            prepare_in bytes ≡ Ok asked →
            can_hold_in b.accounts a asked.amount ≡ true →
            rule p (offered b (time_at b t) asked accounts) ≡ Ok v →
            can_hold_out b.accounts to v.amount ≡ true →
            held p' ≡ held p ++ (b.last + 1) ∷ [] →
            let o = forwards (time_at b t) (next_row b (reservation_for a q asked to v)) (onward asked v.amount v.expiry) in
            Held (event (prepare a q t bytes) (reply_of s o) (written s o) ∷ es) (books_after b o) p'
        by-forward a q t bytes asked to accounts v es b p p' k these reads fits_in says fits_out hh =
            let r = next_row b (reservation_for a q asked to v) in
            let w = onward asked v.amount v.expiry in
            let o = forwards (time_at b t) r w in
            let e = event (prepare a q t bytes) (reply_of s o) (written s o) in
            let x = with_time (time_at b t) (shown b k.bal) in
            let l = not_after (offered b (time_at b t) asked accounts) p v says in
            let back = onward-again bytes asked v.amount v.expiry these reads (fits-64 es b p k to v.amount fits_out) l in
            let sent-as : Forwarding (b.last + 1) e = record { sender = a; request = q; time = t; bytes = bytes; outgoing = to; packet = forwarded_bytes w; asked = asked; went = w; is = refl; reads = reads; wrote = back } in
            push digest held s first e es b (books_after b o) p p' k k.bal None
            (ap (λ y. add_row a q (Some to) y (prepare_in (forwarded_bytes w)) x) reads ∙ ap (λ y. add_row a q (Some to) (Ok asked) y x) back)
            refl
            (hh ∙ ap (λ xs. xs ++ (b.last + 1) ∷ []) k.opened ∙ sym (map_push (λ (y : Pending). y.number) b.rows r))
            (λ m. omega (arith, total-push (numbered m) b.rows r, given-more b.last m))
            (λ m f. (let y = ap (λ (z : Event). z.reply) f.is in let g : b.last + 1 ≡ m = cc in sym g, refl))
            (omega arith)
            (All-push (Origin (e ∷ es)) b.rows r (All-weaker (Origin es) (Origin (e ∷ es)) (origin-more e es) b.rows k.origins)
            (record { origin = e; came_before = inl refl; forwarding = sent-as; stands = record { number = refl; sender = refl; request = refl; outgoing = refl; amount_in = refl; condition = refl; amount_out = refl; expiry = refl }; not_later = l }))
            (accounts-hold first.accounts b.accounts k.bal b.rows r (and_parts _ _ fits_in).1 (and_parts _ _ fits_out).1 k.accounts)
            (λ y z. never y z)
