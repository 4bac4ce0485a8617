use Rattle.std.proofs.Common.{◌≡◌, ℕ, ◌+◌, [], ◌∷◌, ◌++◌, length, drop, Some, None, Ok, Err, Result, sym, refl, ap, ◌∙◌, subst, arith}
use Rattle.packet.specs.Values.{PrepareValue, prepare_of}
use Rattle.stage.specs.declared.transfer.Transfer.{Transfer}
use Rattle.stage.specs.declared.transfer.Rejected.{Rejected}
use Rattle.stage.specs.declared.transfer.Passed.{Passed}
use Rattle.ledger.specs.Books.{Books, advanced, admitted, next_row}
use Rattle.protocol.specs.Messages.{our_bytes, forwarded_bytes}
use Rattle.protocol.specs.Outcomes.{SetUp, rejected, forwarded}
use Rattle.protocol.specs.Calls.{time_at, by_prepare, reservation_for}
use Rattle.protocol.specs.Turns.{ended_as}
use Rattle.connector.specs.declared.prepared.Onward.{Onward}
use Rattle.connector.specs.Decisions.{decided, goes_to, going}
use Rattle.connector.specs.Views.{books_of, set_up_of}
use Rattle.connector.specs.Replies.{prepared_reply}
use Rattle.connector.proofs.Handed.{handed_on}
use Rattle.connector.proofs.Outcomes.{turned_so, refused_as, prepare-short, prepare-nobody, prepare-never, prepare-by}
use Rattle.connector.proofs.Endings.{prepare-read}
use Rattle.connector.proofs.connector.Connector.prepare.Goals as goal

-- what is decided at the advanced time is what the call comes to
decided-at : (look : Transfer → Result Passed Rejected) (s : SetUp) (b d : Books) (a q t : ℕ) (p : PrepareValue) (r : Result Onward Rejected) → d ≡ advanced t b → decided d a q p r ≡ by_prepare look s d a q d.time (Ok p) → by_prepare look s b a q (time_at b t) (Ok p) ≡ decided (advanced t b) a q p r
decided-at look s b d a q t p r e h = sym (subst (λ (x : Books). decided x a q p r ≡ by_prepare look s x a q x.time (Ok p)) e h)

pub returns-in_err-check_room-clause-does : goal.returns-in_err-check_room-clause-does
returns-in_err-check_room-clause-does g c =
    refused_as g.S.Stage.held (ap prepared_reply (handed_on _ c.in_err-check_room.field-0.0 c.from_residual.ensures.1 ∙ ap Err c.in_err-check_room.ensures.0))
    (prepare-short (g.S.Stage.rule c.args.self.now.stages) (set_up_of c.args.self.now) (books_of c.args.self.now) _ c.args.account c.args.request c.args.time _ (omega (arith, c.in_err-check_room.ensures.1)))

pub returns-in_err-check_account-clause-does : goal.returns-in_err-check_account-clause-does
returns-in_err-check_account-clause-does g c =
    refused_as g.S.Stage.held (ap prepared_reply (handed_on _ c.in_err-check_account.field-0.0 c.from_residual-in_err-check_account.ensures.1 ∙ ap Err c.in_err-check_account.ensures.0))
    (prepare-nobody (g.S.Stage.rule c.args.self.now.stages) (set_up_of c.args.self.now) (books_of c.args.self.now) _ c.args.account c.args.request c.args.time _ (omega arith) (sym c.in_err-check_account.ensures.1))

pub returns-in_err-check_time-clause-does : goal.returns-in_err-check_time-clause-does
returns-in_err-check_time-clause-does g c =
    refused_as g.S.Stage.held (ap prepared_reply (handed_on _ c.in_err-check_time.field-0.0 c.from_residual-in_err-check_time.ensures.1 ∙ ap Err c.in_err-check_time.ensures.0))
    (prepare-never (g.S.Stage.rule c.args.self.now.stages) (set_up_of c.args.self.now) (books_of c.args.self.now) _ c.args.account c.args.request c.args.time _ (omega arith) (sym c.in_ok-check_account.ensures) (omega (arith, c.in_err-check_time.ensures.1)))

pub returns-in-Err-clause-does : goal.returns-in-Err-clause-does
returns-in-Err-clause-does g c =
    let k = c.args.self.now in
    let look = g.S.Stage.rule k.stages in
    let w = c.reject-ended.ensures in
    turned_so g.S.Stage.held
    (prepare-by look (set_up_of k) (books_of k) _ c.args.account c.args.request c.args.time _ (Err c.in-Err.fault) (omega arith) (sym c.in_ok-check_account.ensures) (omega arith) (prepare-read _ (Err c.in-Err.fault) c.in-Err.ensures.value))
    (record {
      answer = ap (λ e. rejected (record { ended = e; fault = Some c.in-Err.fault })) (w.value ∙ ap (λ (r : Rejected). ended_as c.args.account c.args.request (our_bytes (set_up_of k).own r.code r.first r.second)) c.into.ensures);
      books = c.advance.ensures;
      stack = refl;
      buffer_now = w.buffer ∙ ap (λ (r : Rejected). our_bytes (set_up_of k).own r.code r.first r.second ++ drop (length (our_bytes (set_up_of k).own r.code r.first r.second)) c.args.buffer.now) c.into.ensures;
    })

pub returns-in-Err-decide-clause-does : goal.returns-in-Err-decide-clause-does
returns-in-Err-decide-clause-does g c =
    let k = c.args.self.now in
    let look = g.S.Stage.rule k.stages in
    let p = prepare_of c.in-Ok.prepare in
    let w = c.reject-ended-in-Err-decide.ensures in
    turned_so g.S.Stage.held
    (prepare-by look (set_up_of k) (books_of k) _ c.args.account c.args.request c.args.time _ (Ok p) (omega arith) (sym c.in_ok-check_account.ensures) (omega arith) (prepare-read _ (Ok c.in-Ok.prepare) c.in-Ok.ensures.value)
    ∙ decided-at look (set_up_of k) (books_of k) _ c.args.account c.args.request c.args.time p (Err c.in-Err-decide.rejected) c.advance.ensures (c.in-Err-decide.ensures.value c.args.request))
    (record { answer = ap (λ e. rejected (record { ended = e; fault = None })) w.value; books = c.advance.ensures; stack = refl; buffer_now = w.buffer })

pub forward-requires : goal.forward-requires
forward-requires g c = record { ready = c.in-Ok-decide.ensures.ready; fits = c.in-Ok.ensures.fits; room = omega arith }

pub returns-in-Ok-decide-clause-does : goal.returns-in-Ok-decide-clause-does
returns-in-Ok-decide-clause-does g c =
    let k = c.args.self.now in
    let look = g.S.Stage.rule k.stages in
    let p = prepare_of c.in-Ok.prepare in
    let o = c.in-Ok-decide.onward in
    let w = c.forward.ensures in
    let open-before = g.S.Stage.held k.stages in
    turned_so g.S.Stage.held
    (prepare-by look (set_up_of k) (books_of k) _ c.args.account c.args.request c.args.time _ (Ok p) (omega arith) (sym c.in_ok-check_account.ensures) (omega arith) (prepare-read _ (Ok c.in-Ok.prepare) c.in-Ok.ensures.value)
    ∙ decided-at look (set_up_of k) (books_of k) _ c.args.account c.args.request c.args.time p (Ok o) c.advance.ensures (c.in-Ok-decide.ensures.value c.args.request))
    (record {
      answer = w.value ∙ ap (λ (d : Books). forwarded (d.last + 1) (goes_to o) (length (forwarded_bytes (going p o))) (d.last + 1)) c.advance.ensures;
      books = w.books ∙ ap (λ (d : Books). admitted (next_row d (reservation_for c.args.account c.args.request p (goes_to o) o.passed)) d) c.advance.ensures;
      stack = w.numbers ∙ ap (λ (d : Books). open-before ++ (d.last + 1) ∷ []) c.advance.ensures;
      buffer_now = w.buffer;
    })
