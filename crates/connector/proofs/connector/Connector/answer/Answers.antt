use Rattle.std.proofs.Common.{◌≡◌, length, Ok, Err, sym, refl, ap, ◌∙◌, arith}
use Rattle.pending.specs.Rows.{lookup}
use Rattle.ledger.specs.Books.{Books, closed}
use Rattle.packet.specs.Values.{answer_of}
use Rattle.protocol.specs.Calls.{time_at, ending_by}
use Rattle.protocol.specs.Outcomes.{ends, ended, is_paid}
use Rattle.connector.specs.Endings.{ending_of, answered_by}
use Rattle.ledger.proofs.RowLaws.{lookup-number}
use Rattle.connector.specs.Views.{books_of}
use Rattle.protocol.specs.declared.refusal.Refusal.{Refusal}
use Rattle.protocol.specs.declared.refusal.Refusal.TheVariants.{NotPending, UnreadableAnswer}
use Rattle.connector.specs.Replies.{end_reply}
use Rattle.connector.proofs.Handed.{handed_on, missing-handed}
use Rattle.connector.proofs.Handed.{handed_on}
use Rattle.connector.proofs.Outcomes.{turned_so, refused_as, answer-short, answer-nobody, answer-never, answer-by, not-theirs, theirs}
use Rattle.connector.proofs.Endings.{answer-read, packet-short}
use Rattle.connector.proofs.connector.Connector.answer.Goals as goal

pub returns-in_err-check_room-clause-does : goal.returns-in_err-check_room-clause-does
returns-in_err-check_room-clause-does g c =
    refused_as g.S.Stage.held (ap end_reply (handed_on _ c.in_err-check_room.field-0.0 c.from_residual.ensures.1 ∙ ap Err c.in_err-check_room.ensures.0))
    (answer-short g.H.ConditionHash.digest_of (books_of c.args.self.now) _ c.args.account c.args.number c.args.time _ (omega (arith, c.in_err-check_room.ensures.1)))

pub returns-in_err-check_account-clause-does : goal.returns-in_err-check_account-clause-does
returns-in_err-check_account-clause-does g c =
    refused_as g.S.Stage.held (ap end_reply (handed_on _ c.in_err-check_account.field-0.0 c.from_residual-in_err-check_account.ensures.1 ∙ ap Err c.in_err-check_account.ensures.0))
    (answer-nobody g.H.ConditionHash.digest_of (books_of c.args.self.now) _ c.args.account c.args.number c.args.time _ (omega arith) (sym c.in_err-check_account.ensures.1))

pub returns-in_err-check_time-clause-does : goal.returns-in_err-check_time-clause-does
returns-in_err-check_time-clause-does g c =
    refused_as g.S.Stage.held (ap end_reply (handed_on _ c.in_err-check_time.field-0.0 c.from_residual-in_err-check_time.ensures.1 ∙ ap Err c.in_err-check_time.ensures.0))
    (answer-never g.H.ConditionHash.digest_of (books_of c.args.self.now) _ c.args.account c.args.number c.args.time _ (omega arith) (sym c.in_ok-check_account.ensures) (omega (arith, c.in_err-check_time.ensures.1)))

pub returns-in_err-row-clause-does : goal.returns-in_err-row-clause-does
returns-in_err-row-clause-does g c =
    let d = g.H.ConditionHash.digest_of in
    let m = missing-handed (λ (e : Refusal). e) c.lookup.result NotPending _ c.from_residual-in_err-row.result (sym c.ok_or.ensures.value ∙ c.in_err-row.was) c.from_residual-in_err-row.ensures.1 in
    refused_as g.S.Stage.held (ap end_reply m.1)
    (answer-by d (books_of c.args.self.now) _ c.args.account c.args.number c.args.time _ _ (omega arith) (sym c.in_ok-check_account.ensures) (omega arith) (m.0 ∙ c.lookup.ensures))

pub returns-then-not-is_theirs-clause-does : goal.returns-then-not-is_theirs-clause-does
returns-then-not-is_theirs-clause-does g c =
    let b = books_of c.args.self.now in
    let d = g.H.ConditionHash.digest_of in
    let found = sym c.in_ok-row.ensures.ok_part ∙ c.lookup.ensures in
    refused_as g.S.Stage.held refl
    (answer-by d b _ c.args.account c.args.number c.args.time _ _ (omega arith) (sym c.in_ok-check_account.ensures) (omega arith) found
    ∙ not-theirs d b 0 c.args.account 0 c.args.time _ c.in_ok-row.row (sym c.if-not-is_theirs.ensures))

pub returns-in_err-answer-clause-does : goal.returns-in_err-answer-clause-does
returns-in_err-answer-clause-does g c =
    let b = books_of c.args.self.now in
    let d = g.H.ConditionHash.digest_of in
    let found = sym c.in_ok-row.ensures.ok_part ∙ c.lookup.ensures in
    let fault = c.in_err-answer.field-0.0 in
    refused_as g.S.Stage.held (ap end_reply (handed_on _ (UnreadableAnswer fault) c.from_residual-in_err-answer.ensures.1))
    (answer-by d b _ c.args.account c.args.number c.args.time _ _ (omega arith) (sym c.in_ok-check_account.ensures) (omega arith) found
    ∙ theirs d b 0 c.args.account 0 c.args.time _ c.in_ok-row.row _ (sym c.if-not-is_theirs.ensures) (answer-read _ (Err fault) c.in_err-answer.ensures.value))

pub finish-requires : goal.finish-requires
finish-requires g c =
    let b = books_of c.args.self.now in
    let r = c.in_ok-row.row in
    let found = sym c.in_ok-row.ensures.ok_part ∙ c.lookup.ensures in
    record {
      found = ap (λ (b : Books). lookup r.number b.rows) c.advance.ensures ∙ ap (λ m. lookup m b.rows) (lookup-number c.args.number b.rows r (sym found)) ∙ sym found;
      room = omega arith;
      short = omega (arith, ap length c.in_ok-answer.ensures.encoding, packet-short (answer_of c.in_ok-answer.answer) c.in_ok-answer.ensures.fits);
    }

pub returns-clause-does : goal.returns-clause-does
returns-clause-does g c =
    let b = books_of c.args.self.now in
    let d = g.H.ConditionHash.digest_of in
    let r = c.in_ok-row.row in
    let found = sym c.in_ok-row.ensures.ok_part ∙ c.lookup.ensures in
    let x = answered_by c.in_ok-answer.answer in
    let w = c.args.bytes.now in
    let e = c.finish.ensures in
    let same : ending_of c.args.bytes.now c.ending-ending.result ≡ ending_by g.H.ConditionHash.digest_of (time_at (books_of c.args.self.now) c.args.time) c.args.bytes.now c.in_ok-row.row (answered_by c.in_ok-answer.answer) =
    c.ending-ending.ensures w ∙ ap (λ (b : Books). ending_by d b.time w r x) c.advance.ensures in
    turned_so g.S.Stage.held
    (answer-by d b _ c.args.account c.args.number c.args.time _ _ (omega arith) (sym c.in_ok-check_account.ensures) (omega arith) found
    ∙ theirs d b 0 c.args.account 0 c.args.time w r _ (sym c.if-not-is_theirs.ensures) (answer-read w (Ok c.in_ok-answer.answer) c.in_ok-answer.ensures.value)
    ∙ ap (ends (time_at b c.args.time) r) (sym same))
    (record {
      answer = ap ended e.value;
      books = e.books ∙ ap (closed (is_paid (ending_of w c.ending-ending.result)) r) c.advance.ensures;
      stack = (e.numbers, e.closed);
      buffer_now = e.buffer;
    })
