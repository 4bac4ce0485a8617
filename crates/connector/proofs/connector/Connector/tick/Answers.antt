use Rattle.std.proofs.Common.{ℕ, List, ◌≡◌, false, ◌++◌, length, drop, refl, ap, ◌∙◌, arith, Err}
use Rattle.wire.specs.declared.code.RejectCode.TheVariants as code
use Rattle.pending.specs.Rows.{due}
use Rattle.ledger.specs.Books.{Books, closed}
use Rattle.stage.specs.declared.transfer.Rejected.{Rejected}
use Rattle.stage.specs.Verdicts.{plainly}
use Rattle.messages.specs.declared.own.OwnAddress.{OwnAddress}
use Rattle.messages.specs.Own.{own_bytes}
use Rattle.protocol.specs.Messages.{our_bytes}
use Rattle.protocol.specs.Outcomes.{ended}
use Rattle.protocol.specs.Turns.{ended_as}
use Rattle.connector.specs.Views.{books_of}
use Rattle.connector.proofs.Due.{due-found}
use Rattle.connector.specs.Replies.{tick_reply}
use Rattle.connector.proofs.Handed.{handed_on}
use Rattle.connector.proofs.Outcomes.{turned_so, refused_as, tick-short, tick-never, tick-by}
use Rattle.connector.proofs.connector.Connector.tick.Goals as goal

-- a Reject of our own: who rejects, and with what
abbrev our_reject : OwnAddress × Rejected → List ℕ
our_reject w = our_bytes (own_bytes w.0) w.1.code w.1.first w.1.second

pub returns-in_err-check_room-clause-does : goal.returns-in_err-check_room-clause-does
returns-in_err-check_room-clause-does g c =
    refused_as g.S.Stage.held (ap tick_reply (handed_on _ c.in_err-check_room.field-0.0 c.from_residual.ensures.1 ∙ ap Err c.in_err-check_room.ensures.0))
    (tick-short (books_of c.args.self.now) _ c.args.time (omega (arith, c.in_err-check_room.ensures.1)))

pub returns-in_err-check_time-clause-does : goal.returns-in_err-check_time-clause-does
returns-in_err-check_time-clause-does g c =
    refused_as g.S.Stage.held (ap tick_reply (handed_on _ c.in_err-check_time.field-0.0 c.from_residual-in_err-check_time.ensures.1 ∙ ap Err c.in_err-check_time.ensures.0))
    (tick-never (books_of c.args.self.now) _ c.args.time (omega arith) (omega (arith, c.in_err-check_time.ensures.1)))

pub returns-in_default-clause-does : goal.returns-in_default-clause-does
returns-in_default-clause-does g c =
    turned_so g.S.Stage.held
    (tick-by (books_of c.args.self.now) _ c.args.time _ (omega arith) (omega arith) (c.in_default.ensures ∙ ap (λ (b : Books). due b.time b.rows) c.advance.ensures))
    (record { answer = refl; books = c.advance.ensures; stack = refl; buffer_now = refl })

pub end-requires : goal.end-requires
end-requires g c = due-found c.advance.new.self _ c.in-Some.row c.in-Some.ensures

pub returns-clause-does : goal.returns-clause-does
returns-clause-does g c =
    let e = c.end.ensures in
    let told : ◌≡◌ {A = OwnAddress × Rejected} (c.end.new.self.own, c.into.result) (c.args.self.now.own, plainly code.TransferTimedOut) = λ i. (e.kept.own i, c.into.ensures i) in
    let r = c.in-Some.row in
    turned_so g.S.Stage.held
    (tick-by (books_of c.args.self.now) _ c.args.time _ (omega arith) (omega arith) (c.in-Some.ensures ∙ ap (λ (b : Books). due b.time b.rows) c.advance.ensures))
    (record {
      answer = ap ended (c.reject-ended.ensures.value ∙ ap (λ w. ended_as r.sender r.request (our_reject w)) told);
      books = e.books ∙ ap (closed false r) c.advance.ensures;
      stack = (e.numbers, e.closed);
      buffer_now = c.reject-ended.ensures.buffer ∙ ap (λ w. our_reject w ++ drop (length (our_reject w)) c.args.buffer.now) told;
    })
