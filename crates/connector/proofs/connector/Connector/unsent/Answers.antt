use Rattle.std.proofs.Common.{List, ◌≡◌, ℕ, ◌++◌, length, drop, Some, sym, ap, ◌∙◌, arith, Err}
use Rattle.pending.specs.declared.row.Pending.{Pending}
use Rattle.pending.specs.Rows.{lookup}
use Rattle.ledger.specs.Books.{Books}
use Rattle.ledger.proofs.RowLaws.{lookup-number}
use Rattle.stage.specs.declared.transfer.Rejected.{Rejected}
use Rattle.stage.specs.Verdicts.{plainly}
use Rattle.messages.specs.declared.own.OwnAddress.{OwnAddress}
use Rattle.messages.specs.Own.{own_bytes}
use Rattle.protocol.specs.Messages.{our_bytes}
use Rattle.protocol.specs.Outcomes.{ended}
use Rattle.protocol.specs.Turns.{ended_as}
use Rattle.wire.specs.declared.code.RejectCode.TheVariants as code
use Rattle.connector.specs.Views.{books_of}
use Rattle.connector.specs.Replies.{end_reply}
use Rattle.connector.proofs.Handed.{handed_on}
use Rattle.connector.proofs.Outcomes.{turned_so, refused_as, unsent-short, unsent-not, unsent-ends}
use Rattle.connector.proofs.connector.Connector.unsent.Goals as goal

found-again : (b : Books) (n : ℕ) (r : Pending) → Some r ≡ lookup n b.rows → lookup r.number b.rows ≡ Some r
found-again b n r e = ap (λ m. lookup m b.rows) (lookup-number n b.rows r (sym e)) ∙ sym e

-- a Reject of our own: who rejects, and with what
abbrev our_reject : OwnAddress × Rejected → List ℕ
our_reject w = our_bytes (own_bytes w.0) w.1.code w.1.first w.1.second

pub returns-in_err-check_room-clause-does : goal.returns-in_err-check_room-clause-does
returns-in_err-check_room-clause-does g c =
    refused_as g.S.Stage.held (ap end_reply (handed_on _ c.in_err-check_room.field-0.0 c.from_residual.ensures.1 ∙ ap Err c.in_err-check_room.ensures.0))
    (unsent-short (books_of c.args.self.now) _ c.args.duty.number (omega (arith, c.in_err-check_room.ensures.1)))

pub returns-in_err-row-clause-does : goal.returns-in_err-row-clause-does
returns-in_err-row-clause-does g c =
    refused_as g.S.Stage.held (ap end_reply (handed_on _ c.in_err-row.field-0.0 c.from_residual-in_err-row.ensures.1 ∙ ap Err c.in_err-row.ensures.0))
    (unsent-not (books_of c.args.self.now) _ c.args.duty.number _ (omega arith) (ap (λ n. lookup n (books_of c.args.self.now).rows) c.spend-number.ensures) c.in_err-row.ensures.1)

pub end-requires : goal.end-requires
end-requires g c = found-again (books_of c.args.self.now) c.spend-number.result c.in_ok-row.row c.in_ok-row.ensures.0

pub returns-clause-does : goal.returns-clause-does
returns-clause-does g c =
    let b = books_of c.args.self.now in
    let e = c.end.ensures in
    let told : ◌≡◌ {A = OwnAddress × Rejected} (c.end.new.self.own, c.into.result) (c.args.self.now.own, plainly code.PeerUnreachable) = λ i. (e.kept.own i, c.into.ensures i) in
    let r = c.in_ok-row.row in
    let found = c.in_ok-row.ensures.0 ∙ ap (λ n. lookup n b.rows) c.spend-number.ensures in
    turned_so g.S.Stage.held (unsent-ends b _ c.args.duty.number r (omega arith) found c.in_ok-row.ensures.1)
    (record {
      answer = ap ended (c.reject.ensures.value ∙ ap (λ w. ended_as r.sender r.request (our_reject w)) told);
      books = e.books;
      stack = (e.numbers, e.closed);
      buffer_now = c.reject.ensures.buffer ∙ ap (λ w. our_reject w ++ drop (length (our_reject w)) c.args.buffer.now) told;
    })
