use Rattle.std.proofs.Common.{refl, ap, ◌∙◌, Err}
use Rattle.pending.specs.Rows.{lookup}
use Rattle.ledger.specs.Books.{marked_at}
use Rattle.connector.specs.Views.{books_of}
use Rattle.connector.specs.Replies.{sent_reply}
use Rattle.connector.proofs.Handed.{handed_on}
use Rattle.connector.proofs.Outcomes.{turned_so, refused_as, sent-not, sent-marks}
use Rattle.connector.proofs.connector.Connector.sent.Goals as goal

pub returns-in_err-unsent_row-clause-does : goal.returns-in_err-unsent_row-clause-does
returns-in_err-unsent_row-clause-does g c =
    refused_as g.S.Stage.held (ap sent_reply (handed_on _ c.in_err-unsent_row.field-0.0 c.from_residual.ensures.1 ∙ ap Err c.in_err-unsent_row.ensures.0))
    (sent-not (books_of c.args.self.now) c.args.duty.number _ (ap (λ n. lookup n (books_of c.args.self.now).rows) c.spend-number.ensures) c.in_err-unsent_row.ensures.1)

pub returns-clause-does : goal.returns-clause-does
returns-clause-does g c =
    let b = books_of c.args.self.now in
    let row = c.in_ok-unsent_row.ensures in
    turned_so g.S.Stage.held (sent-marks b c.args.duty.number _ (row.0 ∙ ap (λ n. lookup n b.rows) c.spend-number.ensures) row.1)
    (record { answer = refl; books = c.mark.ensures.books ∙ ap (λ m. marked_at m b) c.spend-number.ensures; stack = refl; buffer_now = refl })
