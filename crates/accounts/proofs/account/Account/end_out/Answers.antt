use Rattle.std.proofs.Common.{Some, ap, ◌∙◌, arith}
use Rattle.std.proofs.lemmas.Int.{ints}
use Rattle.std.proofs.option.Match.{when_true}
use Rattle.std.proofs.lemmas.Bool.{le-leb}
use Rattle.accounts.specs.Figures.{holds_out, end_out, free_out, with_balance}
use Rattle.accounts.proofs.Limited.{booked_bounds, booked-out}
use Rattle.accounts.proofs.account.Account.end_out.Goals as goal

pub of-requires : goal.of-requires
of-requires c =
    let k = c.args.self.kept in
    let within = booked_bounds c.args.fulfilled c.args.amount c.booked.result c.booked.ensures in
    (omega (arith, ints, k.0, within.0), omega (arith, ints, k.1, within.1), k.2, k.3)

pub returns : goal.returns
returns c =
    let f = c.args.self.figures in
    let m = c.args.amount in
    let paid = c.args.fulfilled in
    let k = c.args.self.kept in
    let within = booked_bounds paid m c.booked.result c.booked.ensures in
    let balance = booked-out paid m c.booked.result f.balance _ c.booked.ensures (omega (arith, ints, k.0, k.1, within.0, within.1)) in
    ap Some (c.of.ensures ∙ ap (λ z. with_balance z (free_out m f)) balance)
    ∙ when_true (holds_out m f) (end_out paid m f) (le-leb m f.held_out c.if-amount-self.false)
