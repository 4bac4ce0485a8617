use Rattle.std.proofs.Common.{Some, ap, ◌∙◌, arith}
use Rattle.std.proofs.lemmas.Int.{ints}
use Rattle.accounts.proofs.Limited.{can-raise, settled-by}
use Rattle.accounts.proofs.account.Account.raise.Goals as goal

pub returns : goal.returns
returns c =
    let f = c.args.self.figures in
    ap Some c.of.ensures ∙ settled-by 1 c.args.amount f _ (can-raise c.args.amount f c.args.self.kept (omega (arith, ints))) (omega (arith, ints))
