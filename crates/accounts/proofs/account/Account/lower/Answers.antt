use Rattle.std.proofs.Common.{Some, ap, ◌∙◌, arith}
use Rattle.std.proofs.lemmas.Int.{ints}
use Rattle.accounts.proofs.Limited.{can-lower, settled-by}
use Rattle.accounts.proofs.account.Account.lower.Goals as goal

pub returns : goal.returns
returns c =
    let f = c.args.self.figures in
    ap Some c.of.ensures ∙ settled-by 0 c.args.amount f _ (can-lower c.args.amount f c.args.self.kept (omega (arith, ints))) (omega (arith, ints))
