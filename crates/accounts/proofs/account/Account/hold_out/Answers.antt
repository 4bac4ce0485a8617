use Rattle.std.proofs.Common.{arith}
use Rattle.std.proofs.option.Match.{when_false}
use Rattle.std.proofs.lemmas.Int.{ints}
use Rattle.accounts.proofs.Limited.{refuses-out}
use Rattle.accounts.proofs.account.Account.hold_out.Goals as goal

pub returns-then-amount-room_out : goal.returns-then-amount-room_out
returns-then-amount-room_out c = when_false _ _ (refuses-out c.args.amount c.args.self.figures (omega (arith, ints)))
