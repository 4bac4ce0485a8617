use Rattle.std.proofs.Common.{sym, subst}
use Rattle.accounts.proofs.Answered.{some-when}
use Rattle.ledger.specs.Books.{Sound}
use Rattle.ledger.proofs.Same.{same_books}
use Rattle.ledger.proofs.Stays.{sound-new}
use Rattle.ledger.proofs.ledger.Ledger.new.Goals as goal

pub invariant_of-result : goal.invariant_of-result
invariant_of-result c =
    let limits = c.args.limits.now in
    let made = some-when _ _ _ c.in_ok-accounts.ensures in
    record { sound = subst Sound (sym (same_books 0 0 _ _ _ _ c.new-2.ensures made.1)) (sound-new limits) }
