-- What a settlement answers, and the numbers of its refusals. Assumes nothing.
use Rattle.std.specs.Prelude.{ℕ, cond, ℤ, Ok, Err, Result, nat_le}
use Rattle.accounts.specs.Figures.{is_set_up, can_settle, settled_balance}
use Rattle.ledger.specs.declared.refusal.NotSettled.{NotSettled}
use Rattle.ledger.specs.declared.refusal.NotSettled.TheVariants.{NoAccount, UnknownWay, LimitWouldBreak}
use Rattle.ledger.specs.Books.{Books, figures_at, rebalanced}

abbrev pub refusal_number : NotSettled → ℕ
refusal_number NoAccount = 2
refusal_number UnknownWay = 6
refusal_number LimitWouldBreak = 7

-- the new balance, or the first of: the account is not set up, the way is neither 0 nor 1, a limit would break
abbrev pub settlement : Books → ℕ → ℕ → ℕ → Result ℤ NotSettled
settlement b a way m =
    cond (is_set_up b.accounts a)
    (cond (nat_le way 1) (cond (can_settle way m (figures_at b a)) (Ok (settled_balance way m (figures_at b a))) (Err LimitWouldBreak)) (Err UnknownWay))
    (Err NoAccount)

abbrev pub settled_books : Result ℤ NotSettled → ℕ → Books → Books
settled_books (Ok z) a b = rebalanced a z b
settled_books (Err e) a b = b
