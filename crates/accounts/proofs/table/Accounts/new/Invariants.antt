use Rattle.std.proofs.Common.{◌≡◌, length, take, drop}
use Rattle.accounts.specs.SetUps.{all_fit, new_accounts}
use Rattle.accounts.proofs.table.Accounts.new.Given as goal

abbrev pub invariant-loop-i : goal.invariant-loop-i
invariant-loop-i l =
    (take l.i l.rows ≡ new_accounts (take l.i l.limits))
    × (length l.rows ≡ 8)
    × (all_fit (drop l.i l.limits) ≡ all_fit l.limits)
