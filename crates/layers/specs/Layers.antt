-- What each layer itself says to a transfer, and what it says over the stage below it. Assumes nothing.
use Rattle.std.specs.Prelude.{◌≡◌, ℕ, ◌+◌, ◌-◌, ◌*◌, ◌/◌, ◌≤◌, min, cond, ◌&&◌, List, Ok, Err, Result, ◌==◌, nat_le, nat_lt, slice_index}
use Rattle.wire.specs.declared.code.RejectCode.TheVariants.{AmountTooLarge, InsufficientLiquidity, InsufficientSourceAmount, InsufficientTimeout}
use Rattle.stage.specs.declared.transfer.Transfer.{Transfer}
use Rattle.stage.specs.declared.transfer.Passed.{Passed}
use Rattle.stage.specs.declared.transfer.Rejected.{Rejected}
use Rattle.stage.specs.Verdicts.{rejects}

-- the layer's own answer first, then that of the stage below to the changed transfer
abbrev pub over : Result Transfer Rejected → (Transfer → Result Passed Rejected) → Result Passed Rejected
over (Ok u) below = below u
over (Err r) below = Err r

-- what goes below has the transfer's number and no later expiry
abbrev pub Kept : Transfer → Result Transfer Rejected → Type 0
Kept t (Ok u) = (u.number ≡ t.number) × (u.expiry ≤ t.expiry)
Kept t (Err r) = Unit {0}

-- maximum: F08 for an amount above the incoming account's, with the amount and the maximum
abbrev pub maximum_own : List ℕ → Transfer → Result Transfer Rejected
maximum_own most t =
    cond (nat_le t.amount (slice_index most t.accounts.incoming)) (Ok t)
    (rejects AmountTooLarge t.amount (slice_index most t.accounts.incoming))

-- rate: the amount rounded down; T04 for one above 2 ^ 63 - 1, R01 for nothing out of something
abbrev pub with_amount : Transfer → ℕ → Transfer
with_amount t a = record t { amount = a }

abbrev pub converted : Transfer → ℕ → Result Transfer Rejected
converted t a =
    cond (nat_lt 9_223_372_036_854_775_807 a) (rejects InsufficientLiquidity 0 0)
    (cond (a == 0 && nat_lt 0 t.amount) (rejects InsufficientSourceAmount 0 0) (Ok (with_amount t a)))

abbrev pub rate_own : List ℕ → Transfer → Result Transfer Rejected
rate_own prices t = converted t (t.amount * slice_index prices t.accounts.incoming / slice_index prices t.accounts.outgoing)

-- expiry: R02 where the expiry less the margin is not later than the time; else the smaller of that and the time with the hold
abbrev pub with_expiry : Transfer → ℕ → Transfer
with_expiry t e = record t { expiry = e }

abbrev pub expiry_own : ℕ → ℕ → Transfer → Result Transfer Rejected
expiry_own margin hold t =
    cond (nat_le (t.expiry - margin) t.time) (rejects InsufficientTimeout 0 0)
    (Ok (with_expiry t (min (t.expiry - margin) (t.time + hold))))
