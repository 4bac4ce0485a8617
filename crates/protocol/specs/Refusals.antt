-- The numbers of the refusals. Assumes nothing.
use Rattle.std.specs.Prelude.{ℕ}
use Rattle.protocol.specs.declared.refusal.Refusal.{Refusal}
use Rattle.protocol.specs.declared.refusal.Refusal.TheVariants.{ShortBuffer, NoAccount, TimeOutOfRange, NotPending, UnreadableAnswer, UnknownWay, LimitWouldBreak, SetUp}
use Rattle.ledger.specs.declared.refusal.NotSettled.{NotSettled}
use Rattle.ledger.specs.declared.refusal.NotSettled.TheVariants as unsettled

abbrev pub refusal_number : Refusal → ℕ
refusal_number ShortBuffer = 1
refusal_number NoAccount = 2
refusal_number TimeOutOfRange = 3
refusal_number NotPending = 4
refusal_number (UnreadableAnswer f) = 5
refusal_number UnknownWay = 6
refusal_number LimitWouldBreak = 7
refusal_number SetUp = 8

-- what a settlement that the ledger refuses is refused by
abbrev pub settling_refusal : NotSettled → Refusal
settling_refusal unsettled.NoAccount = NoAccount
settling_refusal unsettled.UnknownWay = UnknownWay
settling_refusal unsettled.LimitWouldBreak = LimitWouldBreak
