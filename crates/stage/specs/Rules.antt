-- The rule of the end of a stack. Assumes nothing.
use Rattle.std.specs.Prelude.{ℕ, cond, List, length, Ok, Result, nat_le}
use Rattle.wire.specs.declared.code.RejectCode.TheVariants.{InternalError, ConnectorBusy}
use Rattle.stage.specs.declared.transfer.Transfer.{Transfer}
use Rattle.stage.specs.declared.transfer.Passed.{Passed}
use Rattle.stage.specs.declared.transfer.Rejected.{Rejected}
use Rattle.stage.specs.Numbers.{among}
use Rattle.stage.specs.Verdicts.{rejects}

-- T00 for a number that is open, then T03 where 64 are; else the transfer passes unchanged
abbrev pub end_rule : List ℕ → Transfer → Result Passed Rejected
end_rule xs t =
    cond (among xs t.number) (rejects InternalError 0 0)
    (cond (nat_le 64 (length xs)) (rejects ConnectorBusy 0 0) (Ok (record { amount = t.amount; expiry = t.expiry })))
