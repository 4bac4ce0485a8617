use Rattle.std.proofs.Common.{◌≡◌, length, take}
use Rattle.condition.specs.Sha256.{schedule}
use Rattle.condition.proofs.sha256.message.expand.Given as goal

-- the words so far are the schedule's
abbrev pub invariant-loop-t : goal.invariant-loop-t
invariant-loop-t l = (take l.t l.w ≡ schedule l.block l.t) × (length l.w ≡ 64)
