-- What a verdict means for the open numbers. Assumes nothing.
use Rattle.std.specs.Prelude.{◌≡◌, ℕ, ◌≤◌, Bool, true, false, List, [], ◌∷◌, ◌++◌, Ok, Err, Result}
use Rattle.wire.specs.declared.code.RejectCode.{RejectCode}
use Rattle.stage.specs.declared.transfer.Transfer.{Transfer}
use Rattle.stage.specs.declared.transfer.Passed.{Passed}
use Rattle.stage.specs.declared.transfer.Rejected.{Rejected}

abbrev pub passes : Result Passed Rejected → Bool
passes (Ok p) = true
passes (Err r) = false

abbrev pub NotLater : Transfer → Result Passed Rejected → Type 0
NotLater t (Ok p) = p.expiry ≤ t.expiry
NotLater t (Err r) = Unit {0}

-- the open numbers after a transfer with this verdict
abbrev pub open_after : List ℕ → Transfer → Result Passed Rejected → List ℕ
open_after xs t (Ok p) = xs ++ (t.number ∷ [])
open_after xs t (Err r) = xs

abbrev pub SameIfRejected : {St : Type 0} → Result Passed Rejected → St → St → Type 0
SameIfRejected (Ok p) before after = Unit {0}
SameIfRejected (Err r) before after = after ≡ before

-- a code with no numbers beside it
abbrev pub plainly : RejectCode → Rejected
plainly c = record { code = c; first = 0; second = 0 }

-- a rejection with its two numbers
abbrev pub rejects : {X : Type 0} → RejectCode → ℕ → ℕ → Result X Rejected
rejects c first second = Err (record { code = c; first = first; second = second })
