-- The rule of the layer that turns away small amounts. Assumes nothing.
use Rattle.std.specs.Prelude.{◌≡◌, ℕ, true, false, cond, List, Ok, Err, Result, nat_lt}
use Rattle.wire.specs.declared.code.RejectCode.TheVariants.{InvalidAmount}
use Rattle.stage.specs.declared.transfer.Transfer.{Transfer}
use Rattle.stage.specs.declared.transfer.Passed.{Passed}
use Rattle.stage.specs.declared.transfer.Rejected.{Rejected}
use Rattle.stage.specs.Numbers.{is_empty}
use Rattle.stage.specs.Verdicts.{rejects}
use Rattle.example_stage.specs.declared.Least.{Least}

abbrev pub least_rule : ℕ → (Transfer → Result Passed Rejected) → Transfer → Result Passed Rejected
least_rule least below t = cond (nat_lt t.amount least) (rejects InvalidAmount 0 0) (below t)

abbrev pub Made : {S : Type 0} → (S → List ℕ) → ℕ → S → Result (Least S) S → Type 0
Made held least below (Ok m) = (m.least ≡ least) × (m.below ≡ below) × (is_empty (held below) ≡ true)
Made held least below (Err s) = (s ≡ below) × (is_empty (held below) ≡ false)
