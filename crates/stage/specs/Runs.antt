-- Runs of takes and closes over any stage, by its open numbers and its rule alone. Assumes nothing.
use Rattle.std.specs.Prelude.{◌≡◌, ℕ, true, false, List, [], ◌∷◌, Some, None, Option, Result}
use Rattle.stage.specs.declared.transfer.Transfer.{Transfer}
use Rattle.stage.specs.declared.transfer.Passed.{Passed}
use Rattle.stage.specs.declared.transfer.Rejected.{Rejected}
use Rattle.stage.specs.declared.change.Change.{Change}
use Rattle.stage.specs.declared.change.Change.TheVariants.{Take, Close}
use Rattle.stage.specs.Numbers.{among, none_twice, without}
use Rattle.stage.specs.Verdicts.{open_after, SameIfRejected}

-- one change takes a stage from s to s': a take is answered by the rule, a close by nothing
abbrev pub Step : {St : Type 0} → (St → List ℕ) → (St → Transfer → Result Passed Rejected) → St → Change → Option (Result Passed Rejected) → St → Type 0
Step held rule s (Take t) a s' = (a ≡ Some (rule s t)) × (held s' ≡ open_after (held s) t (rule s t)) × SameIfRejected (rule s t) s s'
Step held rule s (Close n) a s' = (a ≡ None) × (held s' ≡ without (held s) n) × (among (held s) n ≡ false → s' ≡ s)

-- a list of changes with their answers, from the first on
abbrev pub Run : {St : Type 0} → (St → List ℕ) → (St → Transfer → Result Passed Rejected) → St → List Change → List (Option (Result Passed Rejected)) → St → Type 0
Run held rule s [] [] s' = s' ≡ s
Run held rule s [] (a ∷ bs) s' = ⊥
Run held rule s (c ∷ cs) [] s' = ⊥
Run {St = St} held rule s (c ∷ cs) (a ∷ bs) s' = (mid : St) × Step held rule s c a mid × Run held rule mid cs bs s'

-- what one change with its answer leaves open: a transfer that was taken is added at the end, a number that is closed is
-- taken out
abbrev pub open_next : List ℕ → Change → Option (Result Passed Rejected) → List ℕ
open_next xs (Take t) (Some v) = open_after xs t v
open_next xs (Take t) None = xs
open_next xs (Close n) a = without xs n

-- the numbers taken and not closed since, in order
abbrev pub open_since : List ℕ → List Change → List (Option (Result Passed Rejected)) → List ℕ
open_since xs [] bs = xs
open_since xs (c ∷ cs) [] = xs
open_since xs (c ∷ cs) (a ∷ bs) = open_since (open_next xs c a) cs bs

-- after every run the open numbers are those taken and not closed since, in order, and none twice
abbrev pub RunsKeepTheNumbers : {St : Type 0} → (St → List ℕ) → (St → Transfer → Result Passed Rejected) → Type 0
RunsKeepTheNumbers {St = St} held rule =
    (s s' : St) (cs : List Change) (bs : List (Option (Result Passed Rejected))) → Run held rule s cs bs s' →
    (held s' ≡ open_since (held s) cs bs) × (none_twice (held s') ≡ true)
