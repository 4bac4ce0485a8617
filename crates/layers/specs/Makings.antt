-- When a layer is made: its figures are in bounds and the stage below is idle. Else what was passed in comes back.
-- Assumes nothing.
use Rattle.std.specs.Prelude.{◌≡◌, ℕ, Bool, true, false, ◌&&◌, List, Ok, Err, Result, nat_le}
use Rattle.stage.specs.Numbers.{is_empty}
use Rattle.layers.specs.declared.refusal.NotMade.{NotMade}
use Rattle.layers.specs.declared.over.Over.{Over}
use Rattle.layers.specs.declared.maximum.GreatestAmounts.{GreatestAmounts}
use Rattle.layers.specs.declared.prices.Prices.{Prices}
use Rattle.layers.specs.declared.expiry.Times.{Times}
use Rattle.layers.specs.Positive.{all_positive}

-- the number by which every refusal of a set-up goes
abbrev pub set_up_number : ℕ
set_up_number = 8

-- a layer is made of these figures over this stage exactly where a test holds
abbrev pub MadeIf : {L S : Type 0} → Bool → (L → Type 0) → S → Result (Over L S) (NotMade S) → Type 0
MadeIf test Figures below (Ok o) = Figures o.layer × (o.below ≡ below) × (test ≡ true)
MadeIf test Figures below (Err e) = (e.passed_in ≡ below) × (test ≡ false)

abbrev pub OverMade : {L S : Type 0} → (S → List ℕ) → L → S → Result (Over L S) (NotMade S) → Type 0
OverMade held layer below = MadeIf (is_empty (held below)) (λ l. l ≡ layer) below

abbrev pub MaximumMade : {S : Type 0} → (S → List ℕ) → List ℕ → S → Result (Over GreatestAmounts S) (NotMade S) → Type 0
MaximumMade held most below = MadeIf (is_empty (held below)) (λ l. l.most ≡ most) below

abbrev pub RateMade : {S : Type 0} → (S → List ℕ) → List ℕ → S → Result (Over Prices S) (NotMade S) → Type 0
RateMade held prices below = MadeIf (is_empty (held below) && all_positive prices) (λ l. l.of ≡ prices) below

abbrev pub times_fit : ℕ → ℕ → Bool
times_fit margin hold = nat_le margin 60_000 && nat_le 1 hold && nat_le hold 3_600_000

abbrev pub ExpiryMade : {S : Type 0} → (S → List ℕ) → ℕ → ℕ → S → Result (Over Times S) (NotMade S) → Type 0
ExpiryMade held margin hold below = MadeIf (times_fit margin hold && is_empty (held below)) (λ l. (l.margin ≡ margin) × (l.hold ≡ hold)) below
