-- The months of a year add up to it, and the month that a day of the year falls in.
use Rattle.std.proofs.Common.{◌≡◌, ℕ, ◌+◌, ◌-◌, ◌<◌, ◌≤◌, true, false, cond, [], ◌∷◌, get_or, sym, refl, ap, ◌∙◌, arith, rules}
use Rattle.std.specs.List.{AllByRecursion}
use Rattle.std.proofs.ByRecursion.{All-get_or}
use Rattle.calendar.specs.Calendar.{days_before_month, leap, month_and_day, month_length, month_lengths, total, year_length}
use Rattle.calendar.proofs.Counting.{counted, place, Place, total-apart, total-more}

pub whole-year : (y : ℕ) → total (month_length y) 1 12 ≡ year_length y
unfolding total year_length
whole-year y =
    elim (leap y) as (λ b. total (λ m. get_or (31 ∷ cond b 29 28 ∷ 31 ∷ 30 ∷ 31 ∷ 30 ∷ 31 ∷ 31 ∷ 30 ∷ 31 ∷ 30 ∷ 31 ∷ []) (m - 1) 0) 1 12 ≡ cond b 366 365)
    [ true ↦ refl | false ↦ refl ]

each-small : (y : ℕ) → AllByRecursion (λ x. x ≤ 31) (month_lengths y)
each-small y =
    elim (leap y) as (λ b. AllByRecursion (λ x. x ≤ 31) (31 ∷ cond b 29 28 ∷ 31 ∷ 30 ∷ 31 ∷ 30 ∷ 31 ∷ 31 ∷ 30 ∷ 31 ∷ 30 ∷ 31 ∷ []))
    [ true ↦ search rules | false ↦ search rules ]

pub month-small : (y m : ℕ) → 1 ≤ m → m ≤ 12 → month_length y m ≤ 31
month-small y m l h = All-get_or (λ x. x ≤ 31) (month_lengths y) (m - 1) 0 (omega arith) (each-small y)

pub month-more : (y m : ℕ) → 1 ≤ m → days_before_month y (m + 1) ≡ days_before_month y m + month_length y m
unfolding days_before_month
month-more y m l =
    let e : m + 1 - 1 ≡ m - 1 + 1 = omega arith in
    let f : 1 + (m - 1) ≡ m = omega arith in
    ap (total (month_length y) 1) e ∙ (total-more (month_length y) 1 (m - 1) ∙ ap (λ k. total (month_length y) 1 (m - 1) + month_length y k) f)

-- no month ends after its year
pub month-within : (y m : ℕ) → 1 ≤ m → m ≤ 12 → days_before_month y m + month_length y m ≤ year_length y
unfolding days_before_month
month-within y m l h =
    let f : 1 + (m - 1) ≡ m = omega arith in
    omega (arith, total-apart (month_length y) 1 (m - 1) 12 (omega arith), ap (month_length y) f, whole-year y)

-- December ends with the year
pub december : (y : ℕ) → days_before_month y 12 + month_length y 12 ≡ year_length y
unfolding days_before_month
december y = sym (total-more (month_length y) 1 11) ∙ whole-year y

-- the month of a day is told from the sum
pub month-counted : (y m rest days : ℕ) → 1 ≤ m → m ≤ 12 → days_before_month y m + rest ≡ days → rest < month_length y m → month_and_day y days ≡ (m, rest)
unfolding days_before_month month_and_day
month-counted y m rest days l h s r =
    let e : 1 + (m - 1) ≡ m = omega arith in
    counted (month_length y) 1 12 (m - 1) days rest (omega arith) s (rw e r) ∙ ap (λ k. (k, rest)) e

-- the days of a year each fall in a month
pub month-place : (y days : ℕ) → days < year_length y → Place (month_length y) 1 12 days
month-place y days h = place (month_length y) 1 12 days (omega (arith, whole-year y))

pub month-rest-small : (y days : ℕ) → days < year_length y → (month_and_day y days).1 < 31
unfolding month_and_day
month-rest-small y days h =
    let p = month-place y days h in
    let e = counted (month_length y) 1 12 p.n days p.rest p.below p.sum p.within in
    omega (arith, p.within, p.below, month-small y (1 + p.n) (omega arith) (omega (arith, p.below)), ap (λ (q : ℕ × ℕ). q.1) e)
