-- The first day of a year as a sum without recursion, and the year that a day falls in.
use Rattle.std.proofs.Common.{◌≡◌, ℕ, zero, suc, ◌+◌, ◌-◌, ◌*◌, ◌/◌, ◌<◌, ◌≤◌, true, false, cond, sym, refl, ap, ◌∙◌, arith}
use Rattle.std.proofs.lemmas.Bool.Decides.{nat_tests}
use Rattle.calendar.specs.Calendar.{days_before_year, leap, total, year_and_day, year_length}
use Rattle.calendar.proofs.Counting.{counted, place, Place}

-- as the code computes it
abbrev closed : ℕ → ℕ
closed y = 365 * (y - 1970) + ((y - 1) / 4 + (y - 1) / 400 - (y - 1) / 100 - 477)

closed-more : (y : ℕ) → 1970 ≤ y → closed (y + 1) ≡ closed y + year_length y
unfolding year_length
closed-more y h = grind (arith, nat_tests)

total-closed : (n : ℕ) → total year_length 1970 n ≡ closed (1970 + n)
unfolding total
total-closed zero = refl
total-closed (suc n) =
    let a : 1970 + n + 1 ≡ 1970 + suc n = omega arith in
    ap (λ d. d + year_length (1970 + n)) (total-closed n) ∙ (sym (closed-more (1970 + n) (omega arith)) ∙ ap closed a)

pub is-closed : (y : ℕ) → 1970 ≤ y → days_before_year y ≡ closed y
unfolding days_before_year
is-closed y h =
    let e : 1970 + (y - 1970) ≡ y = omega arith in
    total-closed (y - 1970) ∙ ap closed e

pub year-more : (y : ℕ) → 1970 ≤ y → days_before_year (y + 1) ≡ days_before_year y + year_length y
year-more y h = is-closed (y + 1) (omega arith) ∙ (closed-more y h ∙ ap (λ d. d + year_length y) (sym (is-closed y h)))

-- the estimate of a year from the days is not past it, and at most two years before it
module _ (days : ℕ) where
  pub estimate : days_before_year (1970 + (days * 400 / 146097 - 1)) ≤ days
  estimate =
      let n : ℕ = days * 400 / 146097 - 1 in
      omega (arith, is-closed (1970 + n) (omega arith))

  pub estimate-near : days < days_before_year (1970 + (days * 400 / 146097 - 1) + 3)
  estimate-near =
      let n : ℕ = days * 400 / 146097 - 1 in
      omega (arith, is-closed (1970 + n + 3) (omega arith))

pub year-small : (y : ℕ) → year_length y ≤ 366
unfolding year_length
year-small y = elim (leap y) as (λ b. cond b 366 365 ≤ 366) [ true ↦ omega arith | false ↦ omega arith ]

-- the year of a day is told from the sum
pub year-counted : (y rest days : ℕ) → 1970 ≤ y → y ≤ 9999 → days_before_year y + rest ≡ days → rest < year_length y → year_and_day days ≡ (y, rest)
unfolding days_before_year year_and_day
year-counted y rest days l h s r =
    let e : 1970 + (y - 1970) ≡ y = omega arith in
    counted year_length 1970 8030 (y - 1970) days rest (omega arith) s (rw e r) ∙ ap (λ k. (k, rest)) e

-- the days up to 9999 each fall in a year
pub year-place : (days : ℕ) → days < 2932897 → Place year_length 1970 8030 days
year-place days h = place year_length 1970 8030 days (omega (arith, total-closed 8030))
