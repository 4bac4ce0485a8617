-- What a few digits say, one after another. Assumes nothing.
use Rattle.std.proofs.Common.{◌≡◌, ℕ, zero, suc, ◌+◌, ◌*◌, ◌≤◌, List, [], ◌∷◌, ◌&&◌, refl, ap, add-zero, arith}
use Rattle.std.specs.List.{list_all}
use Rattle.calendar.specs.Calendar.{all_digits, fields_of, is_digit, number_at, one_at, two_at, three_at, four_at}

-- the most that k bytes can say
abbrev pub most : ℕ → ℕ
most zero = 0
most (suc k) = most k * 10 + 255

pub most-four : (k : ℕ) → k ≤ 4 → most k ≤ 283305
most-four zero h = omega arith
most-four (suc zero) h = omega arith
most-four (suc (suc zero)) h = omega arith
most-four (suc (suc (suc zero))) h = omega arith
most-four (suc (suc (suc (suc zero)))) h = omega arith
most-four (suc (suc (suc (suc (suc k))))) h = absurd (omega arith)

pub two_digits : (bs : List ℕ) (i : ℕ) → number_at bs i 2 ≡ two_at bs i
unfolding number_at
two_digits bs i = rw add-zero (omega arith)

pub three_digits : (bs : List ℕ) (i : ℕ) → number_at bs i 3 ≡ three_at bs i
unfolding number_at
three_digits bs i = rw add-zero (omega arith)

pub four_digits : (bs : List ℕ) (i : ℕ) → number_at bs i 4 ≡ four_at bs i
unfolding number_at
four_digits bs i = rw add-zero (omega arith)

pub digits_listed : (bs : List ℕ) → all_digits bs ≡ list_all is_digit bs
unfolding all_digits
digits_listed [] = refl
digits_listed (b ∷ bs) = ap (λ t. is_digit b && t) (digits_listed bs)

-- a digit more
pub number_more : (bs : List ℕ) (i k : ℕ) → number_at bs i (k + 1) ≡ number_at bs i k * 10 + one_at bs (i + k)
unfolding number_at
number_more bs i k = let e : k + 1 ≡ suc k = omega arith in ap (number_at bs i) e

pub most_more : (k : ℕ) → most (k + 1) ≡ most k * 10 + 255
most_more k = let e : k + 1 ≡ suc k = omega arith in ap most e

pub fields_read : (bs : List ℕ) → fields_of bs ≡ record { year = number_at bs 0 4; month = number_at bs 4 2; day = number_at bs 6 2; hour = number_at bs 8 2; minute = number_at bs 10 2; second = number_at bs 12 2; millisecond = number_at bs 14 3 }
unfolding fields_of
fields_read bs = simp (two_digits, three_digits, four_digits) refl
