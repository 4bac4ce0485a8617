-- The Gregorian calendar in UTC, from 1970 to 9999, with no leap seconds.
-- A timestamp is 17 digits, YYYYMMDDHHmmSSfff. An instant is the number of milliseconds since 1970 began.
-- `instant_of` says what bytes mean; `date_time_of` and `digits_of` say what is written for an instant.
use Rattle.std.specs.Prelude.{◌≡◌, ℕ, zero, suc, ◌+◌, ◌-◌, ◌*◌, ◌/◌, ◌%◌, ◌≤◌, Bool, true, cond, not, ◌&&◌, ◌||◌, List, [], ◌∷◌, length, Some, None, Option, ◌==◌, ◌≢◌, nat_le, nat_lt, slice_index}
use Rattle.calendar.specs.declared.civil.DateTime.{DateTime}

-- 9999-12-31 23:59:59.999
abbrev pub last_instant : ℕ
last_instant = 253_402_300_799_999

-- LENGTHS OF YEARS AND MONTHS, IN DAYS

-- every fourth year is a leap year, but of the years that end a century only every fourth is
abbrev pub leap : ℕ → Bool
leap year = year % 4 == 0 && (not (year % 100 == 0) || year % 400 == 0)

unfoldable pub year_length : ℕ → ℕ
year_length year = cond (leap year) 366 365

-- from January to December
abbrev pub month_lengths : ℕ → List ℕ
month_lengths year = 31 ∷ cond (leap year) 29 28 ∷ 31 ∷ 30 ∷ 31 ∷ 30 ∷ 31 ∷ 31 ∷ 30 ∷ 31 ∷ 30 ∷ 31 ∷ []

-- January is month 1
abbrev pub month_length : ℕ → ℕ → ℕ
month_length year month = slice_index (month_lengths year) (month - 1)

-- COUNTING DAYS

-- the length of `count` years or months in a row, from the one numbered `first` on; `len` says how long each is
unfoldable pub total : (ℕ → ℕ) → ℕ → ℕ → ℕ
total len first zero = 0
total len first (suc count) = total len first count + len (first + count)

-- from 1970-01-01 to the first day of the year
unfoldable pub days_before_year : ℕ → ℕ
days_before_year year = total year_length 1970 (year - 1970)

-- from the first day of the year to the first of the month
unfoldable pub days_before_month : ℕ → ℕ → ℕ
days_before_month year month = total (month_length year) 1 (month - 1)

-- the other way: count whole years or months off `days`, from the one numbered `first` on and `most` at most,
-- until less than a whole one is left: the number of that one, and the days that are left
unfoldable pub count_off : (ℕ → ℕ) → ℕ → ℕ → ℕ → ℕ × ℕ
count_off len first zero days = (first, days)
count_off len first (suc most) days = cond (nat_lt days (len first)) (first, days) (count_off len (first + 1) most (days - len first))

-- the year that a day falls in, and which day of that year it is; days are counted from 0, and there are 8030 years
unfoldable pub year_and_day : ℕ → ℕ × ℕ
year_and_day days = count_off year_length 1970 8030 days

-- the month that a day of a year falls in, and which day of that month it is; days are counted from 0
unfoldable pub month_and_day : ℕ → ℕ → ℕ × ℕ
month_and_day year days = count_off (month_length year) 1 12 days

-- A DATE AND TIME, AND ITS INSTANT

-- a day of the calendar, from 1970 to 9999
unfoldable pub valid_date : DateTime → Bool
valid_date t =
    nat_le 1970 t.year && nat_le t.year 9999 && nat_le 1 t.month && nat_le t.month 12 && nat_le 1 t.day && nat_le t.day (month_length t.year t.month)

-- a time of day, to the millisecond
unfoldable pub valid_time : DateTime → Bool
valid_time t = nat_le t.hour 23 && nat_le t.minute 59 && nat_le t.second 59 && nat_le t.millisecond 999

-- from 1970-01-01 to the date
unfoldable pub day_number : DateTime → ℕ
day_number t = days_before_year t.year + days_before_month t.year t.month + (t.day - 1)

-- a day has 86,400,000 milliseconds, an hour 3,600,000, a minute 60,000 and a second 1,000
unfoldable pub instant_at : DateTime → ℕ
instant_at t = day_number t * 86_400_000 + t.hour * 3_600_000 + t.minute * 60_000 + t.second * 1_000 + t.millisecond

-- the date and time of an instant, which is to be at most the last one
unfoldable pub date_time_of : ℕ → DateTime
date_time_of instant =
    let in_year : ℕ × ℕ = year_and_day (instant / 86_400_000) in
    let in_month : ℕ × ℕ = month_and_day in_year.0 in_year.1 in
    record {
      year = in_year.0;
      month = in_month.0;
      day = in_month.1 + 1;
      hour = instant / 3_600_000 % 24;
      minute = instant / 60_000 % 60;
      second = instant / 1_000 % 60;
      millisecond = instant % 1_000;
    }

-- DIGITS

-- the bytes of the digits 0 to 9 are 48 to 57
abbrev pub is_digit : ℕ → Bool
is_digit byte = nat_le 48 byte && nat_le byte 57

unfoldable pub all_digits : List ℕ → Bool
all_digits [] = true
all_digits (b ∷ bs) = is_digit b && all_digits bs

-- the value of the digit at i, and of so many digits from i on
abbrev pub one_at : List ℕ → ℕ → ℕ
one_at bs i = slice_index bs i - 48

unfoldable pub number_at : List ℕ → ℕ → ℕ → ℕ
number_at bs i zero = 0
number_at bs i (suc n) = number_at bs i n * 10 + one_at bs (i + n)

abbrev pub two_at : List ℕ → ℕ → ℕ
two_at bs i = one_at bs i * 10 + one_at bs (i + 1)

abbrev pub three_at : List ℕ → ℕ → ℕ
three_at bs i = two_at bs i * 10 + one_at bs (i + 2)

abbrev pub four_at : List ℕ → ℕ → ℕ
four_at bs i = three_at bs i * 10 + one_at bs (i + 3)

-- YYYYMMDDHHmmSSfff
unfoldable pub fields_of : List ℕ → DateTime
fields_of bs =
    record {
      year = four_at bs 0;
      month = two_at bs 4;
      day = two_at bs 6;
      hour = two_at bs 8;
      minute = two_at bs 10;
      second = two_at bs 12;
      millisecond = three_at bs 14;
    }

-- the byte of the last digit of n
abbrev pub digit_byte : ℕ → ℕ
digit_byte n = 48 + n % 10

-- the 17 digits of a date and time
unfoldable pub written : DateTime → List ℕ
written t =
    digit_byte (t.year / 1000) ∷ digit_byte (t.year / 100) ∷ digit_byte (t.year / 10) ∷ digit_byte t.year ∷
    digit_byte (t.month / 10) ∷ digit_byte t.month ∷
    digit_byte (t.day / 10) ∷ digit_byte t.day ∷
    digit_byte (t.hour / 10) ∷ digit_byte t.hour ∷
    digit_byte (t.minute / 10) ∷ digit_byte t.minute ∷
    digit_byte (t.second / 10) ∷ digit_byte t.second ∷
    digit_byte (t.millisecond / 100) ∷ digit_byte (t.millisecond / 10) ∷ digit_byte t.millisecond ∷ []

-- TIMESTAMPS

-- 17 digits that say a day of the calendar and a time of day
unfoldable pub is_timestamp : List ℕ → Bool
is_timestamp bs = length bs == 17 && all_digits bs && valid_date (fields_of bs) && valid_time (fields_of bs)

-- the instant that bytes say, if they are a timestamp
unfoldable pub instant_of : List ℕ → Option ℕ
instant_of bs = cond (is_timestamp bs) (Some (instant_at (fields_of bs))) None

-- the timestamp of an instant
unfoldable pub digits_of : ℕ → List ℕ
digits_of instant = written (date_time_of instant)

-- these bytes, and no others, say the instant
abbrev pub SaysAlone : List ℕ → ℕ → Type 0
SaysAlone digits instant = (instant_of digits ≡ Some instant) × ((others : List ℕ) → instant_of others ≡ Some instant → others ≡ digits)

-- no bytes say the instant
abbrev pub Unsaid : ℕ → Type 0
Unsaid instant = (digits : List ℕ) → instant_of digits ≢ Some instant

-- Each instant up to the last has one timestamp, and each timestamp says one of these instants.
pub record OneTimestamp : Type 0 where
  pub back : (s : List ℕ) (i : ℕ) → instant_of s ≡ Some i → (s ≡ digits_of i) × (i ≤ last_instant)
  pub forth : (i : ℕ) → i ≤ last_instant → instant_of (digits_of i) ≡ Some i
  pub seventeen : (i : ℕ) → length (digits_of i) ≡ 17
