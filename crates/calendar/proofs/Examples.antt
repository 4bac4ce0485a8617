-- What the definitions give at some dates that are written out, by computing.
use Rattle.std.proofs.Common.{◌≡◌, Some, None, codes, refl}
use Rattle.calendar.specs.Calendar.{all_digits, count_off, date_time_of, day_number, days_before_month, days_before_year, digits_of, fields_of, instant_at, instant_of, is_timestamp, last_instant, month_and_day, total, valid_date, valid_time, written, year_and_day, year_length}

first : instant_of (codes "19700101000000000") ≡ Some 0
unfolding all_digits day_number days_before_month days_before_year fields_of instant_at instant_of is_timestamp total valid_date valid_time year_length
first = refl

-- 2000 is a leap year
leap-day : instant_of (codes "20000229123456789") ≡ Some 951_827_696_789
unfolding all_digits day_number days_before_month days_before_year fields_of instant_at instant_of is_timestamp total valid_date valid_time year_length
leap-day = refl

-- 2100 is not
no-leap-day : instant_of (codes "21000229000000000") ≡ None
unfolding all_digits day_number days_before_month days_before_year fields_of instant_at instant_of is_timestamp total valid_date valid_time year_length
no-leap-day = refl

last : instant_of (codes "99991231235959999") ≡ Some last_instant
unfolding all_digits day_number days_before_month days_before_year fields_of instant_at instant_of is_timestamp total valid_date valid_time year_length
last = refl

first-written : digits_of 0 ≡ codes "19700101000000000"
unfolding count_off date_time_of digits_of month_and_day written year_and_day year_length
first-written = refl

leap-day-written : digits_of 951_827_696_789 ≡ codes "20000229123456789"
unfolding count_off date_time_of digits_of month_and_day written year_and_day year_length
leap-day-written = refl

last_written : digits_of last_instant ≡ codes "99991231235959999"
unfolding count_off date_time_of digits_of month_and_day written year_and_day year_length
last_written = refl
