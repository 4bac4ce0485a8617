-- Each instant has one timestamp: what is written for an instant is read as that instant, and nothing else is.
use Rattle.std.proofs.Common.{◌≡◌, ℕ, ◌+◌, ◌-◌, ◌*◌, ◌/◌, ◌%◌, ◌<◌, ◌≤◌, true, cond, leb, List, length, Some, None, sym, refl, ap, ◌∙◌, arith, MatchOption}
use native.Mathlib.Nat.{div-div-eq-div-mul}
use Rattle.std.proofs.lemmas.Bool.{cond_both, cond-true, leb-false, leb-true}
use Rattle.std.proofs.lemmas.Bool.Decides.{nat_tests}
use Rattle.calendar.specs.declared.civil.DateTime.{DateTime}
use Rattle.calendar.specs.Calendar.{all_digits, date_time_of, day_number, days_before_month, days_before_year, digits_of, fields_of, instant_at, instant_of, is_timestamp, last_instant, month_and_day, month_length, total, valid_date, valid_time, written, year_and_day, year_length, OneTimestamp, SaysAlone, Unsaid}
use Rattle.calendar.proofs.Counting.{Place}
use Rattle.calendar.proofs.Fields.{Date, Time, date-from, date-parts, digits-written, fields-written, length-written, time-from, time-parts, written-fields}
use Rattle.calendar.proofs.MonthLaws.{month-counted, month-place, month-within}
use Rattle.calendar.proofs.YearLaws.{is-closed, year-counted, year-more, year-place}

-- FROM A DATE AND TIME TO ITS INSTANT AND BACK

module _ (t : DateTime) (d : Date t) (h : Time t) where
  -- which day of its year it is, from 0
  day-of-year : ℕ
  day-of-year = days_before_month t.year t.month + (t.day - 1)

  in-year : day-of-year < year_length t.year
  unfolding day-of-year
  in-year = omega (arith, month-within t.year t.month d.month-low d.month-high)

  year-is : year_and_day (day_number t) ≡ (t.year, day-of-year)
  unfolding day_number day-of-year
  year-is = year-counted t.year day-of-year (day_number t) d.year-low d.year-high (omega arith) in-year

  month-is : month_and_day t.year day-of-year ≡ (t.month, t.day - 1)
  unfolding day-of-year
  month-is = month-counted t.year t.month (t.day - 1) day-of-year d.month-low d.month-high refl (omega arith)

  pub date-time-back : date_time_of (instant_at t) ≡ t
  unfolding date_time_of instant_at
  date-time-back =
      let dn : instant_at t / 86_400_000 ≡ day_number t = omega arith in
      let ho : instant_at t / 3_600_000 % 24 ≡ t.hour = omega arith in
      let mi : instant_at t / 60_000 % 60 ≡ t.minute = omega arith in
      let se : instant_at t / 1_000 % 60 ≡ t.second = omega arith in
      let ms : instant_at t % 1_000 ≡ t.millisecond = omega arith in
      let y : year_and_day (instant_at t / 86_400_000) ≡ (t.year, day-of-year) = ap year_and_day dn ∙ year-is in
      let m : month_and_day (year_and_day (instant_at t / 86_400_000)).0 (year_and_day (instant_at t / 86_400_000)).1 ≡ (t.month, t.day - 1) = ap (λ (p : ℕ × ℕ). month_and_day p.0 p.1) y ∙ month-is in
      let ye : (year_and_day (instant_at t / 86_400_000)).0 ≡ t.year = ap (λ (p : ℕ × ℕ). p.0) y in
      let mo : (month_and_day (year_and_day (instant_at t / 86_400_000)).0 (year_and_day (instant_at t / 86_400_000)).1).0 ≡ t.month = ap (λ (p : ℕ × ℕ). p.0) m in
      let da : (month_and_day (year_and_day (instant_at t / 86_400_000)).0 (year_and_day (instant_at t / 86_400_000)).1).1 + 1 ≡ t.day = ap (λ (p : ℕ × ℕ). p.1 + 1) m ∙ omega arith in
      let e : date_time_of (instant_at t) ≡ record { year = t.year; month = t.month; day = t.day; hour = t.hour; minute = t.minute; second = t.second; millisecond = t.millisecond } = cc in
      e

  pub in-range : instant_at t ≤ last_instant
  unfolding instant_at day_number day-of-year
  in-range =
      let y = year-more t.year d.year-low in
      omega (arith, in-year, is-closed (t.year + 1) (omega arith))

-- FROM AN INSTANT TO ITS DATE AND TIME AND BACK

-- days, hours, minutes, seconds and milliseconds add up to the instant
time-sum : (i : ℕ) → i / 86_400_000 * 86_400_000 + i / 3_600_000 % 24 * 3_600_000 + i / 60_000 % 60 * 60_000 + i / 1_000 % 60 * 1_000 + i % 1_000 ≡ i
time-sum i = omega (arith, div-div-eq-div-mul i 1_000 60, div-div-eq-div-mul i 60_000 60, div-div-eq-div-mul i 3_600_000 24)

module _ (i : ℕ) (h : i ≤ last_instant) where
  -- the year and the month of the instant's day
  in-years : Place year_length 1970 8030 (i / 86_400_000)
  in-years = year-place (i / 86_400_000) (omega arith)

  in-months : Place (month_length (1970 + in-years.n)) 1 12 in-years.rest
  in-months = month-place (1970 + in-years.n) in-years.rest in-years.within

  found : DateTime
  found =
      record {
        year = 1970 + in-years.n;
        month = 1 + in-months.n;
        day = in-months.rest + 1;
        hour = i / 3_600_000 % 24;
        minute = i / 60_000 % 60;
        second = i / 1_000 % 60;
        millisecond = i % 1_000;
      }

  found-date : Date found
  unfolding found
  found-date =
      record {
        year-low = omega arith;
        year-high = omega (arith, in-years.below);
        month-low = omega arith;
        month-high = omega (arith, in-months.below);
        day-low = omega arith;
        day-high = omega (arith, in-months.within);
      }

  found-time : Time found
  unfolding found
  found-time = record { hours = omega arith; minutes = omega arith; seconds = omega arith; milliseconds = omega arith }

  found-instant : instant_at found ≡ i
  unfolding found instant_at day_number days_before_year days_before_month
  found-instant =
      let y : 1970 + in-years.n - 1970 ≡ in-years.n = omega arith in
      let m : 1 + in-months.n - 1 ≡ in-months.n = omega arith in
      omega (arith, time-sum i, in-years.sum, in-months.sum, ap (total year_length 1970) y, ap (total (month_length (1970 + in-years.n)) 1) m)

  found-is : date_time_of i ≡ found
  found-is = ap date_time_of (sym found-instant) ∙ date-time-back found found-date found-time

-- READING AND WRITING

reads-back : (t : DateTime) → Date t → Time t → instant_of (written t) ≡ Some (instant_at t)
unfolding instant_of is_timestamp
reads-back t d h =
    let f = fields-written t d h in
    let w : is_timestamp (written t) ≡ true = rw (length-written t, digits-written t, f, date-from t d, time-from t h) in
    cond-true (is_timestamp (written t)) _ _ w ∙ ap (λ k. Some (instant_at k)) f

-- what it takes to say an instant
pub record Says (s : List ℕ) (i : ℕ) : Type 0 where
  pub seventeen : length s ≡ 17
  pub digits : all_digits s ≡ true
  pub date : valid_date (fields_of s) ≡ true
  pub time : valid_time (fields_of s) ≡ true
  pub value : instant_at (fields_of s) ≡ i

pub says : (s : List ℕ) (i : ℕ) → instant_of s ≡ Some i → Says s i
unfolding instant_of is_timestamp
says s i e =
    record {
      seventeen = grind (arith, nat_tests);
      digits = grind (arith, nat_tests);
      date = grind (arith, nat_tests);
      time = grind (arith, nat_tests);
      value = grind (arith, nat_tests);
    }

back : (s : List ℕ) (i : ℕ) → instant_of s ≡ Some i → (s ≡ digits_of i) × (i ≤ last_instant)
unfolding digits_of
back s i e =
    let p = says s i e in
    let d = date-parts (fields_of s) p.date in
    let h = time-parts (fields_of s) p.time in
    let t : fields_of s ≡ date_time_of i = sym (date-time-back (fields_of s) d h) ∙ ap date_time_of p.value in
    (sym (written-fields s p.seventeen p.digits) ∙ ap written t, omega (arith, in-range (fields_of s) d h, p.value))

forth : (i : ℕ) → i ≤ last_instant → instant_of (digits_of i) ≡ Some i
unfolding digits_of
forth i h =
    ap (λ t. instant_of (written t)) (found-is i h) ∙
    (reads-back (found i h) (found-date i h) (found-time i h) ∙ ap Some (found-instant i h))

pub one-timestamp : OneTimestamp
unfolding digits_of
one-timestamp = record { back = back; forth = forth; seventeen = λ i. length-written (date_time_of i) }

-- what `write_timestamp` answers, in words of reading
pub written_back : (i : ℕ) → MatchOption (cond (leb i last_instant) (Some (digits_of i)) None) (Unsaid i) (λ digits. SaysAlone digits i)
written_back i =
    cond_both (leb i last_instant) (Some (digits_of i)) None (λ o. MatchOption o (Unsaid i) (λ digits. SaysAlone digits i))
    (λ e. (forth i (leb-true i last_instant e), λ others q. (back others i q).0))
    (λ e. λ digits q. omega (arith, (back digits i q).1, leb-false i last_instant e))
