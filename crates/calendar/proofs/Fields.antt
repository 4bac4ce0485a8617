-- The fields of a valid date and time, and the digits that they are written with and read from.
use Rattle.std.proofs.Common.{◌≡◌, ℕ, zero, suc, ◌+◌, ◌-◌, ◌*◌, ◌/◌, ◌%◌, ◌<◌, ◌≤◌, true, ◌&&◌, List, [], ◌∷◌, length, get_or, drop, sym, refl, ap, ◌∙◌, arith}
use native.Mathlib.Nat.{div-div-eq-div-mul}
use Rattle.std.proofs.lemmas.Nat.{div-mul-add, mod-mul-add}
use Rattle.std.proofs.lemmas.List.FromFn.{fill_by_all}
use Rattle.std.proofs.lemmas.List.{at_drop_more}
use Rattle.std.proofs.lemmas.Bool.{and_parts}
use Rattle.std.proofs.lemmas.Bool.Decides.{nat_tests}
use Rattle.calendar.specs.declared.civil.DateTime.{DateTime}
use Rattle.calendar.specs.Calendar.{all_digits, digit_byte, fields_of, four_at, is_digit, month_length, one_at, three_at, two_at, valid_date, valid_time, written}
use Rattle.calendar.proofs.MonthLaws.{month-small}

-- VALID FIELDS

pub record Date (t : DateTime) : Type 0 where
  pub year-low : 1970 ≤ t.year
  pub year-high : t.year ≤ 9999
  pub month-low : 1 ≤ t.month
  pub month-high : t.month ≤ 12
  pub day-low : 1 ≤ t.day
  pub day-high : t.day ≤ month_length t.year t.month

pub record Time (t : DateTime) : Type 0 where
  pub hours : t.hour ≤ 23
  pub minutes : t.minute ≤ 59
  pub seconds : t.second ≤ 59
  pub milliseconds : t.millisecond ≤ 999

pub date-parts : (t : DateTime) → valid_date t ≡ true → Date t
unfolding valid_date
date-parts t h =
    record {
      year-low = grind (arith, nat_tests);
      year-high = grind (arith, nat_tests);
      month-low = grind (arith, nat_tests);
      month-high = grind (arith, nat_tests);
      day-low = grind (arith, nat_tests);
      day-high = grind (arith, nat_tests);
    }

pub date-from : (t : DateTime) → Date t → valid_date t ≡ true
unfolding valid_date
date-from t d = grind (arith, nat_tests)

pub time-parts : (t : DateTime) → valid_time t ≡ true → Time t
unfolding valid_time
time-parts t h =
    record {
      hours = grind (arith, nat_tests);
      minutes = grind (arith, nat_tests);
      seconds = grind (arith, nat_tests);
      milliseconds = grind (arith, nat_tests);
    }

pub time-from : (t : DateTime) → Time t → valid_time t ≡ true
unfolding valid_time
time-from t h = grind (arith, nat_tests)

-- ALL DIGITS

-- the bytes from i on are digits if the one at i is, and all behind it
pub digits_more : (s : List ℕ) (i : ℕ) → i < length s → all_digits (drop i s) ≡ (is_digit (get_or s i 0) && all_digits (drop (i + 1) s))
unfolding all_digits
digits_more s i h = at_drop_more all_digits s i 0 h

-- the byte at i is a digit
IsDigit : List ℕ → ℕ → Type 0
IsDigit bs i = (48 ≤ get_or bs i 0) × (get_or bs i 0 ≤ 57)

digit-in : (s : List ℕ) (i : ℕ) → i < length s → all_digits s ≡ true → IsDigit s i
unfolding all_digits IsDigit
digit-in [] i h a = absurd (omega arith)
digit-in (x ∷ s) zero h a = (grind (arith, nat_tests), grind (arith, nat_tests))
digit-in (x ∷ s) (suc i) h a = digit-in s i (omega arith) (and_parts (is_digit x) (all_digits s) a).1

digit-byte : (n : ℕ) → is_digit (digit_byte n) ≡ true
digit-byte n = grind (arith, nat_tests)

pub digits-written : (t : DateTime) → all_digits (written t) ≡ true
unfolding all_digits written
digits-written t = simp digit-byte

pub length-written : (t : DateTime) → length (written t) ≡ 17
unfolding written
length-written t = refl

-- WHAT IS WRITTEN IS READ

-- quotients by 100 and 1000 as quotients by 10, which `omega` can tie to the digits
hundreds : (n : ℕ) → n / 100 ≡ n / 10 / 10
hundreds n = sym (div-div-eq-div-mul n 10 10)

thousands : (n : ℕ) → n / 1000 ≡ n / 10 / 10 / 10
thousands n = sym (div-div-eq-div-mul (n / 10) 10 10 ∙ div-div-eq-div-mul n 10 100)

four-back : (n : ℕ) → n ≤ 9999 → ((n / 1000 % 10 * 10 + n / 100 % 10) * 10 + n / 10 % 10) * 10 + n % 10 ≡ n
four-back n h = rw (thousands n, hundreds n) (omega arith)

pub fields-written : (t : DateTime) → Date t → Time t → fields_of (written t) ≡ t
unfolding fields_of written
fields-written t d h =
    let s = month-small t.year t.month d.month-low d.month-high in
    let ye : four_at (written t) 0 ≡ t.year = omega (arith, four-back t.year (omega arith)) in
    let mo : two_at (written t) 4 ≡ t.month = omega arith in
    let da : two_at (written t) 6 ≡ t.day = omega arith in
    let ho : two_at (written t) 8 ≡ t.hour = omega arith in
    let mi : two_at (written t) 10 ≡ t.minute = omega arith in
    let se : two_at (written t) 12 ≡ t.second = omega arith in
    let ms : three_at (written t) 14 ≡ t.millisecond = omega (arith, hundreds t.millisecond) in
    let e : fields_of (written t) ≡ record { year = t.year; month = t.month; day = t.day; hour = t.hour; minute = t.minute; second = t.second; millisecond = t.millisecond } = cc in
    e

-- WHAT IS READ IS WRITTEN

seventeen : (bs : List ℕ) → length bs ≡ 17 →
    bs ≡
    get_or bs 0 0 ∷ get_or bs 1 0 ∷ get_or bs 2 0 ∷ get_or bs 3 0 ∷ get_or bs 4 0 ∷ get_or bs 5 0 ∷ get_or bs 6 0 ∷ get_or bs 7 0 ∷ get_or bs 8 0 ∷
    get_or bs 9 0 ∷ get_or bs 10 0 ∷ get_or bs 11 0 ∷ get_or bs 12 0 ∷ get_or bs 13 0 ∷ get_or bs 14 0 ∷ get_or bs 15 0 ∷ get_or bs 16 0 ∷ []
seventeen bs n = fill_by_all (λ i. get_or bs i 0) bs 17 0 n (λ k h. refl)

quotient : (n b : ℕ) → b ≤ 57 → (n * 10 + (b - 48)) / 10 ≡ n
quotient n b h = div-mul-add n 10 (b - 48) (omega arith)

last : (n b : ℕ) → 48 ≤ b → b ≤ 57 → digit_byte (n * 10 + (b - 48)) ≡ b
last n b l h = omega (arith, mod-mul-add n 10 (b - 48) (omega arith))

lone : (b : ℕ) → 48 ≤ b → b ≤ 57 → digit_byte (b - 48) ≡ b
lone b l h = omega arith

-- each digit of a number that two, three or four digits say is the byte at its place
module _ (bs : List ℕ) (i : ℕ) (a : IsDigit bs i) (b : IsDigit bs (i + 1)) where
  two-high : digit_byte (two_at bs i / 10) ≡ get_or bs i 0
  unfolding IsDigit
  two-high = ap digit_byte (quotient (one_at bs i) (get_or bs (i + 1) 0) b.1) ∙ lone (get_or bs i 0) a.0 a.1

  two-low : digit_byte (two_at bs i) ≡ get_or bs (i + 1) 0
  unfolding IsDigit
  two-low = last (one_at bs i) (get_or bs (i + 1) 0) b.0 b.1

  module _ (c : IsDigit bs (i + 2)) where
    three-rest : three_at bs i / 10 ≡ two_at bs i
    unfolding IsDigit
    three-rest = quotient (two_at bs i) (get_or bs (i + 2) 0) c.1

    three-low : digit_byte (three_at bs i) ≡ get_or bs (i + 2) 0
    unfolding IsDigit
    three-low = last (two_at bs i) (get_or bs (i + 2) 0) c.0 c.1

    three-mid : digit_byte (three_at bs i / 10) ≡ get_or bs (i + 1) 0
    three-mid = ap digit_byte three-rest ∙ two-low

    three-high : digit_byte (three_at bs i / 100) ≡ get_or bs i 0
    three-high = ap digit_byte (hundreds (three_at bs i) ∙ ap (λ n. n / 10) three-rest) ∙ two-high

    module _ (d : IsDigit bs (i + 3)) where
      four-rest : four_at bs i / 10 ≡ three_at bs i
      unfolding IsDigit
      four-rest = quotient (three_at bs i) (get_or bs (i + 3) 0) d.1

      four_low : digit_byte (four_at bs i) ≡ get_or bs (i + 3) 0
      unfolding IsDigit
      four_low = last (three_at bs i) (get_or bs (i + 3) 0) d.0 d.1

      four-mid : digit_byte (four_at bs i / 10) ≡ get_or bs (i + 2) 0
      four-mid = ap digit_byte four-rest ∙ three-low

      four-more : digit_byte (four_at bs i / 100) ≡ get_or bs (i + 1) 0
      four-more = ap digit_byte (hundreds (four_at bs i) ∙ ap (λ n. n / 10) four-rest) ∙ three-mid

      four-high : digit_byte (four_at bs i / 1000) ≡ get_or bs i 0
      four-high = ap digit_byte (thousands (four_at bs i) ∙ (ap (λ n. n / 10 / 10) four-rest ∙ sym (hundreds (three_at bs i)))) ∙ three-high

pub written-fields : (bs : List ℕ) → length bs ≡ 17 → all_digits bs ≡ true → written (fields_of bs) ≡ bs
unfolding fields_of written
written-fields bs n a =
    let at : (i : ℕ) → i < 17 → IsDigit bs i = λ i h. digit-in bs i (omega arith) a in
    let d0 = at 0 (omega arith) in
    let d1 = at 1 (omega arith) in
    let d2 = at 2 (omega arith) in
    let d3 = at 3 (omega arith) in
    let d4 = at 4 (omega arith) in
    let d5 = at 5 (omega arith) in
    let d6 = at 6 (omega arith) in
    let d7 = at 7 (omega arith) in
    let d8 = at 8 (omega arith) in
    let d9 = at 9 (omega arith) in
    let d10 = at 10 (omega arith) in
    let d11 = at 11 (omega arith) in
    let d12 = at 12 (omega arith) in
    let d13 = at 13 (omega arith) in
    let d14 = at 14 (omega arith) in
    let d15 = at 15 (omega arith) in
    let d16 = at 16 (omega arith) in
    rw (
      four-high bs 0 d0 d1 d2 d3,
      four-more bs 0 d0 d1 d2 d3,
      four-mid bs 0 d0 d1 d2 d3,
      four_low bs 0 d0 d1 d2 d3,
      two-high bs 4 d4 d5,
      two-low bs 4 d4 d5,
      two-high bs 6 d6 d7,
      two-low bs 6 d6 d7,
      two-high bs 8 d8 d9,
      two-low bs 8 d8 d9,
      two-high bs 10 d10 d11,
      two-low bs 10 d10 d11,
      two-high bs 12 d12 d13,
      two-low bs 12 d12 d13,
      three-high bs 14 d14 d15 d16,
      three-mid bs 14 d14 d15 d16,
      three-low bs 14 d14 d15 d16,
    ) (sym (seventeen bs n))
