-- Each figure is what the definitions compute.
use Rattle.std.proofs.Common.{◌≡◌, ℕ, ◌*◌, ◌/◌, cond, ltb, List, [], ◌∷◌, get_or, Ok, refl, ap, ◌∙◌}
use Rattle.wire.specs.declared.code.RejectCode.TheVariants.{InsufficientSourceAmount}
use Rattle.stage.specs.declared.transfer.Transfer.{Transfer}
use Rattle.stage.specs.Verdicts.{rejects}
use Rattle.layers.specs.Layers.{with_amount, converted, rate_own}
use Rattle.wire.specs.Reading.{determinant, forward}
use Rattle.wire.specs.Writing.{determinant_of}
use Rattle.calendar.specs.Calendar.{all_digits, count_off, date_time_of, day_number, days_before_month, days_before_year, digits_of, fields_of, instant_at, instant_of, is_timestamp, month_and_day, total, valid_date, valid_time, written, year_and_day, year_length}
use Rattle.packet.specs.Fields.{read_expiry}
use Rattle.vectors.specs.Figures.{Between0And1, EdgeFigures}

-- what a conversion makes of an amount between two accounts, as numbers
quotient : (prices : List ℕ) (t : Transfer) (n : ℕ) → Between0And1 t → t.amount ≡ n → t.amount * get_or prices t.accounts.incoming 0 / get_or prices t.accounts.outgoing 0 ≡ n * get_or prices 0 0 / get_or prices 1 0
quotient prices t n b e = λ i. e i * get_or prices (b.0 i) 0 / get_or prices (b.1 i) 0

ten_at_3_to_7 : (t : Transfer) → Between0And1 t → t.amount ≡ 10 → rate_own (3 ∷ 7 ∷ []) t ≡ Ok (with_amount t 4)
ten_at_3_to_7 t b e = ap (converted t) (quotient (3 ∷ 7 ∷ []) t 10 b e)

two_at_1_to_3 : (t : Transfer) → Between0And1 t → t.amount ≡ 2 → rate_own (1 ∷ 3 ∷ []) t ≡ rejects InsufficientSourceAmount 0 0
two_at_1_to_3 t b e =
    ap (converted t) (quotient (1 ∷ 3 ∷ []) t 2 b e) ∙ ap (λ n. cond (ltb 0 n) (rejects InsufficientSourceAmount 0 0) (Ok (with_amount t 0))) e

nothing_at_1_to_3 : (t : Transfer) → Between0And1 t → t.amount ≡ 0 → rate_own (1 ∷ 3 ∷ []) t ≡ Ok (with_amount t 0)
nothing_at_1_to_3 t b e =
    ap (converted t) (quotient (1 ∷ 3 ∷ []) t 0 b e) ∙ ap (λ n. cond (ltb 0 n) (rejects InsufficientSourceAmount 0 0) (Ok (with_amount t 0))) e

pub edge-figures : EdgeFigures
unfolding all_digits count_off date_time_of day_number days_before_month days_before_year determinant determinant_of digits_of fields_of forward instant_at instant_of is_timestamp month_and_day read_expiry total valid_date valid_time written year_and_day year_length
edge-figures =
    record {
      first_read = refl;
      first_written = refl;
      march_2000_read = refl;
      march_2000_written = refl;
      no_leap_day_2001 = refl;
      no_leap_day_expiry = λ p. refl;
      last_read = refl;
      last_written = refl;
      length_127_written = refl;
      length_127_read = record { wrapper = refl; in_field = refl };
      length_128_written = refl;
      length_128_read = record { wrapper = refl; in_field = refl };
      length_255_written = refl;
      length_255_read = record { wrapper = refl; in_field = refl };
      length_256_written = refl;
      length_256_read = record { wrapper = refl; in_field = refl };
      not_shortest_wrapper = refl;
      not_shortest_field = refl;
      ten_at_3_to_7 = ten_at_3_to_7;
      two_at_1_to_3 = two_at_1_to_3;
      nothing_at_1_to_3 = nothing_at_1_to_3;
    }
