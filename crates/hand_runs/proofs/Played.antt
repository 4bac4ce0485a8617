-- Each run turns out as it is written down.
use Rattle.std.proofs.Common.{refl}
use Rattle.wire.specs.Reading.{forward, determinant, field}
use Rattle.wire.specs.Writing.{determinant_of}
use Rattle.calendar.specs.Calendar.{year_length, total, days_before_year, days_before_month, count_off, year_and_day, month_and_day, valid_date, valid_time, day_number, instant_at, date_time_of, all_digits, fields_of, written, is_timestamp, instant_of, digits_of}
use Rattle.address.specs.Addresses.{is_address, is_prefix}
use Rattle.packet.specs.Encoding.{amount_bytes, packet_bytes}
use Rattle.packet.specs.Fields.{read_amount, read_expiry, read_code, read_destination, read_trigger}
use Rattle.packet.specs.Readers.{read_length, read_as}
use Rattle.condition.specs.Practice.{practice}
use Rattle.routing.specs.Routes.{route_fits, routes_fit, begins, route_for}
use Rattle.protocol.specs.Calls.{prepare_outcome, sent_outcome, unsent_outcome, answer_outcome, tick_outcome, settle_outcome}
use Rattle.protocol.specs.Messages.{prepare_in, answer_in, forwarded_bytes, our_bytes}
use Rattle.protocol.specs.Pairs.{pair_of}
use Rattle.hand_runs.specs.HandRuns.{HandWrittenRuns}

pub hand-written-runs : HandWrittenRuns
unfolding forward determinant field determinant_of year_length total days_before_year days_before_month count_off year_and_day month_and_day valid_date valid_time day_number instant_at date_time_of all_digits fields_of written is_timestamp instant_of digits_of is_address is_prefix amount_bytes packet_bytes read_amount read_expiry read_code read_destination read_trigger read_length read_as practice route_fits routes_fit begins route_for prepare_outcome sent_outcome unsent_outcome answer_outcome tick_outcome settle_outcome prepare_in answer_in forwarded_bytes our_bytes pair_of
hand-written-runs =
    record {
      fulfilled = record { answered = refl; booked = refl; left_on_the_sheet = refl; right_on_the_sheet = refl };
      just_in_time = record { answered = refl; booked = refl; left_on_the_sheet = refl; right_on_the_sheet = refl };
      too_late = record { answered = refl; booked = refl; left_on_the_sheet = refl; right_on_the_sheet = refl };
      late_and_wrong = record { answered = refl; booked = refl; left_on_the_sheet = refl; right_on_the_sheet = refl };
      wrong_secret = record { answered = refl; booked = refl; left_on_the_sheet = refl; right_on_the_sheet = refl };
      peer_refuses = record { answered = refl; booked = refl; left_on_the_sheet = refl; right_on_the_sheet = refl };
      junk_answer = record { answered = refl; booked = refl; left_on_the_sheet = refl; right_on_the_sheet = refl };
      answers_refused = record { answered = refl; booked = refl; left_on_the_sheet = refl; right_on_the_sheet = refl };
      sent_or_unsent = record { answered = refl; booked = refl; left_on_the_sheet = refl; right_on_the_sheet = refl };
      swept = record { answered = refl; booked = refl; left_on_the_sheet = refl; right_on_the_sheet = refl };
      rejected = record { answered = refl; booked = refl; left_on_the_sheet = refl; right_on_the_sheet = refl };
      full_line = record { answered = refl; booked = refl; left_on_the_sheet = refl; right_on_the_sheet = refl };
      times = record { answered = refl; booked = refl; left_on_the_sheet = refl; right_on_the_sheet = refl };
      settlements = record { answered = refl; booked = refl; left_on_the_sheet = refl; right_on_the_sheet = refl };
    }
