use Rattle.std.proofs.Common.{ℕ, List, Option, sym, subst, MatchOption}
use Rattle.calendar.specs.Calendar.{SaysAlone, Unsaid}
use Rattle.calendar.proofs.Timestamps.{written_back}
use Rattle.calendar.proofs.write_timestamp.Goals as goal

pub returns : goal.returns
returns c =
    record {
      value = c.timestamp_of.ensures;
      back =
          let P : Option (List ℕ) → Type 0 = λ o. MatchOption o (Unsaid c.args.instant) (λ digits. SaysAlone digits c.args.instant) in
          subst P (sym c.timestamp_of.ensures) (written_back c.args.instant);
    }
