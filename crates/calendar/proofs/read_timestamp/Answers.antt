use Rattle.std.proofs.Common.{sym, ◌∙◌}
use Rattle.calendar.proofs.Timestamps.{one-timestamp}
use Rattle.calendar.proofs.read_timestamp.Goals as goal

pub returns : goal.returns
returns c =
    record {
      value = c.instant_said.ensures;
      only = λ i e. one-timestamp.back c.args.digits.now i (sym c.instant_said.ensures ∙ e);
    }
