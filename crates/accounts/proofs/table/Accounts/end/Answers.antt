use Rattle.std.proofs.Common.{◌∙◌, rules}
use Rattle.accounts.specs.Figures.{holds_in, holds_out, end_in, end_out}
use Rattle.accounts.proofs.table.Accounts.end.Goals as goal

pub returns-clause-answer : goal.returns-clause-answer
returns-clause-answer c =
    let h = c.args.hold in
    let paid = c.args.fulfilled in
    c.is_some.ensures
    ∙ (c.change.ensures.changed (holds_in h.amount_in) (holds_out h.amount_out) (end_in paid h.amount_in) (end_out paid h.amount_out) (λ a r p. search rules) (λ a r p. search rules)).0

pub returns-clause-figures : goal.returns-clause-figures
returns-clause-figures c =
    let h = c.args.hold in
    let paid = c.args.fulfilled in
    rw c.is_some.ensures (c.change.ensures.changed (holds_in h.amount_in) (holds_out h.amount_out) (end_in paid h.amount_in) (end_out paid h.amount_out) (λ a r p. search rules) (λ a r p. search rules)).1
