use Rattle.std.proofs.Common.{sym, ◌∙◌, rules}
use Rattle.accounts.specs.Figures.{takes_in, takes_out, hold_in, hold_out}
use Rattle.accounts.specs.Views.{figures_list}
use Rattle.accounts.proofs.Adjusted.{can_hold-is}
use Rattle.accounts.proofs.table.Accounts.hold.Goals as goal

pub returns-clause-answer : goal.returns-clause-answer
returns-clause-answer c =
    let h = c.args.hold in
    c.is_some.ensures
    ∙ (c.change.ensures.changed (takes_in h.amount_in) (takes_out h.amount_out) (hold_in h.amount_in) (hold_out h.amount_out) (λ a r p. search rules) (λ a r p. search rules)).0
    ∙ sym (can_hold-is (figures_list c.args.self.now) h)

pub returns-clause-figures : goal.returns-clause-figures
returns-clause-figures c =
    let h = c.args.hold in
    rw c.is_some.ensures (c.change.ensures.changed (takes_in h.amount_in) (takes_out h.amount_out) (hold_in h.amount_in) (hold_out h.amount_out) (λ a r p. search rules) (λ a r p. search rules)).1
