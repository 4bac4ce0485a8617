use Rattle.std.proofs.Common.{◌&&◌, get_or, ap, ◌∙◌}
use Rattle.accounts.specs.Figures.{unset, takes_out}
use Rattle.accounts.specs.Views.{figures_of, figures_list}
use Rattle.accounts.proofs.Limited.{told-out}
use Rattle.accounts.proofs.table.Accounts.can_hold_out.Goals as goal

pub returns-then-has : goal.returns-then-has
returns-then-has c =
    told-out c.args.amount c.room_out.result (figures_of c.at.result) c.room_out.ensures
    ∙ ap (takes_out c.args.amount) c.at.ensures
    ∙ ap (λ b. b && takes_out c.args.amount (get_or (figures_list c.args.self.now) c.args.account unset)) c.if-has.ensures
