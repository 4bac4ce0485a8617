use Rattle.std.proofs.Common.{set, Some, sym, ap, ◌∙◌, w64, SFits, rules}
use Rattle.std.proofs.option.Match.{when_true}
use Rattle.std.proofs.lemmas.Int.{to_z-of_z}
use Rattle.std.proofs.lemmas.Bool.{true≢false, and_from}
use Rattle.accounts.specs.declared.figures.Figures.{Figures}
use Rattle.accounts.specs.Figures.{can_settle, settled}
use Rattle.accounts.specs.Views.{figures_list}
use Rattle.accounts.specs.Ways.{way_number}
use Rattle.accounts.proofs.Answered.{some-when}
use Rattle.accounts.proofs.table.Accounts.settle.Goals as goal

pub returns : goal.returns
returns c =
    let way = way_number c.args.way in
    let m = c.args.amount in
    let there = sym c.if-not-has.ensures in
    let made = some-when _ _ _ c.in_ok-after.ensures in
    let can = ap (can_settle way m) (sym c.at.ensures) ∙ made.0 in
    let after = made.1 ∙ ap (settled way m) c.at.ensures in
    let fits : SFits w64 c.figures.result.balance = search rules in
    record {
      answer = ap Some (to_z-of_z w64 c.figures.result.balance fits ∙ ap (λ (f : Figures). f.balance) (c.figures.ensures ∙ after)) ∙ when_true _ _ (and_from _ _ there can);
      figures = c.put.ensures ∙ ap (set (figures_list c.args.self.now) c.args.account) after;
      unchanged = λ never. absurd (true≢false never);
    }
