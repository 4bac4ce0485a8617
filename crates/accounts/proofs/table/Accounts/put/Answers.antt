use Rattle.std.proofs.Common.{◌<◌, get_or, set, sym, ap, ◌∙◌, subst, arith}
use Rattle.std.proofs.Math.Seq.{take-set-lt}
use Rattle.std.proofs.lemmas.List.{length-set}
use Rattle.accounts.specs.Figures.{Keeps, unset}
use Rattle.accounts.specs.Views.{figures_list}
use Rattle.accounts.proofs.Rows.{each_set, length-list}
use Rattle.accounts.proofs.table.Accounts.put.Goals as goal

pub invariant_of-self : goal.invariant_of-self
invariant_of-self c =
    let t = c.args.self.now in
    let a = c.args.account in
    let f = c.figures.result in
    let there : a < t.count = omega (arith, length-list t) in
    let keeps = subst Keeps (sym c.figures.ensures) c.args.value.kept in
    record {
      few = t.few;
      some = t.some;
      whole = length-set t.rows a f ∙ t.whole;
      limits = λ k. subst (λ xs. Keeps (get_or xs k unset)) (sym (take-set-lt t.count t.rows a f there)) (each_set Keeps (figures_list t) a f unset keeps t.limits k);
    }

pub returns : goal.returns
returns c =
    let t = c.args.self.now in
    take-set-lt t.count t.rows c.args.account c.figures.result (omega (arith, length-list t)) ∙ ap (set (figures_list t) c.args.account) c.figures.ensures
