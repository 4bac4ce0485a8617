use Rattle.std.proofs.Common.{get_or, sym, subst}
use Rattle.accounts.specs.Figures.{Keeps, unset}
use Rattle.accounts.proofs.Openings.{all_keep, rows_all, fits_all}
use Rattle.accounts.proofs.table.Accounts.new.Goals as goal

pub invariant_of-result-clause-limits : goal.invariant_of-result-clause-limits
invariant_of-result-clause-limits c =
    let ls = c.args.limits.now in
    let written = rows_all c.loop-i.rows ls c.loop-i.i c.loop-i.auto.i-end c.loop-i-test.false c.loop-i.invariant.0 in
    let fits = fits_all ls c.loop-i.i c.loop-i-test.false c.loop-i.invariant.2 in
    λ k. subst (λ xs. Keeps (get_or xs k unset)) (sym written) (all_keep ls fits k)
