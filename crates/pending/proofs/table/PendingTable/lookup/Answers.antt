use Rattle.std.proofs.Common.{cond, get_or, Some, None, sym, ap, ◌∙◌}
use Rattle.std.proofs.lemmas.Bool.{lt-ltb}
use Rattle.pending.specs.Rows.{vacant}
use Rattle.pending.specs.Tables.{rows_of}
use Rattle.pending.proofs.Found.{found, absent}
use Rattle.pending.proofs.table.PendingTable.lookup.Goals as goal

pub returns-in_err-find : goal.returns-in_err-find
returns-in_err-find c = c.from_residual.ensures ∙ sym (absent c.args.number (rows_of c.args.self.now) (sym c.in_err-find.ensures)).0

pub returns : goal.returns
returns c =
    let rs = rows_of c.args.self.now in
    let i = c.in_ok-find.field-0 in
    let f = found c.args.number rs i (sym c.in_ok-find.ensures) in
    c.at.ensures ∙ ap (λ b. cond b (Some (get_or rs i vacant)) None) (lt-ltb i _ f.there) ∙ sym f.row
