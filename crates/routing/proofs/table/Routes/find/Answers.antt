use Rattle.std.proofs.Common.{◌≡◌, ◌∙◌, rules}
use Rattle.routing.specs.Entries.{best_route}
use Rattle.routing.specs.Routes.{account_of}
use Rattle.routing.specs.Tables.{listed}
use Rattle.routing.proofs.Fitting.{fit-once}
use Rattle.routing.proofs.LookUp.{look-up-account, look-up-longest, longest-known, one-of-a-length}
use Rattle.routing.proofs.table.Routes.find.Goals as goal

pub returns : goal.returns
returns c =
    let t = c.args.self.now in
    let d = c.args.destination.now in
    let account : c.map.result ≡ account_of (best_route c.best.result) = search rules in
    let value = account ∙ look-up-account (listed t) d _ c.best.ensures in
    let longest = look-up-longest (listed t) d c.map.result value in
    record {
      value = value;
      longest = longest;
      only = one-of-a-length (listed t) d (fit-once t.accounts (listed t) t.fit);
      known = longest-known t.accounts (listed t) d c.map.result t.fit longest;
    }
