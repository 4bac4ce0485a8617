use Rattle.std.proofs.Common.{sym, ◌∙◌, rules, tests}
use Rattle.std.proofs.lemmas.Iterator.{YieldsList-from_slice}
use Rattle.std.proofs.lemmas.Iterator.Search.{all_from_yields_List}
use Rattle.std.proofs.lemmas.List.Folds.{list_all-map}
use Rattle.routing.specs.Entries.{given_route}
use Rattle.routing.specs.Routes.{route_fits}
use Rattle.routing.proofs.check.each_fits.Goals as goal

pub returns : goal.returns
returns c =
    let rs = c.args.routes.now in
    all_from_yields_List (λ r. route_fits c.args.accounts (given_route r)) _ _ _ c.all.ensures.ran (YieldsList-from_slice rs (search rules)) (λ x b q k. search (rules, tests))
    ∙ sym (list_all-map (route_fits c.args.accounts) given_route rs)
