use Rattle.std.proofs.Common.{◌∙◌, rules, tests}
use Rattle.std.specs.Str.{bytes_eq}
use Rattle.std.proofs.lemmas.Iterator.{YieldsList-from_slice}
use Rattle.std.proofs.lemmas.Iterator.Search.{any_from_yields_List}
use Rattle.routing.specs.declared.route.Route.{Route}
use Rattle.routing.proofs.Given.{any-given}
use Rattle.routing.proofs.check.has_prefix.Goals as goal

pub returns : goal.returns
returns c =
    let rs = c.args.routes.now in
    let p = c.args.prefix.now in
    any_from_yields_List (λ (r : Route). bytes_eq r.prefix.now p) _ _ _ c.any.ensures.ran (YieldsList-from_slice rs (search rules)) (λ x b q k. search (rules, tests))
    ∙ any-given p rs
