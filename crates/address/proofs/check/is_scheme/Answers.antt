use Rattle.std.proofs.Common.{◌∙◌, rules}
use borrow.Author.Tests.{tests}
use Rattle.std.specs.Str.{bytes_eq}
use Rattle.address.proofs.Split.{scheme_among}
use Rattle.std.proofs.lemmas.Iterator.{YieldsList-from_slice}
use Rattle.std.proofs.lemmas.Iterator.Search.{any_from_yields_List}
use Rattle.address.proofs.check.is_scheme.Goals as goal

pub returns : goal.returns
returns c =
    let found = any_from_yields_List (λ scheme. bytes_eq c.args.part.now scheme.now) _ _ c.any.result c.any.ensures.ran (YieldsList-from_slice _ c.iter.ensures.rest) (λ x b q k. search (rules, tests)) in
    found ∙ scheme_among c.args.part.now
