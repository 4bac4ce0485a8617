use Rattle.std.proofs.Common.{◌-◌, take, sym, ap, ◌∙◌, arith}
use Rattle.std.proofs.lemmas.Bool.{both_ways}
use Rattle.stage.specs.Numbers.{none_twice}
use Rattle.stage.specs.Opened.{opened}
use Rattle.stage.proofs.OpenLists.{none-found, once-without, taken-out, without-none}
use Rattle.stage.proofs.numbers.OpenNumbers.remove.Goals as goal

pub invariant_of-self-clause-once : goal.invariant_of-self-clause-once
invariant_of-self-clause-once c =
    let s = c.args.self.now in
    let out = taken-out s.places s.count c.args.number c.in-Some.place s.once (omega arith) (sym c.find.ensures ∙ c.in-Some.is) in
    ap none_twice (ap (take (s.count - 1)) c.copy_within.ensures.after ∙ out.0) ∙ once-without (opened s) c.args.number s.once

pub returns : goal.returns
returns c =
    let s = c.args.self.now in
    let out = taken-out s.places s.count c.args.number c.in-Some.place s.once (omega arith) (sym c.find.ensures ∙ c.in-Some.is) in
    record { numbers = ap (take (s.count - 1)) c.copy_within.ensures.after ∙ out.0; unchanged = λ none. absurd (both_ways _ none out.1) }

pub returns-in_default-clause-numbers : goal.returns-in_default-clause-numbers
returns-in_default-clause-numbers c =
    let s = c.args.self.now in
    sym (without-none (opened s) c.args.number (none-found _ (opened s) (sym c.find.ensures ∙ c.in_default.is)))
