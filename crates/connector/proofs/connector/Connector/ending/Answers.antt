use Rattle.std.proofs.Common.{◌≡◌, length, sym, ap, ◌∙◌, subst, arith, rules}
use Rattle.std.proofs.lemmas.Bool.{true≢false}
use Rattle.packet.specs.declared.value.Answer.{Answer}
use Rattle.packet.specs.Encoding.{WellFormed}
use Rattle.packet.specs.Values.{fulfill_of, answer_of}
use Rattle.connector.specs.Endings.{answered_by}
use Rattle.connector.proofs.Endings.{paid-so, wrong-so}
use Rattle.connector.proofs.connector.Connector.ending.Goals as goal

pub returns-then-fulfils : goal.returns-then-fulfils
returns-then-fulfils g c = λ bytes.
    let opens = c.fulfils.ensures.0 c.if-fulfils.true in
    paid-so g.H.ConditionHash.digest_of _ bytes c.args.row.now (fulfill_of c.in-Fulfill.fulfill) _ (ap answered_by c.in-Fulfill.is) (omega (arith, c.if-time-row.false, c.time.ensures)) opens.2

pub returns : goal.returns
returns g c = λ bytes.
    let f = subst (λ (x : Answer). WellFormed (answer_of x)) c.in-Fulfill.is c.requires in
    let n : length c.args.row.now.condition ≡ 32 = search rules in
    wrong-so g.H.ConditionHash.digest_of _ bytes c.args.row.now (fulfill_of c.in-Fulfill.fulfill) _ (ap answered_by c.in-Fulfill.is) (omega (arith, c.if-time-row.false, c.time.ensures))
    (λ same. true≢false (sym (c.fulfils.ensures.1 (f.fulfilment, n, same)) ∙ c.if-fulfils.false))
