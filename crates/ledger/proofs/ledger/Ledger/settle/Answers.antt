use Rattle.std.proofs.Common.{◌≡◌, ℕ, Bool, true, false, cond, ◌&&◌, leb, ℤ, Some, Ok, Err, Option, sym, refl, ap, ◌∙◌, arith, rules}
use Rattle.std.proofs.lemmas.Bool.Decides.{nat_tests}
use Rattle.std.specs.Bool.{then_some}
use Rattle.std.specs.Option.{ok_or}
use Rattle.accounts.specs.declared.way.Way.{Way}
use Rattle.accounts.specs.declared.way.Way.TheVariants.{TheyPaid, WePaid}
use Rattle.accounts.specs.Figures.{is_set_up, can_settle, settled_balance}
use Rattle.accounts.specs.Ways.{way_number, way_of}
use Rattle.ledger.specs.declared.refusal.NotSettled.TheVariants.{LimitWouldBreak, UnknownWay, NoAccount}
use Rattle.ledger.specs.Books.{figures_at}
use Rattle.ledger.specs.Settling.{settlement}
use Rattle.ledger.specs.Views.{view}
use Rattle.ledger.proofs.ledger.Ledger.settle.Goals as goal

way-told : (w : ℕ) (way : Way) → Some way ≡ way_of w → way_number way ≡ w
way-told w TheyPaid e = grind (arith, nat_tests)
way-told w WePaid e = grind (arith, nat_tests)

known-way : (way : Way) → leb (way_number way) 1 ≡ true
known-way TheyPaid = refl
known-way WePaid = refl

-- the answer of an account that is there, to a way that is known
told : (there known can : Bool) (z : ℤ) (r : Option ℤ) → there ≡ true → known ≡ true → r ≡ then_some (there && can) z
    → ok_or r LimitWouldBreak ≡ cond there (cond known (cond can (Ok z) (Err LimitWouldBreak)) (Err UnknownWay)) (Err NoAccount)
told true true true z r e f g = ap (λ o. ok_or o LimitWouldBreak) g
told true true false z r e f g = ap (λ o. ok_or o LimitWouldBreak) g
told true false can z r e f g = cc
told false known can z r e f g = cc

pub returns-clause-value : goal.returns-clause-value
returns-clause-value c =
    let b = view c.args.self.now in
    let a = c.args.account in
    let n = way_number c.in_ok-way.way in
    let m = c.args.amount in
    c.ok_or.ensures.value
    ∙ told (is_set_up b.accounts a) (leb n 1) (can_settle n m (figures_at b a)) (settled_balance n m (figures_at b a)) c.settle.result
    (sym c.if-not-has_account.ensures) (known-way c.in_ok-way.way) c.settle.ensures.answer
    ∙ ap (λ w. settlement b a w m) (way-told c.args.way c.in_ok-way.way (search rules))
