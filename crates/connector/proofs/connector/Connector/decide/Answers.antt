use Rattle.std.proofs.Common.{◌≡◌, ℕ, ◌+◌, Bool, true, false, cond, Some, None, sym, refl, ap, ◌∙◌, arith, Err, Ok, Result, subst}
use Rattle.std.specs.Bool.{then_some}
use Rattle.wire.specs.declared.code.RejectCode.TheVariants as code
use Rattle.packet.specs.Values.{prepare_of}
use Rattle.stage.specs.declared.transfer.Rejected.{Rejected}
use Rattle.accounts.specs.Figures.{can_hold_out}
use Rattle.ledger.specs.Books.{has_number, next_row}
use Rattle.accounts.proofs.Answered.{some-when}
use Rattle.protocol.specs.Messages.{onward}
use Rattle.protocol.specs.Outcomes.{rejects, forwards}
use Rattle.protocol.specs.Calls.{reservation_for, plain_reject}
use Rattle.connector.specs.Decisions.{decided, Ready}
use Rattle.connector.specs.Views.{books_of, set_up_of}
use Rattle.packet.specs.Values.{PrepareValue}
use Rattle.wire.specs.declared.code.RejectCode.{RejectCode}
use Rattle.stage.specs.Verdicts.{plainly}
use Rattle.stage.specs.Accounts.{Pairs}
use Rattle.ledger.specs.Books.{Books}
use Rattle.connector.specs.declared.prepared.Onward.{Onward}
use Rattle.connector.proofs.Handed.{handed_on, missing-handed}
use Rattle.connector.proofs.OnePair.{pair_is}
use Rattle.connector.proofs.Deciding.{no_number, full, late, on-route, paired, no-credit-in, looked, offered-so, can-reserve}
use Rattle.connector.proofs.connector.Connector.decide.Goals as goal

-- a reject by its parts
by_parts : (t a q : ℕ) (r s : Rejected) → r ≡ s → rejects t a q r.code r.first r.second None ≡ rejects t a q s.code s.first s.second None
by_parts t a q r s e = ap (λ (x : Rejected). rejects t a q x.code x.first x.second None) e

none_told : (b : Bool) (n : ℕ) → None ≡ then_some b n → b ≡ false
none_told true n e = let z : ◌≡◌ {A = ℕ} 0 1 = cc in absurd (omega arith)
none_told false n e = refl

-- what is decided where a code is handed on
rejected_by : (b : Books) (a q : ℕ) (p : PrepareValue) (c : RejectCode) (r : Result Onward Rejected) → r ≡ Err (plainly c) → decided b a q p r ≡ plain_reject b.time a q c
rejected_by b a q p c r e = ap (decided b a q p) e

pub returns-in_err-number : goal.returns-in_err-number
returns-in_err-number g c =
    let k = c.args.self.now in
    let look = g.S.Stage.rule k.stages in
    let p = prepare_of c.args.prepare.now in
    let m = missing-handed plainly c.next_number.result code.InternalError _ c.from_residual.result (sym c.ok_or.ensures.value ∙ c.in_err-number.was) c.from_residual.ensures.1 in
    record {
      value = λ q. rejected_by (books_of k) c.args.account q p _ _ m.1 ∙ no_number look (set_up_of k) (books_of k) c.args.account q p (none_told (has_number (books_of k)) ((books_of k).last + 1) (m.0 ∙ c.next_number.ensures));
      ready = subst (Ready look (books_of k) c.args.account p) (sym m.1) tt;
    }

pub returns-then-is_full : goal.returns-then-is_full
returns-then-is_full g c =
    let k = c.args.self.now in
    let n = some-when _ _ _ (sym c.in_ok-number.ensures.ok_part ∙ c.next_number.ensures) in
    record {
      value = λ q. by_parts _ _ q _ _ c.into.ensures ∙ full (g.S.Stage.rule k.stages) (set_up_of k) (books_of k) c.args.account q (prepare_of c.args.prepare.now) n.0 c.if-is_full.ensures;
      ready = tt;
    }

pub returns-then-prepare-time : goal.returns-then-prepare-time
returns-then-prepare-time g c =
    let k = c.args.self.now in
    let n = some-when _ _ _ (sym c.in_ok-number.ensures.ok_part ∙ c.next_number.ensures) in
    record {
      value = λ q. by_parts _ _ q _ _ c.into-then-prepare-time.ensures ∙ late (g.S.Stage.rule k.stages) (set_up_of k) (books_of k) c.args.account q (prepare_of c.args.prepare.now) n.0 c.if-is_full.ensures (omega (arith, c.time-time.ensures));
      ready = tt;
    }

pub returns-in_err-to : goal.returns-in_err-to
returns-in_err-to g c =
    let k = c.args.self.now in
    let look = g.S.Stage.rule k.stages in
    let p = prepare_of c.args.prepare.now in
    let n = some-when _ _ _ (sym c.in_ok-number.ensures.ok_part ∙ c.next_number.ensures) in
    let m = missing-handed plainly c.find.result code.Unreachable _ c.from_residual-in_err-to.result (sym c.ok_or-2.ensures.value ∙ c.in_err-to.was) c.from_residual-in_err-to.ensures.1 in
    record {
      value = λ q.
          rejected_by (books_of k) c.args.account q p _ _ m.1
          ∙ on-route look (set_up_of k) (books_of k) c.args.account q p
          (record { number = n.0; room = c.if-is_full.ensures; timely-yet = omega (arith, c.time-time.ensures) }) None (m.0 ∙ c.find.ensures.value);
      ready = subst (Ready look (books_of k) c.args.account p) (sym m.1) tt;
    }

pub returns-in_err-accounts : goal.returns-in_err-accounts
returns-in_err-accounts g c =
    let k = c.args.self.now in
    let look = g.S.Stage.rule k.stages in
    let p = prepare_of c.args.prepare.now in
    let n = some-when _ _ _ (sym c.in_ok-number.ensures.ok_part ∙ c.next_number.ensures) in
    let m = missing-handed plainly c.new.result code.Unreachable _ c.from_residual-in_err-accounts.result (sym c.ok_or-3.ensures.value ∙ c.in_err-accounts.was) c.from_residual-in_err-accounts.ensures.1 in
    record {
      value = λ q.
          rejected_by (books_of k) c.args.account q p _ _ m.1
          ∙ paired look (set_up_of k) (books_of k) c.args.account q p
          (record { number = n.0; room = c.if-is_full.ensures; timely-yet = omega (arith, c.time-time.ensures) }) c.in_ok-to.to None (sym c.in_ok-to.ensures.ok_part ∙ c.find.ensures.value)
          (m.0 ∙ pair_is c.args.account c.in_ok-to.to c.new.result c.new.ensures);
      ready = subst (Ready look (books_of k) c.args.account p) (sym m.1) tt;
    }

pub returns-then-not-can_hold_in : goal.returns-then-not-can_hold_in
returns-then-not-can_hold_in g c =
    let k = c.args.self.now in
    let n = some-when _ _ _ (sym c.in_ok-number.ensures.ok_part ∙ c.next_number.ensures) in
    record {
      value = λ q.
          by_parts _ _ q _ _ c.into-then-not-can_hold_in.ensures
          ∙ no-credit-in (g.S.Stage.rule k.stages) (set_up_of k) (books_of k) c.args.account q (prepare_of c.args.prepare.now)
          (record { number = n.0; room = c.if-is_full.ensures; timely-yet = omega (arith, c.time-time.ensures) }) c.in_ok-to.to c.in_ok-accounts.accounts (sym c.in_ok-to.ensures.ok_part ∙ c.find.ensures.value) (pair_is c.args.account c.in_ok-to.to (Some c.in_ok-accounts.accounts) (subst (Pairs c.args.account c.in_ok-to.to) c.in_ok-accounts.ensures.ok_part c.new.ensures)) c.if-not-can_hold_in.ensures;
      ready = tt;
    }

pub returns-in_err-passed : goal.returns-in_err-passed
returns-in_err-passed g c =
    let k = c.args.self.now in
    let look = g.S.Stage.rule k.stages in
    let p = prepare_of c.args.prepare.now in
    let n = some-when _ _ _ (sym c.in_ok-number.ensures.ok_part ∙ c.next_number.ensures) in
    let r = c.in_err-passed.field-0.0 in
    let e = handed_on c.from_residual-in_err-passed.result r c.from_residual-in_err-passed.ensures.1 in
    record {
      value = λ q.
          ap (decided (books_of k) c.args.account q p) e
          ∙ looked look (set_up_of k) (books_of k) c.args.account q p
          (record { number = n.0; room = c.if-is_full.ensures; timely-yet = omega (arith, c.time-time.ensures) }) c.in_ok-to.to c.in_ok-accounts.accounts (Err r) (sym c.in_ok-to.ensures.ok_part ∙ c.find.ensures.value) (pair_is c.args.account c.in_ok-to.to (Some c.in_ok-accounts.accounts) (subst (Pairs c.args.account c.in_ok-to.to) c.in_ok-accounts.ensures.ok_part c.new.ensures)) c.if-not-can_hold_in.ensures
          (c.in_err-passed.ensures ∙ offered-so look (set_up_of k) (books_of k) c.args.account q p c.in_ok-accounts.accounts c.in_ok-number.number c.time-time.result n.1 c.time-time.ensures);
      ready = subst (Ready look (books_of k) c.args.account p) (sym e) tt;
    }

pub returns-then-not-can_hold_out : goal.returns-then-not-can_hold_out
returns-then-not-can_hold_out g c =
    let k = c.args.self.now in
    let look = g.S.Stage.rule k.stages in
    let p = prepare_of c.args.prepare.now in
    let n = some-when _ _ _ (sym c.in_ok-number.ensures.ok_part ∙ c.next_number.ensures) in
    record {
      value = λ q.
          by_parts _ _ q _ _ c.into-then-not-can_hold_out.ensures
          ∙ sym (ap (λ x. cond x (forwards (books_of k).time (next_row (books_of k) (reservation_for c.args.account q p c.in_ok-to.to c.in_ok-passed.passed)) (onward p c.in_ok-passed.passed.amount c.in_ok-passed.passed.expiry)) (plain_reject (books_of k).time c.args.account q code.InsufficientLiquidity)) (sym c.if-not-can_hold_out.ensures))
          ∙ looked look (set_up_of k) (books_of k) c.args.account q p
          (record { number = n.0; room = c.if-is_full.ensures; timely-yet = omega (arith, c.time-time.ensures) }) c.in_ok-to.to c.in_ok-accounts.accounts (Ok c.in_ok-passed.passed) (sym c.in_ok-to.ensures.ok_part ∙ c.find.ensures.value) (pair_is c.args.account c.in_ok-to.to (Some c.in_ok-accounts.accounts) (subst (Pairs c.args.account c.in_ok-to.to) c.in_ok-accounts.ensures.ok_part c.new.ensures)) c.if-not-can_hold_in.ensures
          (c.in_ok-passed.ensures ∙ offered-so look (set_up_of k) (books_of k) c.args.account q p c.in_ok-accounts.accounts c.in_ok-number.number c.time-time.result n.1 c.time-time.ensures);
      ready = tt;
    }

pub returns : goal.returns
returns g c =
    let k = c.args.self.now in
    let look = g.S.Stage.rule k.stages in
    let p = prepare_of c.args.prepare.now in
    let v = c.in_ok-passed.passed in
    let to = c.in_ok-to.to in
    let x = c.in_ok-accounts.accounts in
    let both = (subst (Pairs c.args.account c.in_ok-to.to) c.in_ok-accounts.ensures.ok_part c.new.ensures) in
    let n = some-when _ _ _ (sym c.in_ok-number.ensures.ok_part ∙ c.next_number.ensures) in
    record {
      value = λ q.
          ap (λ o. forwards (books_of k).time (next_row (books_of k) (reservation_for c.args.account q p o v)) (onward p v.amount v.expiry)) both.1
          ∙ sym (ap (λ y. cond y (forwards (books_of k).time (next_row (books_of k) (reservation_for c.args.account q p to v)) (onward p v.amount v.expiry)) (plain_reject (books_of k).time c.args.account q code.InsufficientLiquidity)) (sym c.if-not-can_hold_out.ensures))
          ∙ looked look (set_up_of k) (books_of k) c.args.account q p
          (record { number = n.0; room = c.if-is_full.ensures; timely-yet = omega (arith, c.time-time.ensures) }) to x (Ok v) (sym c.in_ok-to.ensures.ok_part ∙ c.find.ensures.value) (pair_is c.args.account to (Some x) both) c.if-not-can_hold_in.ensures
          (c.in_ok-passed.ensures ∙ offered-so look (set_up_of k) (books_of k) c.args.account q p x c.in_ok-number.number c.time-time.result n.1 c.time-time.ensures);
      ready = (
        sym c.in_ok-passed.ensures,
        n.1,
        refl,
        λ q. can-reserve (books_of k) c.args.account q x.outgoing 0 p v n.0 c.if-is_full.ensures c.if-not-can_hold_in.ensures (c.if-not-can_hold_out.ensures ∙ ap (λ o. can_hold_out (books_of k).accounts o v.amount) (sym both.1)) (λ e. x.apart (both.0 ∙ e)),
      );
    }
