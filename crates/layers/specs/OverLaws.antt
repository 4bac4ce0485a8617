-- A layer keeps the laws of the stage below if its own answer keeps the number and does not put the expiry off.
-- Assumes nothing.
use Rattle.std.specs.Prelude.{◌≡◌, ℕ, ◌*◌, ◌/◌, ◌≤◌, Bool, true, false, cond, ◌&&◌, List, ◌==◌, nat_lt, slice_index, refl, Ok, Err, Result}
use Rattle.std.proofs.Common.{ap, ◌∙◌, le_refl, le_trans}
use Rattle.wire.specs.declared.code.RejectCode.TheVariants.{InsufficientLiquidity, InsufficientSourceAmount}
use Rattle.stage.specs.declared.transfer.Transfer.{Transfer}
use Rattle.stage.specs.declared.transfer.Passed.{Passed}
use Rattle.stage.specs.declared.transfer.Rejected.{Rejected}
use Rattle.stage.specs.Numbers.{among}
use Rattle.stage.specs.Verdicts.{passes, NotLater, rejects}
use Rattle.layers.specs.Layers.{over, Kept, with_amount, rate_own}

later : (t u : Transfer) (v : Result Passed Rejected) → u.expiry ≤ t.expiry → NotLater u v → NotLater t v
later t u (Ok p) h k = le_trans k h
later t u (Err r) h k = tt

pub over-expiry : (below : Transfer → Result Passed Rejected) → ((u : Transfer) → NotLater u (below u)) → (t : Transfer) (o : Result Transfer Rejected) → Kept t o → NotLater t (over o below)
over-expiry below law t (Ok u) k = later t u (below u) k.1 (law u)
over-expiry below law t (Err r) k = tt

pub over-fresh : (xs : List ℕ) (below : Transfer → Result Passed Rejected) → ((u : Transfer) → among xs u.number ≡ true → passes (below u) ≡ false) → (t : Transfer) (o : Result Transfer Rejected) → Kept t o → among xs t.number ≡ true → passes (over o below) ≡ false
over-fresh xs below law t (Ok u) k h = law u (ap (among xs) k.0 ∙ h)
over-fresh xs below law t (Err r) k h = refl

kept-cond : (t : Transfer) (b : Bool) (x y : Result Transfer Rejected) → Kept t x → Kept t y → Kept t (cond b x y)
kept-cond t true x y h k = h
kept-cond t false x y h k = k

-- a conversion changes the amount alone
pub rate-kept : (prices : List ℕ) (t : Transfer) → Kept t (rate_own prices t)
rate-kept prices t =
    let a : ℕ = t.amount * slice_index prices t.accounts.incoming / slice_index prices t.accounts.outgoing in
    let onward : Result Transfer Rejected = Ok (with_amount t a) in
    let nothing : Result Transfer Rejected = rejects InsufficientSourceAmount 0 0 in
    kept-cond t (nat_lt 9_223_372_036_854_775_807 a) (rejects InsufficientLiquidity 0 0) (cond (a == 0 && nat_lt 0 t.amount) nothing onward) tt
    (kept-cond t (a == 0 && nat_lt 0 t.amount) nothing onward tt (refl, le_refl t.expiry))
