-- What a `?` hands on. Assumes nothing.
use Rattle.std.proofs.Common.{◌≡◌, ℕ, Some, None, Ok, Err, Option, Result, sym, ap, ◌∙◌, arith}
use Rattle.std.specs.Option.{ok_or}
use Rattle.std.specs.Result.{IsErrAnd}

pub handed_on : {X Y : Type 0} (r : Result X Y) (e : Y) → IsErrAnd r (λ x. x ≡ e) → r ≡ Err e
handed_on (Ok x) e h = elim h [ ]
handed_on (Err x) e h = ap Err h

abbrev error_or : {X E : Type 0} → E → Result X E → E
error_or d (Ok x) = d
error_or d (Err e) = e

-- where nothing was there, the error that stands in its place is handed on, in its new form
pub missing-handed : {X Y C E : Type 0} (f : C → E) (o : Option X) (why e : C) (r : Result Y E) → ok_or o why ≡ Err e → IsErrAnd r (λ x. x ≡ f e) → (None ≡ o) × (r ≡ Err (f why))
missing-handed f None why e r h i = (λ _. None, handed_on r (f e) i ∙ ap (λ c. Err (f c)) (sym (ap (error_or why) h)))
missing-handed f (Some x) why e r h i = let z : ◌≡◌ {A = ℕ} 0 1 = cc in absurd (omega arith)
