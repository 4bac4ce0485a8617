-- The limits of an account, as tests and as facts. Assumes nothing.
use Rattle.std.proofs.Common.{◌≡◌, ℕ, ◌<◌, ◌≤◌, Bool, true, false, cond, T, leb, ℤ, pos, ◌-ℤ◌, ◌≤ℤ◌, ◌<ℤ◌, Some, sym, refl, ap, ◌∙◌, ⊎_elim, arith}
use Rattle.std.proofs.option.Match.{when_true}
use Rattle.std.proofs.lemmas.Int.{ints}
use Rattle.std.proofs.lemmas.Bool.{and_from, cases_lt, le-leb, lt-leb}
use Rattle.std.specs.Bool.{then_some}
use Rattle.accounts.specs.declared.figures.Figures.{Figures}
use Rattle.accounts.specs.Figures.{Keeps, within, room_in, room_out, takes_in, takes_out, with_balance, settled_balance, settled, can_settle}

-- an amount is taken if it is at most the room
pub takes-in : (m : ℕ) (f : Figures) → pos m ≤ℤ room_in f → takes_in m f ≡ true
takes-in m f h = grind (arith, ints)

pub refuses-in : (m : ℕ) (f : Figures) → room_in f <ℤ pos m → takes_in m f ≡ false
refuses-in m f h = grind (arith, ints)

pub takes-out : (m : ℕ) (f : Figures) → pos m ≤ℤ room_out f → takes_out m f ≡ true
takes-out m f h = grind (arith, ints)

pub refuses-out : (m : ℕ) (f : Figures) → room_out f <ℤ pos m → takes_out m f ≡ false
refuses-out m f h = grind (arith, ints)

-- so a comparison with the room tells whether it is
pub told_in : (m r : ℕ) (f : Figures) → pos r ≡ room_in f → leb m r ≡ takes_in m f
told_in m r f e =
    ⊎_elim (λ (l : r < m). lt-leb m r l ∙ sym (refuses-in m f (omega (arith, ints))))
    (λ (l : m ≤ r). le-leb m r l ∙ sym (takes-in m f (omega (arith, ints)))) (cases_lt r m)

pub told-out : (m r : ℕ) (f : Figures) → pos r ≡ room_out f → leb m r ≡ takes_out m f
told-out m r f e =
    ⊎_elim (λ (l : r < m). lt-leb m r l ∙ sym (refuses-out m f (omega (arith, ints))))
    (λ (l : m ≤ r). le-leb m r l ∙ sym (takes-out m f (omega (arith, ints)))) (cases_lt r m)

holds : (b : Bool) → T b → b ≡ true
holds true t = refl
holds false t = absurd t

pub keeps-within : (f : Figures) → Keeps f → within f ≡ true
keeps-within f k = and_from _ _ (holds _ k.0.le) (holds _ k.1.le)

-- a settlement moves the balance away from one limit, so that the other alone decides
pub can-lower : (m : ℕ) (f : Figures) → Keeps f → pos m ≤ℤ room_out f → can_settle 0 m f ≡ true
can-lower m f k h = keeps-within (settled 0 m f) (omega (arith, ints, k.0), omega (arith, ints), k.2, k.3)

pub can-raise : (m : ℕ) (f : Figures) → Keeps f → pos m ≤ℤ room_in f → can_settle 1 m f ≡ true
can-raise m f k h = keeps-within (settled 1 m f) (omega (arith, ints), omega (arith, ints, k.1), k.2, k.3)

pub settled-by : (way m : ℕ) (f : Figures) (z : ℤ) → can_settle way m f ≡ true → z ≡ settled_balance way m f → Some (with_balance z f) ≡ then_some (can_settle way m f) (settled way m f)
settled-by way m f z can e = ap (λ x. Some (with_balance x f)) e ∙ when_true (can_settle way m f) (settled way m f) can

-- what is booked of an amount: nothing or all of it
pub booked_bounds : (paid : Bool) (m : ℕ) (z : ℤ) → z ≡ cond paid (pos m) (pos 0) → (pos 0 ≤ℤ z) × (z ≤ℤ pos m)
booked_bounds true m z e = (omega (arith, ints), omega (arith, ints))
booked_bounds false m z e = (omega (arith, ints), omega (arith, ints))

pub booked-out : (paid : Bool) (m : ℕ) (z b after : ℤ) → z ≡ cond paid (pos m) (pos 0) → after ≡ (b -ℤ z) → after ≡ cond paid (b -ℤ pos m) b
booked-out true m z b after e f = cc
booked-out false m z b after e f = omega (arith, ints)
