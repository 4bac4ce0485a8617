-- When two plain ledgers are the same, and what is told where a test fails.
use Rattle.std.proofs.Common.{◌≡◌, ℕ, ◌+◌, Bool, true, false, List, [], ◌∷◌, ◌++◌, length, None, sym, ap, ◌∙◌}
use mathlib.Core.Bool.{Bool-set}
use native.Mathlib.Nat.{ℕ_set}
use Rattle.std.specs.Bool.{then_some}
use Rattle.pending.specs.declared.row.Pending.{Pending}
use Rattle.accounts.specs.declared.figures.Figures.{Figures}
use Rattle.accounts.specs.Figures.{held}
use Rattle.ledger.specs.declared.reservation.Reservation.{Reservation}
use Rattle.ledger.specs.Sums.{sum_in, sum_out, every, accounts_fit, is_given, rise}
use Rattle.ledger.specs.Books.{Books, figures_at, Sound, admitted, row_of, next_row}

-- two proofs that a plain ledger is sound are the same
sound_prop : (b : Books) (s t : Sound b) → s ≡ t
sound_prop b s t = λ i. (
  Bool-set (rise 0 b.rows) true s.0 t.0 i,
  Bool-set (every (is_given b.last) b.rows) true s.1 t.1 i,
  Bool-set (every (accounts_fit (length b.accounts)) b.rows) true s.2 t.2 i,
  λ a. ℕ_set (figures_at b a).held_in (sum_in a b.rows) (s.3 a) (t.3 a) i,
  λ a. ℕ_set (figures_at b a).held_out (sum_out a b.rows) (s.4 a) (t.4 a) i,
)

-- an option that stands where a test is passed is none where the test fails
pub told_none : {A : Type 0} (b : Bool) (x : A) → b ≡ false → None ≡ then_some b x
told_none b x e = sym (ap (λ t. then_some t x) e)

pub same_books : (t n : ℕ) (ps qs : List Pending) (xs ys : List Figures) → ps ≡ qs → xs ≡ ys → ◌≡◌ {A = Books} (record { time = t; last = n; rows = ps; accounts = xs }) (record { time = t; last = n; rows = qs; accounts = ys })
same_books t n ps qs xs ys p x = cc

pub by-reserve : (b : Books) (v : Reservation) (n : ℕ) (ps : List Pending) (xs : List Figures) → n ≡ b.last + 1 → ps ≡ b.rows ++ row_of n v ∷ [] → xs ≡ held v.hold b.accounts → ◌≡◌ {A = Books} (record { time = b.time; last = n; rows = ps; accounts = xs }) (admitted (next_row b v) b)
by-reserve b v n ps xs e p x =
    same_books b.time n ps (b.rows ++ row_of n v ∷ []) xs (held v.hold b.accounts) p x
    ∙ ap (λ k. record { time = b.time; last = k; rows = b.rows ++ row_of k v ∷ []; accounts = held v.hold b.accounts }) e
