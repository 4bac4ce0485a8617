-- Each change keeps the books sound.
use Rattle.std.proofs.Common.{◌≡◌, ℕ, ◌+◌, ◌≤◌, Bool, true, not, ◌&&◌, eqb, List, [], ◌∷◌, ◌++◌, length, get_or, Some, sym, refl, ap, ◌∙◌, subst, arith}
use Rattle.std.proofs.lemmas.Bool.Decides.{nat_tests}
use Rattle.std.proofs.lemmas.Bool.{and_parts, and_from, lt-ltb, le-leb, ne_eqb}
use Rattle.pending.specs.declared.row.Pending.{Pending}
use Rattle.pending.specs.Rows.{lookup, dropped}
use Rattle.accounts.specs.declared.figures.Figures.{Figures}
use Rattle.accounts.specs.declared.limits.Limits.{Limits}
use Rattle.accounts.specs.Figures.{unset, can_hold_in, can_hold_out, can_hold, can_end, is_set_up, takes_in, takes_out}
use Rattle.accounts.proofs.Adjusted.{length-held, length-ended}
use Rattle.accounts.specs.SetUps.{new_accounts}
use Rattle.ledger.specs.Sums.{in_at, out_at, every, accounts_fit, is_given}
use Rattle.ledger.specs.Books.{Books, figures_at, new_books, admitted, hold_of, marked_at, closed, Sound}
use Rattle.ledger.proofs.RowLaws.{total-push, total-dropped, total-marked, every-push, every-dropped, every-marked, every_one, every-so, rise-push, rise-dropped, rise-marked, placed, in-own, out-own}
use Rattle.ledger.proofs.AccountLaws.{in_held, out-held, in-ended, out-ended}

new-zeros : (limits : List Limits) (a : ℕ) → ((get_or (new_accounts limits) a unset).held_in ≡ 0) × ((get_or (new_accounts limits) a unset).held_out ≡ 0)
new-zeros [] a = (refl, refl)
new-zeros (l ∷ ls) Prim.Native.Nat.zero = (refl, refl)
new-zeros (l ∷ ls) (Prim.Native.Nat.suc a) = new-zeros ls a

pub sound-new : (limits : List Limits) → Sound (new_books limits)
sound-new limits = (refl, refl, refl, λ a. (new-zeros limits a).0, λ a. (new-zeros limits a).1)

given-more : (n : ℕ) (rs : List Pending) → every (is_given n) rs ≡ true → every (is_given (n + 1)) rs ≡ true
given-more n rs h = every-so (is_given n) (is_given (n + 1)) (λ r e. grind (arith, nat_tests)) rs h

-- the row has the next number, and its accounts are set up and differ
pub sound-admitted : (r : Pending) (b : Books) → r.number ≡ b.last + 1 → accounts_fit (length b.accounts) r ≡ true → Sound b → Sound (admitted r b)
sound-admitted r b n fit s =
    let p = placed (length b.accounts) r fit in (
      rise-push 0 b.last b.rows r (omega arith) (omega arith) s.0 s.1,
      every-push (is_given r.number) b.rows r (subst (λ k. every (is_given k) b.rows ≡ true) (sym n) (given-more b.last b.rows s.1)) (le-leb r.number r.number (omega arith)),
      subst (λ k. every (accounts_fit k) (b.rows ++ r ∷ []) ≡ true) (sym (length-held (hold_of r) b.accounts)) (every-push (accounts_fit (length b.accounts)) b.rows r s.2 fit),
      λ a. in_held b.accounts r a p.sender ∙ ap (λ v. v + in_at a r) (s.3 a) ∙ sym (total-push (in_at a) b.rows r),
      λ a. out-held b.accounts r a p.outgoing ∙ ap (λ v. v + out_at a r) (s.4 a) ∙ sym (total-push (out_at a) b.rows r),
    )

pub sound-marked : (n : ℕ) (b : Books) → Sound b → Sound (marked_at n b)
sound-marked n b s = (
  rise-marked 0 n b.rows ∙ s.0,
  every-marked (is_given b.last) (λ r. refl) n b.rows ∙ s.1,
  every-marked (accounts_fit (length b.accounts)) (λ r. refl) n b.rows ∙ s.2,
  λ a. s.3 a ∙ sym (total-marked (in_at a) (λ r. refl) n b.rows),
  λ a. s.4 a ∙ sym (total-marked (out_at a) (λ r. refl) n b.rows),
)

pub sound-closed : (paid : Bool) (r : Pending) (b : Books) → lookup r.number b.rows ≡ Some r → Sound b → Sound (closed paid r b)
sound-closed paid r b e s =
    let p = placed (length b.accounts) r (every_one (accounts_fit (length b.accounts)) r.number b.rows r e s.2) in (
      rise-dropped 0 r.number b.rows s.0,
      every-dropped (is_given b.last) r.number b.rows s.1,
      subst (λ k. every (accounts_fit k) (dropped r.number b.rows) ≡ true) (sym (length-ended paid (hold_of r) b.accounts)) (every-dropped (accounts_fit (length b.accounts)) r.number b.rows s.2),
      λ a. in-ended b.accounts r a paid p.sender ∙ omega (arith, s.3 a, total-dropped (in_at a) r.number b.rows r e),
      λ a. out-ended b.accounts r a paid p.outgoing ∙ omega (arith, s.4 a, total-dropped (out_at a) r.number b.rows r e),
    )

-- what may be held may be the amounts of a row
pub fits-row : (xs : List Figures) (r : Pending) → can_hold xs (hold_of r) ≡ true → accounts_fit (length xs) r ≡ true
fits-row xs r h =
    let one = and_parts (can_hold_in xs r.sender r.amount_in && can_hold_out xs r.outgoing r.amount_out) (not (eqb r.sender r.outgoing)) h in
    let two = and_parts (can_hold_in xs r.sender r.amount_in) (can_hold_out xs r.outgoing r.amount_out) one.0 in
    let from = and_parts (is_set_up xs r.sender) (takes_in r.amount_in (get_or xs r.sender unset)) two.0 in
    let to = and_parts (is_set_up xs r.outgoing) (takes_out r.amount_out (get_or xs r.outgoing unset)) two.1 in
    and_from _ _ (and_from _ _ from.0 to.0) one.1

-- the accounts of sound books hold the amounts of each row
pub can-end : (r : Pending) (b : Books) → lookup r.number b.rows ≡ Some r → Sound b → can_end b.accounts (hold_of r) ≡ true
can-end r b e s =
    let p = placed (length b.accounts) r (every_one (accounts_fit (length b.accounts)) r.number b.rows r e s.2) in
    let enough-in : r.amount_in ≤ (figures_at b r.sender).held_in = omega (arith, s.3 r.sender, total-dropped (in_at r.sender) r.number b.rows r e, in-own r r.sender refl) in
    let enough-out : r.amount_out ≤ (figures_at b r.outgoing).held_out = omega (arith, s.4 r.outgoing, total-dropped (out_at r.outgoing) r.number b.rows r e, out-own r r.outgoing refl) in
    and_from _ _
    (and_from _ _
    (and_from _ _ (and_from _ _ (lt-ltb r.sender _ p.sender) (lt-ltb r.outgoing _ p.outgoing)) (ap not (ne_eqb r.sender r.outgoing p.differ)))
    (le-leb _ _ enough-in))
    (le-leb _ _ enough-out)
