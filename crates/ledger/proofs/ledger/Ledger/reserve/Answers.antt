use Rattle.std.proofs.Common.{◌≡◌, ℕ, Bool, false, cond, not, List, [], ◌∷◌, ◌++◌, sym, refl, ap, ◌∙◌, subst}
use Rattle.pending.specs.declared.row.Pending.{Pending}
use Rattle.accounts.specs.Views.{figures_list}
use Rattle.pending.specs.Tables.{rows_of, is_full}
use Rattle.ledger.specs.declared.ledger.Ledger.{Ledger}
use Rattle.ledger.specs.declared.reservation.Reservation.{Reservation}
use Rattle.accounts.proofs.Answered.{some-when}
use Rattle.ledger.specs.Books.{Sound, next_row, row_of}
use Rattle.ledger.specs.Views.{view}
use Rattle.ledger.proofs.Same.{by-reserve}
use Rattle.ledger.proofs.Stays.{sound-admitted, fits-row}
use Rattle.ledger.proofs.ledger.Ledger.reserve.Goals as goal

rows_more : (l : Ledger) (v : Reservation) (n : ℕ) (r : Bool) (p : Pending) (ps : List Pending) → false ≡ is_full (rows_of l.pending) → p ≡ row_of n v → r ≡ not (is_full (rows_of l.pending)) → ps ≡ cond r (rows_of l.pending ++ p ∷ []) (rows_of l.pending) → ps ≡ rows_of l.pending ++ row_of n v ∷ []
rows_more l v n r p ps room is t e =
    e
    ∙ ap (λ b. cond b (rows_of l.pending ++ p ∷ []) (rows_of l.pending)) (t ∙ ap not (sym room))
    ∙ ap (λ q. rows_of l.pending ++ q ∷ []) is

pub invariant_of-self-2 : goal.invariant_of-self-2
invariant_of-self-2 c =
    let l = c.args.self.now in
    let v = c.args.reservation in
    let next = some-when _ _ _ c.in_ok-number.ensures in
    let held = c.if-not-hold.ensures in
    record {
      sound =
          subst Sound (sym (by-reserve (view l) v c.in_ok-number.number _ _ next.1 (rows_more l v c.in_ok-number.number c.add.result c.row.result _ c.if-is_full.ensures c.row.ensures c.add.ensures.value c.add.ensures.rows) held.figures))
          (sound-admitted (next_row (view l) v) (view l) refl (fits-row (figures_list l.accounts) (next_row (view l) v) (sym held.answer)) l.sound);
    }
