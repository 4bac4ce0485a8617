use Rattle.std.proofs.Common.{◌≡◌, ℕ, Bool, true, List, Some, sym, ap, ◌∙◌, subst}
use Rattle.std.proofs.lemmas.Bool.{true≢false}
use Rattle.accounts.specs.Figures.{can_end, ended}
use Rattle.accounts.specs.declared.figures.Figures.{Figures}
use Rattle.accounts.specs.declared.hold.Hold.{Hold}
use Rattle.accounts.specs.Views.{figures_list}
use Rattle.pending.specs.Rows.{lookup, dropped}
use Rattle.pending.specs.declared.row.Pending.{Pending}
use Rattle.pending.specs.Tables.{rows_of}
use Rattle.ledger.specs.declared.ledger.Ledger.{Ledger}
use Rattle.ledger.specs.Books.{Books, Sound, hold_of, closed}
use Rattle.ledger.specs.Views.{view}
use Rattle.ledger.proofs.RowLaws.{lookup-number}
use Rattle.ledger.proofs.Same.{same_books}
use Rattle.ledger.proofs.Stays.{sound-closed, can-end}
use Rattle.ledger.proofs.ledger.Ledger.end.Goals as goal

-- a row that its number finds is found by the number that it has
found-again : (b : Books) (n : ℕ) (r : Pending) → Some r ≡ lookup n b.rows → lookup r.number b.rows ≡ Some r
found-again b n r e = ap (λ m. lookup m b.rows) (lookup-number n b.rows r (sym e)) ∙ sym e

-- what the row holds is held
held-there : (l : Ledger) (n : ℕ) (r : Pending) → Some r ≡ lookup n (rows_of l.pending) → can_end (figures_list l.accounts) (hold_of r) ≡ true
held-there l n r e = can-end r (view l) (found-again (view l) n r e) l.sound

pub returns-then-not-end-clause-value : goal.returns-then-not-end-clause-value
returns-then-not-end-clause-value c =
    let l = c.args.self.now in
    absurd (true≢false (sym (held-there l c.args.number c.in_ok-row.row c.in_ok-row.ensures) ∙ sym (c.if-not-end.ensures.answer ∙ ap (can_end (figures_list l.accounts)) c.hold_of.ensures)))

-- what the parts did is what was to be done
ended_so : (l : Ledger) (n : ℕ) (paid : Bool) (r : Pending) (h : Hold) (ps : List Pending) (xs : List Figures) → Some r ≡ lookup n (rows_of l.pending) → h ≡ hold_of r → ps ≡ dropped n (rows_of l.pending) → xs ≡ ended paid h (figures_list l.accounts) → ◌≡◌ {A = Books} (record { time = l.time; last = l.last; rows = ps; accounts = xs }) (closed paid r (view l))
ended_so l n paid r h ps xs e is p x =
    same_books l.time l.last ps (dropped r.number (rows_of l.pending)) xs (ended paid (hold_of r) (figures_list l.accounts))
    (p ∙ ap (λ m. dropped m (rows_of l.pending)) (sym (lookup-number n (rows_of l.pending) r (sym e))))
    (x ∙ ap (λ g. ended paid g (figures_list l.accounts)) is)

pub invariant_of-self-2 : goal.invariant_of-self-2
invariant_of-self-2 c =
    let l = c.args.self.now in
    let r = c.in_ok-row.row in
    record {
      sound =
          subst Sound (sym (ended_so l c.args.number c.args.fulfilled r c.hold_of.result _ _ c.in_ok-row.ensures c.hold_of.ensures c.remove.ensures.rows c.if-not-end.ensures.figures))
          (sound-closed c.args.fulfilled r (view l) (found-again (view l) c.args.number r c.in_ok-row.ensures) l.sound);
    }

pub returns-clause-books : goal.returns-clause-books
returns-clause-books c =
    ended_so c.args.self.now c.args.number c.args.fulfilled c.in_ok-row.row c.hold_of.result _ _ c.in_ok-row.ensures c.hold_of.ensures c.remove.ensures.rows c.if-not-end.ensures.figures
