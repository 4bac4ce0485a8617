use Rattle.std.proofs.Common.{◌≡◌, ℕ, ◌+◌, ◌<◌, Bool, true, false, cond, List, [], ◌∷◌, length, get_or, drop, Some, sym, refl, ap, ◌∙◌, arith}
use Rattle.std.proofs.lemmas.List.{at_drop_more, at_drop_all, get_or-take}
use Rattle.pending.specs.declared.row.Pending.{Pending}
use Rattle.pending.specs.declared.table.PendingTable.{PendingTable}
use Rattle.pending.specs.Rows.{vacant, ends_before, earliest_from, earliest}
use Rattle.pending.specs.Tables.{rows_of}
use Rattle.pending.proofs.Found.{length-rows}
use Rattle.pending.proofs.table.PendingTable.earliest.Goals as goal
use Rattle.pending.proofs.table.PendingTable.earliest.Goals.{then-ends_before, else-ends_before}

-- one place further
step : (t : PendingTable) (p : Pending) (i : ℕ) → i < t.len → earliest_from p (drop i (rows_of t)) ≡ earliest_from (cond (ends_before (get_or t.places i vacant) p) (get_or t.places i vacant) p) (drop (i + 1) (rows_of t))
step t p i l =
    at_drop_more (earliest_from p) (rows_of t) i vacant (omega (arith, length-rows t))
    ∙ ap (λ (r : Pending). earliest_from (cond (ends_before r p) r p) (drop (i + 1) (rows_of t))) (get_or-take t.len t.places i vacant l)

-- the first row and the others
from_first : (rs : List Pending) → 0 < length rs → earliest rs ≡ Some (earliest_from (get_or rs 0 vacant) (drop 1 rs))
from_first [] l = absurd (omega arith)
from_first (r ∷ rs) l = refl

-- the best of the places so far stays the best with one more
again : (t : PendingTable) (b i j : ℕ) (e : Pending) (w : Bool) → i < t.len → b < i → w ≡ ends_before (get_or t.places i vacant) (get_or t.places b vacant) → j ≡ cond w i b → earliest_from (get_or t.places b vacant) (drop i (rows_of t)) ≡ e → (j < i + 1) × (earliest_from (get_or t.places j vacant) (drop (i + 1) (rows_of t)) ≡ e)
again t b i j e true l m h g inv = (
  omega arith,
  ap (λ k. earliest_from (get_or t.places k vacant) (drop (i + 1) (rows_of t))) g
      ∙ ap (λ w. earliest_from (cond w (get_or t.places i vacant) (get_or t.places b vacant)) (drop (i + 1) (rows_of t))) h
      ∙ sym (step t (get_or t.places b vacant) i l)
      ∙ inv,
)
again t b i j e false l m h g inv = (
  omega arith,
  ap (λ k. earliest_from (get_or t.places k vacant) (drop (i + 1) (rows_of t))) g
      ∙ ap (λ w. earliest_from (cond w (get_or t.places i vacant) (get_or t.places b vacant)) (drop (i + 1) (rows_of t))) h
      ∙ sym (step t (get_or t.places b vacant) i l)
      ∙ inv,
)

pub loop-i-preserved : goal.loop-i-preserved
loop-i-preserved c =
    let t = c.args.self.now in
    elim c.if-ends_before.branch [
      | then-ends_before w ↦ again t c.loop-i.best c.loop-i.i c.if-ends_before.best _ true c.loop-i-test.true c.loop-i.invariant.0 w.if-ends_before.ensures w.best-is c.loop-i.invariant.1
      | else-ends_before w ↦ again t c.loop-i.best c.loop-i.i c.if-ends_before.best _ false c.loop-i-test.true c.loop-i.invariant.0 w.if-ends_before.ensures w.best-is c.loop-i.invariant.1
    ]

pub returns : goal.returns
returns c =
    let t = c.args.self.now in
    let some = c.if-self-eq0.false in
    let n = length-rows t in
    let l : c.loop-i.best < t.len = omega (arith, c.loop-i.invariant.0) in (
      omega arith,
      from_first (rows_of t) (omega arith)
          ∙ ap (λ p. Some (earliest_from p (drop 1 (rows_of t)))) (get_or-take t.len t.places 0 vacant (omega arith))
          ∙ ap Some (sym c.loop-i.invariant.1 ∙ at_drop_all (earliest_from (get_or t.places c.loop-i.best vacant)) (rows_of t) c.loop-i.i (omega arith))
          ∙ ap Some (sym (get_or-take t.len t.places c.loop-i.best vacant l)),
    )
