use Rattle.std.proofs.Common.{◌≡◌, ℕ, ◌<◌, get_or, take, set, is_some, Some, sym, refl, ap, ◌∙◌, arith}
use lib.Seq.{take-set-lt}
use Rattle.std.proofs.lemmas.List.{get_or-take}
use Rattle.pending.specs.declared.table.PendingTable.{PendingTable}
use Rattle.pending.specs.Rows.{vacant, as_sent, marked}
use Rattle.pending.specs.Tables.{rows_of, place}
use Rattle.pending.proofs.Found.{length-rows, found, Found, absent}
use Rattle.pending.proofs.table.PendingTable.mark.Goals as goal

rows-marked : (t : PendingTable) (n i : ℕ) → Found n (rows_of t) i → take t.len (set t.places i (as_sent (get_or t.places i vacant))) ≡ marked n (rows_of t)
rows-marked t n i f =
    let l : i < t.len = omega (arith, f.there, length-rows t) in
    take-set-lt t.len t.places i _ l
    ∙ ap (λ p. set (rows_of t) i (as_sent p)) (sym (get_or-take t.len t.places i vacant l))
    ∙ sym f.mark

below : (t : PendingTable) (n i : ℕ) → place n (rows_of t) ≡ Some i → i < 64
below t n i e =
    let few = t.few in
    omega (arith, (found n (rows_of t) i e).there, length-rows t)

pub returns-in_default : goal.returns-in_default
returns-in_default c =
    let t = c.args.self.now in
    let none = absent c.args.number (rows_of t) (sym c.in_default.ensures) in
    record { value = sym (ap is_some none.0); rows = sym none.2; unchanged = refl }

pub offset_bounds-self-place : goal.offset_bounds-self-place
offset_bounds-self-place c = let l = below c.args.self.now c.args.number c.in-Some.place (sym c.in-Some.ensures) in omega arith

pub bounds-self-place : goal.bounds-self-place
bounds-self-place c = below c.args.self.now c.args.number c.in-Some.place (sym c.in-Some.ensures)

pub returns : goal.returns
returns c =
    let t = c.args.self.now in
    let f = found c.args.number (rows_of t) c.in-Some.place (sym c.in-Some.ensures) in
    record { value = sym (ap is_some f.row); rows = rows-marked t c.args.number c.in-Some.place f; unchanged = tt }
