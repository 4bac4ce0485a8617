use Rattle.std.proofs.Common.{◌≡◌, ℕ, ◌+◌, ◌-◌, ◌<◌, ◌≤◌, List, length, take, get_or, is_some, Some, sym, refl, ap, ◌∙◌, arith, rules}
use Rattle.std.specs.List.{remove}
use Rattle.std.proofs.lemmas.List.{same_lists, places}
use Rattle.std.proofs.lemmas.Bool.{cases_lt}
use Rattle.pending.specs.declared.row.Pending.{Pending}
use Rattle.pending.specs.declared.table.PendingTable.{PendingTable}
use Rattle.pending.specs.Tables.{rows_of, place}
use Rattle.pending.proofs.Found.{length-rows, found, absent}
use Rattle.pending.proofs.table.PendingTable.remove.Goals as goal

-- the first n elements, as those behind the place i moved one down
closed : (xs ys : List Pending) (n i : ℕ) → i < n → n ≤ length xs → length ys ≡ length xs
    → ((k : ℕ) (d : Pending) → i ≤ k → k < i + (n - (i + 1)) → get_or ys k d ≡ get_or xs (i + 1 + (k - i)) d)
    → ((k : ℕ) (d : Pending) → k < i → get_or ys k d ≡ get_or xs k d) → take (n - 1) ys ≡ remove (take n xs) i
closed xs ys n i l m long moved before =
    same_lists _ _ (search (rules, places)) (λ k d h. grind (arith, places, cases_lt k i, moved k d, before k d))

in_use : (t : PendingTable) (n i : ℕ) → place n (rows_of t) ≡ Some i → (i < t.len) × (t.len ≤ 64)
in_use t n i e = (omega (arith, (found n (rows_of t) i e).there, length-rows t), t.few)

pub returns-in_default : goal.returns-in_default
returns-in_default c =
    let none = absent c.args.number (rows_of c.args.self.now) (sym c.in_default.ensures) in
    record { value = sym (ap is_some none.0); rows = sym none.1; unchanged = refl }

pub overflow_add-place : goal.overflow_add-place
overflow_add-place c = let l = in_use c.args.self.now c.args.number c.in-Some.place (sym c.in-Some.ensures) in omega arith

pub copy_within-requires : goal.copy_within-requires
copy_within-requires c =
    let t = c.args.self.now in
    let whole = t.whole in
    let l = in_use t c.args.number c.in-Some.place (sym c.in-Some.ensures) in
    record { start_le_end = omega arith; in_bounds = omega arith; dest_in_bounds = omega arith; not_exhausted = tt }

pub returns : goal.returns
returns c =
    let t = c.args.self.now in
    let whole = t.whole in
    let i = c.in-Some.place in
    let f = found c.args.number (rows_of t) i (sym c.in-Some.ensures) in
    let l = in_use t c.args.number i (sym c.in-Some.ensures) in
    let rows = closed t.places c.copy_within.new.self t.len i l.0 (omega arith) c.copy_within.ensures.len c.copy_within.ensures.by_index.0 c.copy_within.ensures.by_index.1 in
    record { value = sym (ap is_some f.row); rows = rows ∙ sym f.rest; unchanged = tt }
