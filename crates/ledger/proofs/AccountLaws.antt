-- The held sums of each account, as the amounts of a row are held and freed.
use Rattle.std.proofs.Common.{◌≡◌, ℕ, ◌+◌, ◌-◌, ◌<◌, Bool, List, length, get_or, refl, ap, ◌∙◌, ⊎_elim, arith}
use Rattle.std.proofs.lemmas.Bool.{cases_eq}
use Rattle.pending.specs.declared.row.Pending.{Pending}
use Rattle.accounts.specs.declared.figures.Figures.{Figures}
use Rattle.accounts.specs.Figures.{unset, adjust, hold_in, hold_out, end_in, end_out, held, ended}
use Rattle.ledger.specs.Sums.{in_at, out_at}
use Rattle.ledger.specs.Books.{hold_of}
use Rattle.accounts.proofs.Adjusted.{length-adjust, there, elsewhere, untouched}
use Rattle.ledger.proofs.RowLaws.{in-own, in-other, out-own, out-other}

-- by how much a figure grows at the one account that changes, and by how much it falls
grows : (g : Figures → ℕ) (f : Figures → Figures) (m w : ℕ) (i a : ℕ) (xs : List Figures) → i < length xs → ((x : Figures) → g (f x) ≡ g x + m) → (a ≡ i → w ≡ m) → ((a ≡ i → ⊥) → w ≡ 0) → g (get_or (adjust i f xs) a unset) ≡ g (get_or xs a unset) + w
grows g f m w i a xs l e own other =
    ⊎_elim
    (λ (q : a ≡ i). ap g (there i f xs a l q) ∙ omega (arith, e (get_or xs a unset), own q))
    (λ (q : a ≡ i → ⊥). ap g (elsewhere i f xs a q) ∙ omega (arith, other q))
    (cases_eq a i)

falls : (g : Figures → ℕ) (f : Figures → Figures) (m w : ℕ) (i a : ℕ) (xs : List Figures) → i < length xs → ((x : Figures) → g (f x) ≡ g x - m) → (a ≡ i → w ≡ m) → ((a ≡ i → ⊥) → w ≡ 0) → g (get_or (adjust i f xs) a unset) ≡ g (get_or xs a unset) - w
falls g f m w i a xs l e own other =
    ⊎_elim
    (λ (q : a ≡ i). ap g (there i f xs a l q) ∙ omega (arith, e (get_or xs a unset), own q))
    (λ (q : a ≡ i → ⊥). ap g (elsewhere i f xs a q) ∙ omega (arith, other q))
    (cases_eq a i)

module _ (xs : List Figures) (r : Pending) (a : ℕ) where
  pub in_held : r.sender < length xs → (get_or (held (hold_of r) xs) a unset).held_in ≡ (get_or xs a unset).held_in + in_at a r
  in_held l =
      untouched (λ f. f.held_in) (hold_out r.amount_out) (λ f. refl) r.outgoing (adjust r.sender (hold_in r.amount_in) xs) a
      ∙ grows (λ f. f.held_in) (hold_in r.amount_in) r.amount_in (in_at a r) r.sender a xs l (λ f. refl) (in-own r a) (in-other r a)

  pub out-held : r.outgoing < length xs → (get_or (held (hold_of r) xs) a unset).held_out ≡ (get_or xs a unset).held_out + out_at a r
  out-held l =
      let ys = adjust r.sender (hold_in r.amount_in) xs in
      grows (λ f. f.held_out) (hold_out r.amount_out) r.amount_out (out_at a r) r.outgoing a ys (omega (arith, length-adjust r.sender (hold_in r.amount_in) xs)) (λ f. refl) (out-own r a) (out-other r a)
      ∙ ap (λ v. v + out_at a r) (untouched (λ f. f.held_out) (hold_in r.amount_in) (λ f. refl) r.sender xs a)

  pub in-ended : (paid : Bool) → r.sender < length xs → (get_or (ended paid (hold_of r) xs) a unset).held_in ≡ (get_or xs a unset).held_in - in_at a r
  in-ended paid l =
      untouched (λ f. f.held_in) (end_out paid r.amount_out) (λ f. refl) r.outgoing (adjust r.sender (end_in paid r.amount_in) xs) a
      ∙ falls (λ f. f.held_in) (end_in paid r.amount_in) r.amount_in (in_at a r) r.sender a xs l (λ f. refl) (in-own r a) (in-other r a)

  pub out-ended : (paid : Bool) → r.outgoing < length xs → (get_or (ended paid (hold_of r) xs) a unset).held_out ≡ (get_or xs a unset).held_out - out_at a r
  out-ended paid l =
      let ys = adjust r.sender (end_in paid r.amount_in) xs in
      falls (λ f. f.held_out) (end_out paid r.amount_out) r.amount_out (out_at a r) r.outgoing a ys (omega (arith, length-adjust r.sender (end_in paid r.amount_in) xs)) (λ f. refl) (out-own r a) (out-other r a)
      ∙ ap (λ v. v - out_at a r) (untouched (λ f. f.held_out) (end_in paid r.amount_in) (λ f. refl) r.sender xs a)
